-- Texts in the language of mappings: what they are read as, and their faults.
--
-- A text is read as a mapping, or where a query alone may stand as a query. `R` says of which of the two is spoken: it relates a
-- mapping and the tokens that are read as it.
use Rattle.std.specs.Prelude.{◌≡◌, ℕ, ◌≤◌, List, length, ◌++◌, None, codes, decimal}
use Rattle.bt_lexer.specs.Lines.{HasTokens, HasFault}
use Rattle.bt_lexer.specs.Places.{line_of, column_of}
use Rattle.bt_lexer.specs.declared.token.LexFault.TheVariants as lexer
use Rattle.bt_lexer.specs.declared.token.Token.{Token}
use Rattle.bt_syntax.specs.Brackets.{deep_at}
use Rattle.bt_syntax.specs.Lexemes.{Lexemes, lexemes}
use Rattle.bt_syntax.specs.Places.{Refuses}
use Rattle.bt_syntax.specs.declared.fault.SyntaxFault.{SyntaxFault}
use Rattle.bt_syntax.specs.declared.fault.SyntaxFault.TheVariants as parser
use Rattle.bt_tree.specs.declared.tree.Mapping.{Mapping}
use Rattle.bt_mapping_text.specs.declared.fault.FaultKind.{FaultKind}
use Rattle.bt_mapping_text.specs.declared.fault.FaultKind.TheVariants as kind
use Rattle.bt_mapping_text.specs.declared.fault.TextFault.{TextFault}
use Rattle.bt_mapping_text.specs.declared.fault.Unread.{Unread}
use Rattle.bt_mapping_text.specs.declared.fault.Unread.TheVariants as unread

-- the text has tokens, no bracket of them is too deep, and they are read as the mapping
abbrev pub IsReadAs : (Mapping → Lexemes → Type 0) → List ℕ → Mapping → Type 0
IsReadAs R text m = (ts : List Token) × HasTokens text ts × (deep_at 0 (lexemes text ts) ≡ None) × R m (lexemes text ts)

-- the text has tokens, which the grammar refuses so
abbrev pub IsRefused : (Mapping → Lexemes → Type 0) → List ℕ → SyntaxFault → Type 0
IsRefused R text fault = (ts : List Token) × HasTokens text ts × Refuses R (lexemes text ts) (length text) fault

-- The text has a fault of this kind at this place: its first one without tokens, or else the first token at which no reading is
-- left, or before that the first bracket that is too deep.
abbrev pub HasFaultAt : (Mapping → Lexemes → Type 0) → List ℕ → FaultKind → ℕ → Type 0
HasFaultAt R text kind.Character at = HasFault text (lexer.Char at)
HasFaultAt R text kind.Text at = HasFault text (lexer.Text at)
HasFaultAt R text kind.Number at = HasFault text (lexer.Number at)
HasFaultAt R text kind.Syntax at = IsRefused R text (parser.Syntax at)
HasFaultAt R text kind.TooDeep at = IsRefused R text (parser.TooDeep at)

-- the text has this fault, at a byte of it or at its end
abbrev pub IsFault : (Mapping → Lexemes → Type 0) → List ℕ → TextFault → Type 0
IsFault R text fault = HasFaultAt R text fault.kind fault.at × (fault.at ≤ length text)

-- why the text isn't read
abbrev pub IsUnread : (Mapping → Lexemes → Type 0) → List ℕ → Unread → Type 0
IsUnread R text (unread.Fault fault) = IsFault R text fault
IsUnread R text unread.NoMemory = Unit {0}

-- a fault in words
abbrev pub words_of : FaultKind → List ℕ
words_of kind.Character = codes "character"
words_of kind.Text = codes "text"
words_of kind.Number = codes "number"
words_of kind.Syntax = codes "syntax"
words_of kind.TooDeep = codes "too deep"

-- words on a place of a text, with its line and its column
unfoldable pub printed : List ℕ → List ℕ → ℕ → List ℕ
printed words text at = words ++ codes " at line " ++ decimal (line_of text at) ++ codes " column " ++ decimal (column_of text at)
