-- What the text of a mapping says of `blobl`, and how its faults are told.
use Rattle.std.specs.Prelude.{◌≡◌, ◌↔◌, ℕ, ◌≤◌, List, length, min, ◌++◌, None, Contains, codes, decimal, Result, Ok, Err}
use Rattle.bt_lexer.specs.Lines.{HasTokens, HasFault}
use Rattle.bt_lexer.specs.Places.{line_of, column_of}
use Rattle.std.specs.List.Sorted.{IsStrictlySortedBy}
use Rattle.bt_lints.specs.Lints.{IsLint}
use Rattle.bt_lints.specs.Order.{by_place}
use Rattle.bt_lints.specs.Told.{kind_text}
use Rattle.bt_lints.specs.declared.lint.MapLint.{MapLint}
use Rattle.bt_lints.specs.declared.lint.Use.TheVariants as usage
use Rattle.bt_literals.specs.Literals.{AllRead, FirstBad, patterns}
use Rattle.bt_lexer.specs.declared.token.LexFault.TheVariants as lexer
use Rattle.bt_lexer.specs.declared.token.Token.{Token}
use Rattle.bt_syntax.specs.Brackets.{deep_at}
use Rattle.bt_syntax.specs.Grammar.{ReadsMapping}
use Rattle.bt_syntax.specs.Lexemes.{lexemes}
use Rattle.bt_syntax.specs.Places.{Refuses}
use Rattle.bt_syntax.specs.declared.fault.SyntaxFault.{SyntaxFault}
use Rattle.bt_syntax.specs.declared.fault.SyntaxFault.TheVariants as parser
use Rattle.bt_tree.specs.declared.tree.Mapping.{Mapping}
use Rattle.bt_blobl.specs.declared.course.Halt.{Halt}
use Rattle.bt_blobl.specs.declared.course.Halt.TheVariants as halt
use Rattle.bt_blobl.specs.declared.course.MappingFault.{MappingFault}
use Rattle.bt_blobl.specs.declared.course.MappingFault.TheVariants as faults
use Rattle.bt_blobl.specs.declared.course.Pass.{Pass}

-- the text has tokens, which the grammar refuses so
abbrev pub IsRefused : List ℕ → SyntaxFault → Type 0
IsRefused text fault = (ts : List Token) × HasTokens text ts × Refuses ReadsMapping (lexemes text ts) (length text) fault

-- the text has this fault at this place: the lexer's first one, or the parser's, which tells a bracket too deep before all else
abbrev pub HasMappingFault : MappingFault → ℕ → List ℕ → Type 0
HasMappingFault faults.Character at text = HasFault text (lexer.Char at)
HasMappingFault faults.Text at text = HasFault text (lexer.Text at)
HasMappingFault faults.Number at text = HasFault text (lexer.Number at)
HasMappingFault faults.Syntax at text = IsRefused text (parser.Syntax at)
HasMappingFault faults.TooDeep at text = IsRefused text (parser.TooDeep at)

-- the text is this mapping
abbrev pub IsTextOf : Mapping → List ℕ → Type 0
IsTextOf m text = (ts : List Token) × HasTokens text ts × (deep_at 0 (lexemes text ts) ≡ None) × ReadsMapping m (lexemes text ts)

-- a mapping has no lint
abbrev pub HasNoLints : Mapping → Type 0
HasNoLints m = (x : MapLint) → IsLint m usage.Mapping x → ⊥

-- a mapping has these lints and no other; they stand in order of place, and at one place in order of kind
pub record HasLints (m : Mapping) (lints : List MapLint) : Type 0 where
  pub some : 1 ≤ length lints
  pub all : (x : MapLint) → Contains lints x ↔ IsLint m usage.Mapping x
  pub in_order : IsStrictlySortedBy by_place lints

-- the text is this mapping, which runs: it has no lint, and each of its literal patterns is read
pub record RunsAs (text : List ℕ) (m : Mapping) : Type 0 where
  pub reads : IsTextOf m text
  pub no_lints : HasNoLints m
  pub patterns_read : AllRead (patterns m)

-- the text is a mapping with these lints
abbrev pub IsLintedText : List MapLint → List ℕ → Type 0
IsLintedText lints text = (m : Mapping) × IsTextOf m text × HasLints m lints

-- the text is a mapping without lints, and the literal pattern at this place is its first that isn't read
abbrev pub HasBadPattern : ℕ → List ℕ → Type 0
HasBadPattern at text = (m : Mapping) × IsTextOf m text × HasNoLints m × FirstBad at (patterns m)

-- the text is a mapping that runs
abbrev pub IsRunningText : List ℕ → Type 0
IsRunningText text = (m : Mapping) × RunsAs text m

-- what the text says where no line was mapped
abbrev pub HaltSays : Halt → List ℕ → Type 0
HaltSays (halt.Faulty fault at) text = HasMappingFault fault at text
HaltSays (halt.Lints lints) text = IsLintedText lints.list text
HaltSays (halt.Pattern at) text = HasBadPattern at text
HaltSays halt.NoSource text = IsRunningText text
HaltSays halt.NoMemory text = Unit {0}

-- what the text of the mapping says of the lines that were mapped, or of what kept the command from that
abbrev pub TextSays : Result Pass Halt → List ℕ → Type 0
TextSays (Ok pass) text = IsRunningText text
TextSays (Err halt) text = HaltSays halt text

abbrev pub fault_text : MappingFault → List ℕ
fault_text faults.Character = codes "character"
fault_text faults.Text = codes "text"
fault_text faults.Number = codes "number"
fault_text faults.Syntax = codes "syntax"
fault_text faults.TooDeep = codes "too deep"

-- a line of `err` on a mapping, by its line and its column
abbrev pub placed_line : List ℕ → ℕ → ℕ → List ℕ
placed_line said line column = codes "mapping: " ++ said ++ codes " at line " ++ decimal line ++ codes " column " ++ decimal column

-- that of a fault
abbrev pub fault_line : MappingFault → ℕ → ℕ → List ℕ
fault_line fault line column = placed_line (fault_text fault) line column

-- that of a place in the text. One behind the text's end, which no mapping of the text has, counts as its end
abbrev pub line_at : List ℕ → List ℕ → ℕ → List ℕ
line_at said text at = placed_line said (line_of text (min at (length text))) (column_of text (min at (length text)))

-- that of a lint
abbrev pub lint_line : List ℕ → MapLint → List ℕ
lint_line text l = line_at (kind_text l.kind) text l.at
