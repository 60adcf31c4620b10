-- The faults of the lexer and of the parser as those of a text. Only the steps of the reading use these words.
use Rattle.std.specs.Prelude.{ℕ}
use Rattle.bt_lexer.specs.declared.token.LexFault.{LexFault}
use Rattle.bt_lexer.specs.declared.token.LexFault.TheVariants as lexer
use Rattle.bt_syntax.specs.declared.fault.SyntaxFault.{SyntaxFault}
use Rattle.bt_syntax.specs.declared.fault.SyntaxFault.TheVariants as parser
use Rattle.bt_mapping_text.specs.declared.fault.FaultKind.{FaultKind}
use Rattle.bt_mapping_text.specs.declared.fault.FaultKind.TheVariants as kind
use Rattle.bt_mapping_text.specs.declared.fault.Unread.{Unread}
use Rattle.bt_mapping_text.specs.declared.fault.Unread.TheVariants as unread

-- a fault of a kind at a place
abbrev pub fault_at : FaultKind → ℕ → Unread
fault_at k at = unread.Fault (record { kind = k; at = at })

abbrev pub lexer_fault : LexFault → Unread
lexer_fault (lexer.Char at) = fault_at kind.Character at
lexer_fault (lexer.Text at) = fault_at kind.Text at
lexer_fault (lexer.Number at) = fault_at kind.Number at
lexer_fault lexer.NoMemory = unread.NoMemory

abbrev pub parser_fault : SyntaxFault → Unread
parser_fault (parser.Syntax at) = fault_at kind.Syntax at
parser_fault (parser.TooDeep at) = fault_at kind.TooDeep at
parser_fault parser.NoMemory = unread.NoMemory
