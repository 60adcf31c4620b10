use Rattle.std.proofs.Common.{sym, ◌∙◌}
use Rattle.bt_lexer.proofs.ReadLemmas.{text_fault, char_fault}
use Rattle.bt_lexer.proofs.reading.no_token_fault.Goals as goal

pub returns-then-is_text_fault : goal.returns-then-is_text_fault
returns-then-is_text_fault c dot = text_fault c.args.s.now c.args.at dot (sym c.is_text_fault.ensures ∙ c.if-is_text_fault.true) c.requires.no_token

pub returns-else-is_text_fault : goal.returns-else-is_text_fault
returns-else-is_text_fault c dot = char_fault c.args.s.now c.args.at dot c.requires.some (sym c.is_text_fault.ensures ∙ c.if-is_text_fault.false) c.requires.no_token c.requires.no_gap
