use Rattle.std.proofs.Common.{◌∙◌, sym, arith}
use Rattle.std.proofs.lemmas.Grind.{common_steps}
use Rattle.bt_lexer.proofs.FrontLemmas.{name_token, number_token, no_token_at_end}
use Rattle.bt_lexer.proofs.words.word.Goals as goal

pub returns-then-is_empty : goal.returns-then-is_empty
returns-then-is_empty c = no_token_at_end c.args.s.now (grind (arith, common_steps))

pub returns-then-is_letter : goal.returns-then-is_letter
returns-then-is_letter c = name_token c.args.s.now c.name_len.result (grind (arith, common_steps)) (sym c.is_letter.ensures ∙ c.if-is_letter.true) c.name_len.ensures

pub returns-then-is_digit : goal.returns-then-is_digit
returns-then-is_digit c = number_token c.args.s.now c.digits_len.result (grind (arith, common_steps)) (sym c.is_digit.ensures ∙ c.if-is_digit.true) c.digits_len.ensures
