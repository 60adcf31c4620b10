use Rattle.std.proofs.Common.{arith}
use Rattle.bt_lexer.proofs.FrontLemmas.{too_large}
use Rattle.bt_lexer.proofs.words.is_too_large.Goals as goal

pub returns-then-value-digit : goal.returns-then-value-digit
returns-then-value-digit c = too_large c.args.digits.now c.loop-c.c-index c.loop-c.value 9223372036854775807 c.loop-c-test.true c.loop-c.invariant.value (omega arith)
