use Rattle.std.proofs.Common.{◌≤◌, ◌+◌, ◌*◌, ◌-◌, get_or, arith}
use Rattle.std.proofs.lemmas.Grind.{common_steps}
use Rattle.bt_lexer.specs.Tokens.{int_value}
use Rattle.bt_lexer.proofs.FrontLemmas.{int_step}
use Rattle.bt_lexer.proofs.pieces.int_value.Goals as goal

pub overflow_mul-value : goal.overflow_mul-value
overflow_mul-value c =
    let xs = c.as_bytes-c-items.result.now in
    let small : int_value xs ≤ 9223372036854775807 = rw c.as_bytes-c-items.ensures.value c.requires in
    let step : c.loop-c.value * 10 + (get_or xs c.loop-c.c-index 0 - 48) ≤ 9223372036854775807 = int_step xs c.loop-c.c-index c.loop-c.value 9223372036854775807 c.loop-c-test.true c.loop-c.invariant small in
    grind (arith, common_steps)

pub overflow_add-value : goal.overflow_add-value
overflow_add-value c =
    let xs = c.as_bytes-c-items.result.now in
    let small : int_value xs ≤ 9223372036854775807 = rw c.as_bytes-c-items.ensures.value c.requires in
    let step : c.loop-c.value * 10 + (get_or xs c.loop-c.c-index 0 - 48) ≤ 9223372036854775807 = int_step xs c.loop-c.c-index c.loop-c.value 9223372036854775807 c.loop-c-test.true c.loop-c.invariant small in
    grind (arith, common_steps)
