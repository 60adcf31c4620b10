use Rattle.std.proofs.Common.{arith}
use Rattle.bt_time.proofs.InstantLemmas.{longer}
use Rattle.bt_time.proofs.format.number.Goals as goal

pub overflow_mul-n : goal.overflow_mul-n
overflow_mul-n c =
    let few = longer c.loop-byte.n c.loop-byte.byte-index (omega (arith, c.requires, c.loop-byte-test.true)) c.loop-byte.invariant.1 in
    omega (arith, few)

pub overflow_add-n : goal.overflow_add-n
overflow_add-n c =
    let few = longer c.loop-byte.n c.loop-byte.byte-index (omega (arith, c.requires, c.loop-byte-test.true)) c.loop-byte.invariant.1 in
    omega (arith, few)
