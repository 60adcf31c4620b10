use Rattle.std.proofs.Common.{take}
use Rattle.bt_units.specs.Expected.{Each, IsExpectedBatch}
use Rattle.bt_units.proofs.expected.batches.Given as goal

abbrev pub invariant-loop-i : goal.invariant-loop-i
invariant-loop-i l = Each IsExpectedBatch (take l.i l.list) l.out
