use Rattle.std.proofs.Common.{take}
use Rattle.bt_units.specs.Expected.{Each, AreExpected}
use Rattle.bt_units.proofs.expected.messages.Given as goal

abbrev pub invariant-loop-i : goal.invariant-loop-i
invariant-loop-i l = Each AreExpected (take l.i l.list) l.out
