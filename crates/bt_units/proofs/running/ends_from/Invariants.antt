use Rattle.std.proofs.Common.{take}
use Rattle.bt_units.specs.Ends.{IsTestEnd}
use Rattle.bt_units.specs.Expected.{Each}
use Rattle.bt_units.proofs.running.ends_from.Given as goal

abbrev pub invariant-loop-i : goal.invariant-loop-i
invariant-loop-i l = Each (IsTestEnd l.config.doc) (take l.i l.tests) l.out
