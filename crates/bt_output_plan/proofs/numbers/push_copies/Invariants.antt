use Rattle.std.proofs.Common.{◌≡◌, ◌++◌}
use Rattle.bt_output_plan.specs.Reading.{repeated}
use Rattle.bt_output_plan.proofs.numbers.push_copies.Given as goal

abbrev pub invariant-loop-i : goal.invariant-loop-i
invariant-loop-i l = l.holds.list ≡ l.initial.holds.list ++ repeated l.i l.more
