use Rattle.std.proofs.Common.{◌≡◌}
use Rattle.bt_meaning.specs.Functions as spec
use Rattle.bt_functions.proofs.ranges.Progression.items.Given as goal

abbrev pub invariant-loop-i : goal.invariant-loop-i
invariant-loop-i l = l.got ≡ spec.range_items l.self.from l.self.step l.i
