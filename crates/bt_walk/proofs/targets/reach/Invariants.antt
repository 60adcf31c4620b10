use Rattle.std.proofs.Common.{◌≡◌, drop}
use Rattle.bt_walk.specs.Targets as spec
use Rattle.bt_walk.proofs.targets.reach.Given as goal

abbrev pub invariant-loop-i : goal.invariant-loop-i
invariant-loop-i l = spec.reach (drop l.i l.names) (l.place, l.here) ≡ spec.reach l.names (l.fn.start, l.fn.v)
