use Rattle.std.proofs.Common.{◌≡◌, drop}
use Rattle.bt_messages.specs.Steps as spec
use Rattle.bt_messages.specs.Cases.{steps, later}
use Rattle.bt_messages.proofs.switch.route_of.Given as goal

abbrev pub invariant-loop-i : goal.invariant-loop-i
invariant-loop-i l = spec.routed (steps l.cases) l.spot l.x ≡ later l.i (spec.routed (steps (drop l.i l.cases)) l.spot l.x)
