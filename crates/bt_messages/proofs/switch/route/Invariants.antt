use Rattle.std.proofs.Common.{◌≡◌, ◌+◌, ◌++◌, take, drop}
use Rattle.bt_messages.specs.Steps as spec
use Rattle.bt_messages.specs.Cases.{steps, route_at}
use Rattle.bt_messages.proofs.switch.route.Given as goal

abbrev pub invariant-loop-x : goal.invariant-loop-x
invariant-loop-x l = (l.index + spec.count (drop l.x-index l.places) ≡ l.size)
    × (take l.x-index l.places ++ spec.messages (spec.each (route_at (steps l.cases) l.size l.moment) l.index (drop l.x-index l.places)) ≡ spec.messages (spec.each (route_at (steps l.cases) l.size l.moment) 0 l.initial.places))
    × (l.nexts.items ++ spec.nexts (spec.each (route_at (steps l.cases) l.size l.moment) l.index (drop l.x-index l.places)) ≡ spec.nexts (spec.each (route_at (steps l.cases) l.size l.moment) 0 l.initial.places))
