use Rattle.std.proofs.Common.{◌≡◌, ◌+◌, ◌++◌, take, drop}
use Rattle.bt_messages.specs.Steps as spec
use Rattle.bt_messages.proofs.mapping.mapping.Given as goal

abbrev pub invariant-loop-x : goal.invariant-loop-x
invariant-loop-x l = (l.index + spec.count (drop l.x-index l.places) ≡ l.size)
    × (take l.x-index l.places ++ spec.each (spec.mapped_at l.r l.size l.moment) l.index (drop l.x-index l.places) ≡ spec.each (spec.mapped_at l.r l.size l.moment) 0 l.initial.places)
