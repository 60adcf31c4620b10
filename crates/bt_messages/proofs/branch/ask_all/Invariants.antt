use Rattle.std.proofs.Common.{◌≡◌, ◌+◌, ◌≤◌, ◌++◌, take, drop, length}
use Rattle.bt_messages.specs.Steps as spec
use Rattle.bt_messages.specs.Cases.{copy_at, original_at}
use Rattle.bt_messages.proofs.branch.ask_all.Given as goal

abbrev pub invariant-loop-x : goal.invariant-loop-x
invariant-loop-x l = (l.index + spec.count (drop l.x-index l.places) ≤ l.size)
    × (take l.x-index l.places ++ spec.each (original_at l.request l.size l.moment) l.index (drop l.x-index l.places) ≡ spec.each (original_at l.request l.size l.moment) 0 l.initial.places)
    × (l.copies.items ++ spec.each (copy_at l.request l.size l.moment) l.index (drop l.x-index l.places) ≡ spec.each (copy_at l.request l.size l.moment) 0 l.initial.places)
    × (length l.copies.items ≡ l.x-index)
