use Rattle.std.proofs.Common.{◌≡◌, ◌++◌, drop, map, is_some, length}
use Rattle.bt_messages.proofs.branch.are_there.Given as goal

abbrev pub invariant-loop-x : goal.invariant-loop-x
invariant-loop-x l = (l.there.items ++ map is_some (drop l.x-index l.places) ≡ map is_some l.places) × (length l.there.items ≡ l.x-index)
