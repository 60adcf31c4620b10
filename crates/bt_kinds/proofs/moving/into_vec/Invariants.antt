use Rattle.std.proofs.Common.{◌≡◌, ◌++◌, reverse, length}
use Rattle.bt_kinds.proofs.moving.into_vec.Given as goal

abbrev pub invariant-loop-item : goal.invariant-loop-item
invariant-loop-item g l = l.fn.items ≡ l.left ++ reverse l.taken.items

abbrev pub decreases-loop-item : goal.decreases-loop-item
decreases-loop-item g l = length l.left
