use Rattle.std.proofs.Common.{◌≡◌, ◌++◌, drop}
use Rattle.std.specs.Vec.Iter.{into_iter_items}
use Rattle.bt_lists.proofs.slices.after.Given as goal

abbrev pub invariant-loop-item : goal.invariant-loop-item
invariant-loop-item l = drop l.from l.fn.items.items ≡ l.got ++ drop l.left (into_iter_items l.item-iterator)
