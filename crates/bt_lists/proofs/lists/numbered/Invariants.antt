use Rattle.std.proofs.Common.{◌≡◌, ◌++◌, length}
use Rattle.std.specs.Vec.Iter.{into_iter_items}
use Rattle.bt_lists.specs.Lists as spec
use Rattle.bt_lists.proofs.lists.numbered.Given as goal

abbrev pub invariant-loop-item : goal.invariant-loop-item
invariant-loop-item l = spec.numbered 0 l.fn.items.items ≡ l.got ++ spec.numbered (length l.got) (into_iter_items l.item-iterator)
