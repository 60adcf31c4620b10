use Rattle.std.proofs.Common.{◌≡◌, ◌++◌}
use Rattle.std.specs.Vec.Iter.{into_iter_items}
use Rattle.bt_lists.specs.Distinct as spec
use Rattle.bt_lists.proofs.distinct.marked.Given as goal

abbrev pub invariant-loop-item : goal.invariant-loop-item
invariant-loop-item l = spec.marked l.fn.items.items l.fn.marks ≡ l.got ++ spec.marked (into_iter_items l.item-iterator) l.left
