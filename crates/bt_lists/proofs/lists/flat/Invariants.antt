use Rattle.std.proofs.Common.{◌≡◌, ◌++◌}
use Rattle.std.specs.Vec.Iter.{into_iter_items}
use Rattle.std.specs.List.{flat_map}
use Rattle.bt_lists.specs.Lists as spec
use Rattle.bt_lists.proofs.lists.flat.Given as goal

abbrev pub invariant-loop-item : goal.invariant-loop-item
invariant-loop-item l = flat_map spec.opened l.fn.items.items ≡ l.got ++ flat_map spec.opened (into_iter_items l.item-iterator)
