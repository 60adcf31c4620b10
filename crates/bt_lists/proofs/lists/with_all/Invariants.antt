use Rattle.std.proofs.Common.{◌≡◌}
use Rattle.std.specs.Vec.Iter.{into_iter_items}
use Rattle.bt_lists.specs.Lists as spec
use Rattle.bt_lists.proofs.lists.with_all.Given as goal

abbrev pub invariant-loop-item : goal.invariant-loop-item
invariant-loop-item l = spec.after_all l.fn.items (spec.arrays l.fn.more.items) ≡ spec.after_all l.got (spec.arrays (into_iter_items l.item-iterator))
