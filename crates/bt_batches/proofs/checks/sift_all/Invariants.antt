use Rattle.std.proofs.Common.{◌≡◌, ◌++◌}
use Rattle.std.specs.Vec.Iter.{into_iter_items}
use Rattle.bt_batches.specs.Grouping as spec
use Rattle.bt_batches.proofs.checks.sift_all.Given as goal

abbrev pub invariant-loop-message : goal.invariant-loop-message
invariant-loop-message l = (l.sifted.passing.items ++ spec.passing l.r l.size l.moment (into_iter_items l.message-iterator) ≡ spec.passing l.r l.size l.moment l.fn.messages.items)
    × (l.sifted.others.items ++ spec.others l.r l.size l.moment (into_iter_items l.message-iterator) ≡ spec.others l.r l.size l.moment l.fn.messages.items)
