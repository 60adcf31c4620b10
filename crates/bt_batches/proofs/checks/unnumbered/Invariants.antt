use Rattle.std.proofs.Common.{◌≡◌, ◌++◌}
use Rattle.std.specs.Vec.Iter.{into_iter_items}
use Rattle.bt_batches.specs.Grouping as spec
use Rattle.bt_batches.proofs.checks.unnumbered.Given as goal

abbrev pub invariant-loop-message : goal.invariant-loop-message
invariant-loop-message l = l.batch.items ++ spec.pieces_of (into_iter_items l.message-iterator) ≡ spec.pieces_of l.fn.messages.items
