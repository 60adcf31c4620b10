use Rattle.std.proofs.Common.{◌≡◌, ◌++◌}
use Rattle.std.specs.Vec.Iter.{into_iter_items}
use Rattle.bt_batches.specs.Pieces as spec
use Rattle.bt_batches.proofs.steps.put_together.Given as goal

abbrev pub invariant-loop-message : goal.invariant-loop-message
invariant-loop-message l = l.batch.items ++ spec.with_origins (into_iter_items l.message-iterator) (into_iter_items l.origins) ≡ spec.with_origins l.fn.a.messages.items l.fn.a.origins.items
