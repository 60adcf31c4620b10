use Rattle.std.proofs.Common.{◌≡◌, ◌++◌, map}
use Rattle.std.specs.Vec.Iter.{into_iter_items}
use Rattle.bt_batches.specs.Pieces as spec
use Rattle.bt_batches.proofs.piece.join.Given as goal

abbrev pub invariant-loop-batch : goal.invariant-loop-batch
invariant-loop-batch l = l.all.items ++ spec.joined (map (λ b. b.items) (into_iter_items l.batch-iterator)) ≡ spec.joined (map (λ b. b.items) l.fn.batches.items)
