use Rattle.std.proofs.Common.{◌≡◌, ◌++◌, map, Some}
use Rattle.std.specs.Vec.Iter.{into_iter_items}
use Rattle.bt_batches.specs.Pieces as spec
use Rattle.bt_batches.proofs.steps.take_apart.Given as goal

abbrev pub invariant-loop-p : goal.invariant-loop-p
invariant-loop-p l = (l.messages.items ++ map (λ p. Some p.msg) (into_iter_items l.p-iterator) ≡ map (λ p. Some p.msg) l.fn.batch.items)
    × (l.origins.items ++ spec.origins_of (into_iter_items l.p-iterator) ≡ spec.origins_of l.fn.batch.items)
