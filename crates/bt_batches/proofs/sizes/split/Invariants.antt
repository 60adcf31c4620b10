use Rattle.std.proofs.Common.{◌≡◌, ◌++◌, map}
use Rattle.std.specs.Vec.Iter.{into_iter_items}
use Rattle.bt_cut.specs.Cuts.{pieces_after}
use Rattle.bt_batches.specs.Grouping as spec
use Rattle.bt_batches.proofs.sizes.split.Given as goal

abbrev pub invariant-loop-p : goal.invariant-loop-p
invariant-loop-p l = map (λ b. b.items) l.pieces.items ++ pieces_after (spec.is_full l.size) l.piece.items (into_iter_items l.p-iterator) ≡ spec.split l.size l.fn.batch.items
