use Rattle.std.proofs.Common.{◌≡◌, ◌++◌}
use Rattle.std.specs.Vec.Iter.{into_iter_items}
use Rattle.bt_demand.specs.Parts.{parts_of}
use Rattle.bt_parts.specs.Parts as spec
use Rattle.bt_routing.proofs.parts.push_batch.Given as goal

abbrev pub invariant-loop-piece : goal.invariant-loop-piece
invariant-loop-piece l = parts_of l.parts.list ++ spec.parts_from l.output l.moment l.size l.index (into_iter_items l.piece-iterator)
    ≡ parts_of l.initial.parts.list ++ spec.parts_in l.output l.moment l.fn.batch.items
