use Rattle.std.proofs.Common.{◌≡◌, ◌++◌, map, flat_map}
use Rattle.std.specs.Vec.Iter.{into_iter_items}
use Rattle.bt_demand.specs.Parts.{parts_of}
use Rattle.bt_parts.specs.Parts as spec
use Rattle.bt_routing.proofs.parts.push_batches.Given as goal

abbrev pub invariant-loop-batch : goal.invariant-loop-batch
invariant-loop-batch l = parts_of l.parts.list ++ flat_map (spec.parts_in l.output l.moment) (map (λ b. b.items) (into_iter_items l.batch-iterator))
    ≡ parts_of l.initial.parts.list ++ flat_map (spec.parts_in l.output l.moment) (map (λ b. b.items) l.fn.batches.items)
