use Rattle.std.proofs.Common.{◌≡◌, ◌++◌, map}
use Rattle.std.specs.BTreeMap.{get_by_text}
use Rattle.std.specs.Vec.Iter.{into_iter_items}
use Rattle.bt_batches.specs.Gathered.{IsGathered}
use Rattle.bt_batches.proofs.values.by_value.Given as goal

abbrev pub invariant-loop-message : goal.invariant-loop-message
invariant-loop-message l = record {
  so_far : l.yielded ++ into_iter_items l.message-iterator ≡ into_iter_items l.initial.message-iterator;
  gathered : IsGathered l.yielded (get_by_text l.places) (map (λ b. b.items) l.batches.items);
}
