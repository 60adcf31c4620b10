use Rattle.std.proofs.Common.{◌≡◌, ◌+◌, ◌++◌, length, map}
use Rattle.std.specs.List.{enumerate_from}
use Rattle.std.specs.Vec.Iter.{into_iter_items}
use Rattle.bt_batches.specs.Grouping as spec
use Rattle.bt_batches.proofs.values.with_texts.Given as goal

abbrev pub invariant-loop-p : goal.invariant-loop-p
invariant-loop-p l = (l.index + length (into_iter_items l.p-iterator) ≡ l.size)
    × (l.messages.items ++ map (spec.keyed l.value.list l.size l.moment) (enumerate_from l.index (into_iter_items l.p-iterator)) ≡ spec.all_keyed l.value.list l.moment l.fn.batch.items)
