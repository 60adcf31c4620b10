use Rattle.std.proofs.Common.{◌≡◌, ◌+◌, ◌++◌, length}
use Rattle.std.specs.List.{enumerate_from}
use Rattle.std.specs.Vec.Iter.{into_iter_items}
use Rattle.bt_batches.proofs.checks.numbered.Given as goal

abbrev pub invariant-loop-p : goal.invariant-loop-p
invariant-loop-p l = (l.index + length (into_iter_items l.p-iterator) ≡ l.size)
    × (l.messages.items ++ enumerate_from l.index (into_iter_items l.p-iterator) ≡ enumerate_from 0 l.fn.batch.items)
