use Rattle.std.proofs.Common.{◌≡◌, ◌++◌}
use Rattle.std.specs.List.{flat_map}
use Rattle.std.specs.Vec.Iter.{into_iter_items}
use Rattle.bt_batches.specs.Archives as spec
use Rattle.bt_batches.proofs.unarchive.unarchive_lines.Given as goal

abbrev pub invariant-loop-p : goal.invariant-loop-p
invariant-loop-p l = l.all.items ++ flat_map spec.unarchive_lines (into_iter_items l.p-iterator) ≡ flat_map spec.unarchive_lines l.fn.batch.items
