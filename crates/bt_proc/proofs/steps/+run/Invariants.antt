use Rattle.std.proofs.Common.{◌≡◌, ◌+◌, ◌*◌, ◌++◌, drop, map}
use Rattle.std.specs.List.{flat_map}
use Rattle.std.specs.Vec.Iter.{into_iter_items}
use Rattle.bt_proc.specs.Groups.{in_group}
use Rattle.bt_proc.specs.Procs as spec
use Rattle.bt_proc.specs.Procs.{effect}
use Rattle.bt_proc.specs.Singles as single
use Rattle.bt_proc.proofs.steps.+run.Given as goal

abbrev pub decreases-give : goal.decreases-give
decreases-give l = 8 * goal.size-give l

abbrev pub decreases-flat : goal.decreases-flat
decreases-flat l = 8 * goal.size-flat l + 1

abbrev pub decreases-through_all : goal.decreases-through_all
decreases-through_all l = 8 * goal.size-through_all l + 1

abbrev pub decreases-through : goal.decreases-through
decreases-through l = 8 * goal.size-through l + 2

abbrev pub decreases-tried_by : goal.decreases-tried_by
decreases-tried_by l = 8 * goal.size-tried_by l + 2

abbrev pub decreases-try_each : goal.decreases-try_each
decreases-try_each l = 8 * goal.size-try_each l + 3

abbrev pub decreases-run : goal.decreases-run
decreases-run l = 8 * goal.size-run l + 3

abbrev pub decreases-tried : goal.decreases-tried
decreases-tried l = 8 * goal.size-tried l + 4

abbrev pub decreases-alone : goal.decreases-alone
decreases-alone l = 8 * goal.size-alone l + 4

abbrev pub decreases-by_itself : goal.decreases-by_itself
decreases-by_itself l = 8 * goal.size-by_itself l + 5

abbrev pub decreases-singles : goal.decreases-singles
decreases-singles l = 8 * goal.size-singles l + 6

abbrev pub decreases-group_one : goal.decreases-group_one
decreases-group_one l = 8 * goal.size-group_one l + 4

abbrev pub decreases-group : goal.decreases-group
decreases-group l = 8 * goal.size-group l + 5

abbrev pub invariant-run-loop-p : goal.invariant-run-loop-p
invariant-run-loop-p l = spec.in_order (map effect (drop l.p-index l.ps)) l.moment (map (λ b. b.items) l.batches.items) ≡ spec.in_order (map effect l.ps) l.moment (map (λ b. b.items) l.initial.batches.items)

abbrev pub invariant-through_all-loop-batch : goal.invariant-through_all-loop-batch
invariant-through_all-loop-batch l = map (λ b. b.items) l.given.items ++ flat_map (effect l.p l.moment) (map (λ b. b.items) (into_iter_items l.batch-iterator)) ≡ flat_map (effect l.p l.moment) (map (λ b. b.items) l.fn.batches.items)

abbrev pub invariant-try_each-loop-p : goal.invariant-try_each-loop-p
invariant-try_each-loop-p l = l.all.items ++ flat_map (spec.tried_by (effect l.f) l.moment) (into_iter_items l.p-iterator) ≡ flat_map (spec.tried_by (effect l.f) l.moment) l.fn.batch.items

abbrev pub invariant-tried-loop-f : goal.invariant-tried-loop-f
invariant-tried-loop-f l = spec.tried (map effect (drop l.f-index l.ps)) l.moment l.batch.items ≡ spec.tried (map effect l.ps) l.moment l.initial.batch.items

abbrev pub invariant-singles-loop-p : goal.invariant-singles-loop-p
invariant-singles-loop-p l = l.all.items ++ flat_map (single.gives l.how (map effect l.ps) l.moment) (into_iter_items l.p-iterator) ≡ flat_map (single.gives l.how (map effect l.ps) l.moment) l.fn.batch.items

abbrev pub invariant-group-loop-g : goal.invariant-group-loop-g
invariant-group-loop-g l = map (λ b. b.items) l.batches.items ++ spec.grouped (map (in_group effect) (drop l.g-index l.groups)) l.size l.moment l.left.items ≡ spec.grouped (map (in_group effect) l.groups) l.size l.moment l.initial.left.items
