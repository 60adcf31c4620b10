use Rattle.std.proofs.Common.{◌≡◌, ◌+◌, ◌*◌, ◌-◌, ℕ, suc}
use Rattle.std.specs.Vec.Iter.{into_iter_items}
use Rattle.std.specs.List.{fold}
use Rattle.bt_objects.specs.Objects as spec
use Rattle.bt_objects.proofs.objects.+merged.Given as goal

abbrev pub invariant-merged-loop-member : goal.invariant-merged-loop-member
invariant-merged-loop-member l = fold (spec.merged_on (spec.merged (l.room - 1))) l.fn.ms l.fn.ns ≡ fold (spec.merged_on (spec.merged (l.room - 1))) l.got (into_iter_items l.member-iterator)

abbrev pub decreases-merged : goal.decreases-merged
decreases-merged l = 2 * l.room

abbrev pub decreases-merged_values : goal.decreases-merged_values
decreases-merged_values l = 2 * l.room + 1
