use Rattle.std.proofs.Common.{◌≡◌, ◌+◌, ◌*◌, ◌-◌, ℕ, suc}
use Rattle.std.specs.Vec.Iter.{into_iter_items}
use Rattle.std.specs.List.{fold}
use Rattle.bt_objects.specs.Objects as spec
use Rattle.bt_objects.proofs.objects.+assigned.Given as goal

abbrev pub invariant-assigned-loop-member : goal.invariant-assigned-loop-member
invariant-assigned-loop-member l = fold (spec.assigned_on (spec.assigned (l.room - 1))) l.fn.ms l.fn.ns ≡ fold (spec.assigned_on (spec.assigned (l.room - 1))) l.got (into_iter_items l.member-iterator)

abbrev pub decreases-assigned : goal.decreases-assigned
decreases-assigned l = 2 * l.room

abbrev pub decreases-assigned_values : goal.decreases-assigned_values
decreases-assigned_values l = 2 * l.room + 1
