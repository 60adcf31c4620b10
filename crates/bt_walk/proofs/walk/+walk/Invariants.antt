use Rattle.std.proofs.Common.{◌≡◌, ◌+◌, ◌*◌, ◌++◌, drop, map}
use Rattle.bt_value.specs.Depth as depths
use Rattle.bt_walk.specs.Walk as spec
use Rattle.bt_walk.proofs.walk.+walk.Given as goal

abbrev pub decreases-walk : goal.decreases-walk
decreases-walk l = 4 * depths.depth l.v.now

abbrev pub decreases-list : goal.decreases-list
decreases-list l = 4 * depths.items_depth l.items.now + 3

abbrev pub decreases-elements : goal.decreases-elements
decreases-elements l = 4 * depths.items_depth l.items.now + 2

abbrev pub decreases-object : goal.decreases-object
decreases-object l = 4 * depths.members_depth l.fields.now + 3

abbrev pub decreases-members : goal.decreases-members
decreases-members l = 4 * depths.members_depth l.fields.now + 2

abbrev pub decreases-one_member : goal.decreases-one_member
decreases-one_member l = 4 * depths.depth l.v.now + 1

abbrev pub invariant-elements-loop-i : goal.invariant-elements-loop-i
invariant-elements-loop-i l = l.out ++ spec.in_elements l.config l.there l.above l.at l.i (map spec.meaning (drop l.i l.item-items)) ≡ l.initial.out ++ spec.in_elements l.config l.there l.above l.at 0 (map spec.meaning l.item-items)

abbrev pub invariant-members-loop-field : goal.invariant-members-loop-field
invariant-members-loop-field l = l.out ++ spec.in_members l.config l.here l.above l.at (spec.met (drop l.field-index l.field-items)) ≡ l.initial.out ++ spec.in_members l.config l.here l.above l.at (spec.met l.field-items)
