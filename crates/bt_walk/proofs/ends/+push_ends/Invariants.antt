use Rattle.std.proofs.Common.{◌≡◌, ◌+◌, ◌*◌, ◌++◌, drop, map}
use Rattle.bt_value.specs.Depth as depths
use Rattle.bt_walk.specs.Ends as spec
use Rattle.bt_walk.specs.Walk.{meaning, met}
use Rattle.bt_walk.proofs.ends.+push_ends.Given as goal

abbrev pub decreases-push_ends : goal.decreases-push_ends
decreases-push_ends l = 5 * depths.depth l.v.now + 1

abbrev pub decreases-push_below : goal.decreases-push_below
decreases-push_below l = 5 * depths.depth l.v.now

abbrev pub decreases-push_list : goal.decreases-push_list
decreases-push_list l = 5 * depths.items_depth l.items.now + 4

abbrev pub decreases-push_items : goal.decreases-push_items
decreases-push_items l = 5 * depths.items_depth l.items.now + 3

abbrev pub decreases-push_object : goal.decreases-push_object
decreases-push_object l = 5 * depths.members_depth l.fields.now + 4

abbrev pub decreases-push_members : goal.decreases-push_members
decreases-push_members l = 5 * depths.members_depth l.fields.now + 3

abbrev pub decreases-push_member : goal.decreases-push_member
decreases-push_member l = 5 * depths.depth l.v.now + 2

abbrev pub invariant-push_items-loop-item : goal.invariant-push_items-loop-item
invariant-push_items-loop-item l = l.out ++ spec.ends_items l.newer l.here (map meaning (drop l.item-index l.item-items)) ≡ l.initial.out ++ spec.ends_items l.newer l.here (map meaning l.item-items)

abbrev pub invariant-push_members-loop-field : goal.invariant-push_members-loop-field
invariant-push_members-loop-field l = l.out ++ spec.ends_members l.newer l.here (met (drop l.field-index l.field-items)) ≡ l.initial.out ++ spec.ends_members l.newer l.here (met l.field-items)
