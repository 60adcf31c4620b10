use Rattle.std.proofs.Common.{◌≡◌, ◌≤◌, ◌+◌, ◌*◌, drop, map, min}
use Rattle.bt_value.specs.Depth as depths
use Rattle.bt_walk.specs.Counts as spec
use Rattle.bt_walk.specs.Walk.{meaning, met}
use Rattle.bt_walk.proofs.counts.+within.Given as goal

abbrev pub decreases-within : goal.decreases-within
decreases-within l = 5 * depths.depth l.v.now + 1

abbrev pub decreases-below : goal.decreases-below
decreases-below l = 5 * depths.depth l.v.now

abbrev pub decreases-below_list : goal.decreases-below_list
decreases-below_list l = 5 * depths.items_depth l.items.now + 4

abbrev pub decreases-within_items : goal.decreases-within_items
decreases-within_items l = 5 * depths.items_depth l.items.now + 3

abbrev pub decreases-below_object : goal.decreases-below_object
decreases-below_object l = 5 * depths.members_depth l.fields.now + 4

abbrev pub decreases-within_members : goal.decreases-within_members
decreases-within_members l = 5 * depths.members_depth l.fields.now + 3

abbrev pub decreases-within_member : goal.decreases-within_member
decreases-within_member l = 5 * depths.depth l.v.now + 2

abbrev pub invariant-within_items-loop-item : goal.invariant-within_items-loop-item
invariant-within_items-loop-item l = (l.total ≤ 257) × (min 257 (l.total + spec.within_items l.what l.newer l.here (map meaning (drop l.item-index l.item-items))) ≡ min 257 (spec.within_items l.what l.newer l.here (map meaning l.item-items)))

abbrev pub invariant-within_members-loop-field : goal.invariant-within_members-loop-field
invariant-within_members-loop-field l = (l.total ≤ 257) × (min 257 (l.total + spec.within_members l.what l.newer l.here (met (drop l.field-index l.field-items))) ≡ min 257 (spec.within_members l.what l.newer l.here (met l.field-items)))
