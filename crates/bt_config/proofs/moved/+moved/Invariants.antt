use Rattle.std.proofs.Common.{◌≡◌, ◌+◌, ◌*◌, take, map}
use Rattle.bt_value.specs.Depth as depths
use Rattle.bt_config.specs.Migrated as spec
use Rattle.bt_config.proofs.moved.+moved.Given as goal

abbrev pub decreases-moved : goal.decreases-moved
decreases-moved l = 4 * depths.depth l.v.now

abbrev pub decreases-moved_member : goal.decreases-moved_member
decreases-moved_member l = 4 * depths.depth l.v.now + 1

abbrev pub decreases-moved_items : goal.decreases-moved_items
decreases-moved_items l = 4 * depths.items_depth l.items.now + 2

abbrev pub decreases-moved_fields : goal.decreases-moved_fields
decreases-moved_fields l = 4 * depths.members_depth l.fields.now + 3

abbrev pub decreases-moved_members : goal.decreases-moved_members
decreases-moved_members l = 4 * depths.members_depth l.fields.now + 2

abbrev pub invariant-moved_items-loop-item : goal.invariant-moved_items-loop-item
invariant-moved_items-loop-item l = l.out ≡ spec.moved_items l.scanners l.here (map spec.moved (take l.item-index l.item-items))

abbrev pub invariant-moved_members-loop-field : goal.invariant-moved_members-loop-field
invariant-moved_members-loop-field l = l.out ≡ spec.moved_members l.scanners l.here (spec.with_moves (take l.field-index l.field-items))
