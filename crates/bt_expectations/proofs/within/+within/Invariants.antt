use Rattle.std.proofs.Common.{◌≡◌, ◌+◌, ◌*◌, drop, map}
use Rattle.bt_value.specs.Depth as depths
use Rattle.bt_expectations.specs.Within.{is_within, items_within, members_within}
use Rattle.bt_expectations.proofs.Places.{behind}
use Rattle.bt_expectations.proofs.within.+within.Given as goal

abbrev pub decreases-is_within : goal.decreases-is_within
decreases-is_within l = 3 * depths.depth l.expected.now

abbrev pub decreases-items_within : goal.decreases-items_within
decreases-items_within l = 3 * depths.items_depth l.expected.now + 2

abbrev pub decreases-is_item_within : goal.decreases-is_item_within
decreases-is_item_within l = 3 * depths.depth l.expected.now + 1

abbrev pub decreases-members_within : goal.decreases-members_within
decreases-members_within l = 3 * depths.members_depth l.expected.now + 2

abbrev pub decreases-is_member_within : goal.decreases-is_member_within
decreases-is_member_within l = 3 * depths.depth l.expected.now + 1

abbrev pub invariant-items_within-loop-i : goal.invariant-items_within-loop-i
invariant-items_within-loop-i l = behind l.item-items l.found l.i ≡ items_within (map is_within l.item-items) l.found

abbrev pub invariant-members_within-loop-member : goal.invariant-members_within-loop-member
invariant-members_within-loop-member l =
    members_within (map (λ m. (m.0, is_within m.1)) (drop l.member-index l.member-items)) l.found ≡ members_within (map (λ m. (m.0, is_within m.1)) l.member-items) l.found
