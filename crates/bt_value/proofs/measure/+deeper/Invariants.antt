use Rattle.std.proofs.Common.{◌≡◌, ◌+◌, ◌*◌, drop, nat_lt}
use Rattle.bt_value.specs.Depth as spec
use Rattle.bt_value.proofs.measure.+deeper.Given as goal

abbrev pub decreases-deeper : goal.decreases-deeper
decreases-deeper l = 2 * spec.depth l.v.now

abbrev pub decreases-items_deeper : goal.decreases-items_deeper
decreases-items_deeper l = 2 * spec.items_depth l.items.now + 1

abbrev pub decreases-members_deeper : goal.decreases-members_deeper
decreases-members_deeper l = 2 * spec.members_depth l.members.now + 1

abbrev pub invariant-items_deeper-loop-item : goal.invariant-items_deeper-loop-item
invariant-items_deeper-loop-item l = nat_lt l.limit (spec.items_depth (drop l.item-index l.item-items)) ≡ nat_lt l.limit (spec.items_depth l.item-items)

abbrev pub invariant-members_deeper-loop-member : goal.invariant-members_deeper-loop-member
invariant-members_deeper-loop-member l = nat_lt l.limit (spec.members_depth (drop l.member-index l.member-items)) ≡ nat_lt l.limit (spec.members_depth l.member-items)
