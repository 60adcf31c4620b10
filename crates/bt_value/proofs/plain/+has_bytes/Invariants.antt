use Rattle.std.proofs.Common.{◌≡◌, ◌+◌, ◌*◌, drop, map}
use Rattle.bt_value.specs.Depth.{depth, items_depth, members_depth}
use Rattle.bt_value.specs.Plain.{has_bytes, some, some_member}
use Rattle.bt_value.proofs.plain.+has_bytes.Given as goal

abbrev pub decreases-has_bytes : goal.decreases-has_bytes
decreases-has_bytes l = 2 * depth l.v.now

abbrev pub decreases-some_has_bytes : goal.decreases-some_has_bytes
decreases-some_has_bytes l = 2 * items_depth l.items.now + 1

abbrev pub decreases-some_member_has_bytes : goal.decreases-some_member_has_bytes
decreases-some_member_has_bytes l = 2 * members_depth l.members.now + 1

abbrev pub invariant-some_has_bytes-loop-item : goal.invariant-some_has_bytes-loop-item
invariant-some_has_bytes-loop-item l = some (map has_bytes (drop l.item-index l.item-items)) ≡ some (map has_bytes l.item-items)

abbrev pub invariant-some_member_has_bytes-loop-member : goal.invariant-some_member_has_bytes-loop-member
invariant-some_member_has_bytes-loop-member l =
    some_member (map (λ m. (m.0, has_bytes m.1)) (drop l.member-index l.member-items)) ≡ some_member (map (λ m. (m.0, has_bytes m.1)) l.member-items)
