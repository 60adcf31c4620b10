use Rattle.std.proofs.Common.{◌≡◌, ◌+◌, ◌*◌, drop, map, [], false}
use Rattle.bt_value.specs.Plain.{has_bytes, some, some_member}
use Rattle.bt_value.specs.Depth as depths
use Rattle.bt_texts.specs.Conversions as spec
use Rattle.bt_texts.proofs.Gathered.{after_some}
use Rattle.bt_texts.proofs.conversions.+texts_of.Given as goal

abbrev pub decreases-texts_of : goal.decreases-texts_of
decreases-texts_of l = 2 * depths.depth l.v.now

abbrev pub decreases-texts_of_items : goal.decreases-texts_of_items
decreases-texts_of_items l = 2 * depths.items_depth l.items.now + 1

abbrev pub decreases-texts_of_members : goal.decreases-texts_of_members
decreases-texts_of_members l = 2 * depths.members_depth l.members.now + 1

abbrev pub invariant-texts_of_items-loop-item : goal.invariant-texts_of_items-loop-item
invariant-texts_of_items-loop-item l = record {
  so_far : spec.all (map spec.texts_of l.item-items) ≡ after_some l.got (spec.all (map spec.texts_of (drop l.item-index l.item-items)));
  plain : some (map has_bytes l.got) ≡ false;
}

abbrev pub invariant-texts_of_members-loop-member : goal.invariant-texts_of_members-loop-member
invariant-texts_of_members-loop-member l = record {
  so_far : spec.all_members [] (map (λ m. (m.0, spec.texts_of m.1)) l.member-items) ≡ spec.all_members l.got (map (λ m. (m.0, spec.texts_of m.1)) (drop l.member-index l.member-items));
  plain : some_member (map (λ m. (m.0, has_bytes m.1)) l.got) ≡ false;
}
