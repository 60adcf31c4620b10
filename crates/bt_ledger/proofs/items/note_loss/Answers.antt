use Rattle.std.proofs.Common.{◌≡◌, ◌<◌, arith, add-one, length, length-set, refl, ap, ◌∙◌, get_or, set, Some, None, drop, suc}
use Rattle.std.proofs.lemmas.List.{map-set}
use Rattle.bt_demand.specs.Reasons.{lesser}
use Rattle.bt_demand.specs.declared.routes.Count.{Count}
use Rattle.bt_ledger.specs.Counted.{losses, noted}
use Rattle.bt_ledger.proofs.CountSeen.{field_at, field_kept}
use Rattle.bt_ledger.proofs.Losses.{noted_at}
use Rattle.bt_ledger.proofs.Raising.{below_drop}
use Rattle.bt_ledger.proofs.items.note_loss.Goals as goal

pub index-count-requires : goal.index-count-requires
index-count-requires c = let b = (below_drop (length c.loop-item.counts.items) c.args.from.now c.loop-item.item-index (omega arith) c.loop-item.invariant.below).0 in omega arith

pub index_mut-requires : goal.index_mut-requires
index_mut-requires c = let b = (below_drop (length c.loop-item.counts.items) c.args.from.now c.loop-item.item-index (omega arith) c.loop-item.invariant.below).0 in omega arith

pub loop-item-preserved : goal.loop-item-preserved
loop-item-preserved c =
    let cs = c.loop-item.counts.items in
    let x = get_or c.args.from.now c.loop-item.item-index 0 in
    let within : c.loop-item.item-index < length c.args.from.now = omega arith in
    let b = below_drop (length cs) c.args.from.now c.loop-item.item-index within c.loop-item.invariant.below in
    let v : c.index-count.result.now.lost ≡ get_or (losses cs) x None = field_at (λ (y : Count). y.lost) cs x c.index-count.result.now None b.0 c.index-count.ensures in
    let r : Count = record { left = c.index-count.result.now.left; lost = Some c.lesser.result; next = c.index-count.result.now.next } in
    let new : losses (set cs x (record { left = c.index-count.result.now.left; lost = Some c.lesser.result; next = c.index-count.result.now.next })) ≡ set (losses cs) x (lesser (get_or (losses cs) x None) (Some c.args.part)) =
    map-set (λ (y : Count). y.lost) cs x r ∙ ap (set (losses cs) x) (c.lesser.ensures ∙ ap (λ o. lesser o (Some c.args.part)) v) in
    rw add-one (record {
      left_now = field_kept (λ (y : Count). y.left) cs x c.index-count.result.now r c.index-count.ensures refl ∙ c.loop-item.invariant.left_now;
      next_now = field_kept (λ (y : Count). y.next) cs x c.index-count.result.now r c.index-count.ensures refl ∙ c.loop-item.invariant.next_now;
      lost_now = ap (noted c.args.part (drop (suc c.loop-item.item-index) c.args.from.now)) new ∙ noted_at c.args.part c.args.from.now (losses cs) c.loop-item.item-index within ∙ c.loop-item.invariant.lost_now;
      below = rw (length-set cs x r) b.1;
    })
