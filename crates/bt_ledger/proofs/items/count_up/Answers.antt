use Rattle.std.proofs.Common.{◌≡◌, ◌+◌, ◌<◌, arith, add-one, length, length-set, refl, ap, ◌∙◌, get_or, set, eqb, eq-eqb, drop, suc}
use Rattle.std.proofs.lemmas.List.{map-set, length-map}
use Rattle.bt_demand.specs.Holding.{one_if}
use Rattle.bt_demand.specs.declared.routes.Count.{Count}
use Rattle.bt_ledger.specs.Counted.{lefts, raised}
use Rattle.bt_ledger.proofs.CountSeen.{field_at, field_kept}
use Rattle.bt_ledger.proofs.Raising.{raised_at, below_drop, times_drop, room_step}
use Rattle.bt_ledger.proofs.items.count_up.Goals as goal

pub index-count-requires : goal.index-count-requires
index-count-requires c = let b = (below_drop (length c.loop-item.counts.items) c.args.from.now c.loop-item.item-index (omega arith) c.loop-item.invariant.below).0 in omega arith

pub index_mut-requires : goal.index_mut-requires
index_mut-requires c = let b = (below_drop (length c.loop-item.counts.items) c.args.from.now c.loop-item.item-index (omega arith) c.loop-item.invariant.below).0 in omega arith

pub overflow_add-count : goal.overflow_add-count
overflow_add-count c =
    let x = get_or c.args.from.now c.loop-item.item-index 0 in
    let b = (below_drop (length c.loop-item.counts.items) c.args.from.now c.loop-item.item-index (omega arith) c.loop-item.invariant.below).0 in
    let v : c.index-count.result.now.left ≡ get_or (lefts c.loop-item.counts.items) x 0 = field_at (λ (y : Count). y.left) c.loop-item.counts.items x c.index-count.result.now 0 b c.index-count.ensures in
    let r = c.loop-item.invariant.room x in
    let t = times_drop x c.args.from.now c.loop-item.item-index (omega arith) in
    let o : one_if (eqb x x) ≡ 1 = ap one_if (eq-eqb x x refl) in
    omega arith

pub loop-item-preserved : goal.loop-item-preserved
loop-item-preserved c =
    let cs = c.loop-item.counts.items in
    let x = get_or c.args.from.now c.loop-item.item-index 0 in
    let within : c.loop-item.item-index < length c.args.from.now = omega arith in
    let b = below_drop (length cs) c.args.from.now c.loop-item.item-index within c.loop-item.invariant.below in
    let v : c.index-count.result.now.left ≡ get_or (lefts cs) x 0 = field_at (λ (y : Count). y.left) cs x c.index-count.result.now 0 b.0 c.index-count.ensures in
    let len = length-map cs (λ (y : Count). y.left) in
    let r : Count = record { left = c.index-count.result.now.left + 1; lost = c.index-count.result.now.lost; next = c.index-count.result.now.next } in
    let new : lefts (set cs x (record { left = c.index-count.result.now.left + 1; lost = c.index-count.result.now.lost; next = c.index-count.result.now.next })) ≡ set (lefts cs) x (get_or (lefts cs) x 0 + 1) = map-set (λ (y : Count). y.left) cs x r ∙ ap (λ n. set (lefts cs) x (n + 1)) v in
    rw add-one (record {
      left_now = ap (raised (drop (suc c.loop-item.item-index) c.args.from.now)) new ∙ raised_at c.args.from.now (lefts cs) c.loop-item.item-index within ∙ c.loop-item.invariant.left_now;
      lost_now = field_kept (λ (y : Count). y.lost) cs x c.index-count.result.now r c.index-count.ensures refl ∙ c.loop-item.invariant.lost_now;
      below = rw (length-set cs x r) b.1;
      room = rw new (room_step (lefts cs) c.args.from.now c.loop-item.item-index within (let q = b.0 in omega arith) c.loop-item.invariant.room);
    })
