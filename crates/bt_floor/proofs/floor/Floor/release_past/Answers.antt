use Rattle.std.proofs.Common.{◌≡◌, ℕ, ◌+◌, ◌<◌, ◌≤◌, arith, refl, sym, ap, ◌∙◌, subst, length, List, false}
use Rattle.bt_demand.specs.declared.routes.HoldPolicy.{HoldPolicy}
use Rattle.bt_ledger.specs.Ledger.{Ledger}
use Rattle.bt_moves.specs.Resting.{BegunStill, waited_out}
use Rattle.bt_moves.proofs.Closing.{resting_still}
use Rattle.bt_moves.proofs.Keeping.{keeps_same, keeps_joins}
use Rattle.bt_moves.proofs.Ordering.{still_after, late_all}
use Rattle.bt_moves.proofs.Outs.{outs_same, outs_joins}
use Rattle.bt_moves.proofs.Periods.{none_past, one_more_past, one_more_stays}
use Rattle.bt_sound.specs.View.{FloorView}
use Rattle.bt_floor.proofs.floor.Floor.release_past.Goals as goal

pub loop-node-init : goal.loop-node-init
loop-node-init g c = record {
  others = keeps_same c.args.self.now.ledger;
  fresh = λ a b h. h;
  calm = λ n h. h;
  outs = outs_same c.args.self.now.ledger;
  outside = refl;
  settled = c.requires.resting.settled;
  past = λ j w. absurd (omega arith);
  unless = λ f. refl;
  stays = λ n f. refl;
}

pub release_if_past-requires-clause-unripe : goal.release_if_past-requires-clause-unripe
release_if_past-requires-clause-unripe g c = λ κs within. c.loop-node.invariant.calm c.loop-node.node (c.requires.resting.calm c.loop-node.node)

pub loop-node-preserved : goal.loop-node-preserved
loop-node-preserved g c =
    let a = c.args.self.now.ledger in
    let l = c.loop-node.self.ledger in
    let m = c.release_if_past.new.self.ledger in
    let i = c.loop-node.invariant in
    let still : BegunStill l = still_after c.args.self.now.ledger c.loop-node.self.ledger (resting_still c.args.self.now.ledger c.requires.resting) i.others i.fresh in
    let late = c.release_if_past.ensures.late (late_all c.loop-node.self.ledger c.loop-node.node still c.in_order.ensures.order) in
    let unless : ((j : ℕ) → j < c.loop-node.node + 1 → waited_out c.args.self.now.ledger j c.args.moment ≡ false) → c.release_if_past.new.self ≡ c.args.self.now =
    λ f. (let e = i.unless (λ j w. f j (omega arith)) in
    c.release_if_past.ensures.unless (ap (λ (v : FloorView _ _ _ _ _). waited_out v.ledger c.loop-node.node c.args.moment) e ∙ f c.loop-node.node (omega arith)) ∙ e) in
    record {
      others = keeps_joins a l m i.others c.release_if_past.ensures.others;
      fresh = λ x y h. c.release_if_past.ensures.fresh x y (i.fresh x y h);
      calm = λ n h. c.release_if_past.ensures.calm n (i.calm n h);
      outs = outs_joins a l m i.outs c.release_if_past.ensures.outs;
      outside = c.release_if_past.ensures.outside ∙ i.outside;
      settled = c.release_if_past.ensures.settled;
      past = one_more_past l m c.loop-node.node c.args.moment c.release_if_past.ensures.others.policies late.1 i.past c.release_if_past.ensures.done;
      unless = unless;
      stays = one_more_stays a l m c.loop-node.node c.args.moment i.stays (λ f. ap (λ (v : FloorView _ _ _ _ _). v.ledger) (unless f)) late.1;
    }

pub returns-clause-none : goal.returns-clause-none
returns-clause-none g c =
    let p = ap (λ (k : List HoldPolicy). length k) c.loop-node.invariant.others.policies in
    none_past c.loop-node.self.ledger c.loop-node.node c.args.moment (omega arith) c.loop-node.invariant.past

pub returns-clause-unless : goal.returns-clause-unless
returns-clause-unless g c = λ f. c.loop-node.invariant.unless (λ j w. f j)
