use Rattle.std.proofs.Common.{arith, refl, ap, ◌∙◌, length, List}
use Rattle.bt_demand.specs.declared.routes.HoldPolicy.{HoldPolicy}
use Rattle.bt_moves.specs.Resting.{BegunStill}
use Rattle.bt_moves.proofs.Keeping.{keeps_joins, keeps_same}
use Rattle.bt_moves.proofs.Outs.{outs_same, outs_joins}
use Rattle.bt_moves.proofs.Ordering.{still_after, late_all}
use Rattle.bt_moves.proofs.Delivering.{one_more_empty, emptied_by}
use Rattle.bt_sound.proofs.Turns.{no_hold}
use Rattle.bt_floor.proofs.floor.Floor.flush.Goals as goal

pub loop-node-init : goal.loop-node-init
loop-node-init g c = record {
  others = keeps_same c.args.self.now.ledger;
  fresh = λ a b h. h;
  outs = outs_same c.args.self.now.ledger;
  calm = λ n h. h;
  outside = refl;
  settled = c.requires.settled;
  unheld = λ q. refl;
  empties = λ j w. absurd (omega arith);
}

pub loop-node-preserved : goal.loop-node-preserved
loop-node-preserved g c =
    let a = c.args.self.now.ledger in
    let l = c.loop-node.self.ledger in
    let m = c.flush_one.new.self.ledger in
    let i = c.loop-node.invariant in
    let still : BegunStill l = still_after c.args.self.now.ledger c.loop-node.self.ledger c.requires.still i.others i.fresh in
    let late = c.flush_one.ensures.late (late_all c.loop-node.self.ledger c.loop-node.node still c.in_order.ensures.order) in
    record {
      others = keeps_joins a l m i.others c.flush_one.ensures.others;
      fresh = λ x y h. c.flush_one.ensures.fresh x y (i.fresh x y h);
      outs = outs_joins a l m i.outs c.flush_one.ensures.outs;
      calm = λ n h. c.flush_one.ensures.calm n (i.calm n h);
      outside = c.flush_one.ensures.outside ∙ i.outside;
      settled = c.flush_one.ensures.settled;
      unheld = λ q. absurd (no_hold a.policies l.policies c.loop-node.node i.others.policies q (let h = c.holds-node-end.ensures in let p = ap (λ (k : List HoldPolicy). length k) i.others.policies in omega arith));
      empties = one_more_empty l m c.loop-node.node i.empties late.1 c.flush_one.ensures.empties;
    }

pub returns-clause-empty : goal.returns-clause-empty
returns-clause-empty g c =
    let p = ap (λ (k : List HoldPolicy). length k) c.loop-node.invariant.others.policies in
    emptied_by c.loop-node.self.ledger c.in_order-2.ensures.book (λ n w. c.loop-node.invariant.empties n (omega arith))
