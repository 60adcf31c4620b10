use Rattle.std.proofs.Common.{arith, refl, sym, ap, ◌∙◌, subst, Some, inr}
use Rattle.bt_demand.specs.Steps.{settle, state_for}
use Rattle.bt_ledger.specs.Ledger.{part_tree}
use Rattle.bt_moves.specs.Moves.{left_to_do}
use Rattle.bt_moves.proofs.Moves.{step_with, step_same, step_joins, part_with, below_falls}
use Rattle.bt_leaves.proofs.Kept.{begun_step}
use Rattle.bt_steps.specs.declared.step.Step.TheVariants.{Settle}
use Rattle.bt_moves.proofs.Lateness.{late_same, late_joins, late_put}
use Rattle.bt_demand.specs.Reached.{Reach}
use Rattle.bt_moves.proofs.Ripening.{calms_put}
use Rattle.bt_moves.proofs.Popping.{same_part}
use Rattle.bt_leaves.proofs.Reaching.{reach_settle}
use Rattle.bt_sound.specs.Owned.{BatchFits}
use Rattle.bt_moves.proofs.Settling.{but_at_last, but_settled_put}
use Rattle.bt_floor.proofs.floor.Floor.settle_child.Goals as goal

pub put-accepted-requires-clause-puts : goal.put-accepted-requires-clause-puts
put-accepted-requires-clause-puts g c = λ κs within. inr (c.args.node, ((c.loop-next.invariant.reach, c.in-Some.ensures), subst (λ rs. BatchFits rs (Some c.args.node) c.args.batch) (sym c.loop-next.invariant.releases) c.requires.batch))

pub returns-clause-settled : goal.returns-clause-settled
returns-clause-settled g c = but_at_last c.args.node c.loop-next.self.ledger c.args.slot c.args.part c.in_order.ensures.book c.loop-next.invariant.reach c.in_default.ensures c.loop-next.invariant.settled

pub loop-next-smaller : goal.loop-next-smaller
loop-next-smaller g c = rw c.put-accepted.ensures.ledger (below_falls c.loop-next.self.ledger c.args.slot c.args.part c.args.node c.in-Some.next.leaf c.in-Some.next.sink c.put-accepted.result c.loop-next.invariant.part c.in-Some.ensures)

pub loop-next-preserved : goal.loop-next-preserved
loop-next-preserved g c =
    let l = c.loop-next.self.ledger in
    let t = settle c.in-Some.next.leaf (state_for c.put-accepted.result) (part_tree l c.args.slot c.args.part) in
    let e = c.put-accepted.ensures.ledger in
    let begins = begun_step (Settle c.in-Some.next.leaf c.put-accepted.result) (part_tree l c.args.slot c.args.part) c.loop-next.invariant.step.begins in
    let falls = below_falls l c.args.slot c.args.part c.args.node c.in-Some.next.leaf c.in-Some.next.sink c.put-accepted.result c.loop-next.invariant.part c.in-Some.ensures in
    let w = c.loop-next.invariant.no_more in
    let z = ap left_to_do e in
    record {
      part = rw e (part_with l c.args.slot c.args.part t l.chains c.loop-next.invariant.part);
      step = step_joins c.args.slot c.args.part c.args.self.now.ledger l _ c.loop-next.invariant.step (rw e (step_with l c.args.slot c.args.part t l.chains c.loop-next.invariant.part begins));
      late = λ n. late_joins n c.args.self.now.ledger l c.put-accepted.new.self.ledger (c.loop-next.invariant.late n) (rw e (late_put n l c.args.slot c.args.part c.in-Some.next.leaf c.put-accepted.result c.loop-next.invariant.part c.loop-next.invariant.step.begins));
      reach = rw e (subst (λ x. Reach c.args.node x) (sym (same_part l c.args.slot c.args.part t c.loop-next.invariant.part)) (reach_settle c.args.node c.in-Some.next.leaf (state_for c.put-accepted.result) (part_tree l c.args.slot c.args.part) c.loop-next.invariant.reach));
      calm = λ n h. rw e (calms_put l c.args.slot c.args.part c.in-Some.next.leaf c.put-accepted.result c.loop-next.invariant.part n (c.loop-next.invariant.calm n h));
      outside = c.put-accepted.ensures.outside ∙ c.loop-next.invariant.outside;
      settled = rw e (but_settled_put c.args.node l c.args.slot c.args.part c.in-Some.next.leaf c.put-accepted.result c.loop-next.invariant.part c.loop-next.invariant.settled);
      releases = c.put-accepted.ensures.releases ∙ c.loop-next.invariant.releases;
      no_more = omega arith;
    }

pub loop-next-init : goal.loop-next-init
loop-next-init g c = record {
  part = c.requires.part;
  step = step_same c.args.self.now.ledger c.args.slot c.args.part c.requires.part c.requires.begun;
  late = λ n. late_same n c.args.self.now.ledger;
  reach = c.requires.reach;
  calm = λ n h. h;
  outside = refl;
  settled = c.requires.settled;
  releases = refl;
  no_more = omega arith;
}
