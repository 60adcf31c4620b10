use Rattle.std.proofs.Common.{◌≡◌, arith, refl, sym, ap, ◌∙◌, subst, Some, true, inl, ◌+◌, length}
use Rattle.bt_demand.specs.Find.{begun}
use Rattle.bt_demand.specs.Next.{todo}
use Rattle.bt_demand.specs.Steps.{settle, state_for}
use Rattle.bt_demand.specs.declared.todo.Todo.TheVariants.{Put}
use Rattle.bt_ledger.specs.Ledger.{slot_at, part_tree, parts_in, is_given, number_in}
use Rattle.bt_moves.specs.Moves.{left_to_do, StepAt}
use Rattle.bt_demand.proofs.Flushing.{late_next}
use Rattle.bt_moves.proofs.Keeping.{but_step, but_keeps, but_closes, keeps_but, begun_room, part_stays, but_same, given_true}
use Rattle.bt_moves.proofs.Moves.{step_with, put_falls}
use Rattle.bt_leaves.proofs.Begun.{put_begins}
use Rattle.bt_moves.specs.Moves.{LateKeepsBut}
use Rattle.bt_moves.proofs.Lateness.{late_joins, but_joins_late, keeps_but_late, above_keeps, late_put, late_same}
use Rattle.bt_moves.proofs.Outs.{outs_step, outs_joins, outs_same}
use Rattle.bt_moves.proofs.Beginning.{fresh_over}
use Rattle.bt_moves.proofs.Ripening.{calms_put, calms_but, empty_unripe}
use Rattle.bt_moves.proofs.Settling.{settled_put}
use Rattle.bt_sound.specs.Owned.{BatchFits}
use Rattle.bt_sound.proofs.Owned.{fits_later, rise_same, rise_joins}
use Rattle.bt_ledger.specs.Calls.{TodoFits}
use Rattle.bt_demand.proofs.Moves.{settle_steps}
use Rattle.bt_demand.proofs.Shapes.{moves-leaves}
use Rattle.bt_sound.specs.Turns.{AtMostOne, SinksAdd}
use Rattle.bt_sound.proofs.Turns.{no_hold, only_step, puts_again, Putting, tree_stepped, turned_part, only_same, sinks_same}
use Rattle.bt_floor.proofs.floor.Floor.+settling.Goals as goal

pub settle_part-put-accepted-requires-clause-puts : goal.settle_part-put-accepted-requires-clause-puts
settle_part-put-accepted-requires-clause-puts g t c =
    let l = c.loop-self.self.ledger in
    let next : todo (part_tree l c.args.slot c.args.part) ≡ Some (Put c.in-Some-Put.leaf c.in-Some-Put.sink) = sym c.next.ensures.next ∙ c.in-Some-Put.is ∙ ap Some c.in-Some-Put.field-0-is in
    λ κs within. inl ((c.loop-self.invariant.settled c.args.slot c.args.part, next), refl)

pub settle_part-loop-self-smaller-in-Put-1 : goal.settle_part-loop-self-smaller-in-Put-1
settle_part-loop-self-smaller-in-Put-1 g t c =
    let l = c.loop-self.self.ledger in
    let next : todo (part_tree l c.args.slot c.args.part) ≡ Some (Put c.in-Some-Put.leaf c.in-Some-Put.sink) = sym c.next.ensures.next ∙ c.in-Some-Put.is ∙ ap Some c.in-Some-Put.field-0-is in
    let given : is_given (slot_at l c.args.slot) ≡ true = sym c.is_given.ensures ∙ c.loop-self-test.true in
    let part = part_stays c.args.self.now.ledger l c.args.slot c.args.part c.requires.part c.loop-self.invariant.others.slots (c.loop-self.invariant.others.stays c.args.slot) given in
    rw c.put-accepted.ensures.ledger (put_falls l c.args.slot c.args.part c.in-Some-Put.leaf c.in-Some-Put.sink c.put-accepted.result part next)

pub settle_part-loop-self-preserved-in-Put-1 : goal.settle_part-loop-self-preserved-in-Put-1
settle_part-loop-self-preserved-in-Put-1 g t c =
    let l = c.loop-self.self.ledger in
    let next : todo (part_tree l c.args.slot c.args.part) ≡ Some (Put c.in-Some-Put.leaf c.in-Some-Put.sink) = sym c.next.ensures.next ∙ c.in-Some-Put.is ∙ ap Some c.in-Some-Put.field-0-is in
    let given : is_given (slot_at l c.args.slot) ≡ true = sym c.is_given.ensures ∙ c.loop-self-test.true in
    let part = part_stays c.args.self.now.ledger l c.args.slot c.args.part c.requires.part c.loop-self.invariant.others.slots (c.loop-self.invariant.others.stays c.args.slot) given in
    let e = c.put-accepted.ensures.ledger in
    let u = settle c.in-Some-Put.leaf (state_for c.put-accepted.result) (part_tree l c.args.slot c.args.part) in
    let step : StepAt c.args.slot c.args.part l c.put-accepted.new.self.ledger = rw e (step_with l c.args.slot c.args.part u l.chains part (put_begins c.in-Some-Put.leaf c.in-Some-Put.sink c.put-accepted.result (part_tree l c.args.slot c.args.part) next)) in
    let falls = put_falls l c.args.slot c.args.part c.in-Some-Put.leaf c.in-Some-Put.sink c.put-accepted.result part next in
    let z = ap left_to_do e in
    let w = c.loop-self.invariant.no_more in
    record {
      others = but_step c.args.slot c.args.part c.args.self.now.ledger l _ c.loop-self.invariant.others step;
      late = λ b n. late_joins n c.args.self.now.ledger l c.put-accepted.new.self.ledger (c.loop-self.invariant.late b n) (rw e (late_put n l c.args.slot c.args.part c.in-Some-Put.leaf c.put-accepted.result part ((c.loop-self.invariant.others.stays c.args.slot given).2 c.args.part b)));
      room = λ f. begun_room c.put-accepted.new.self.ledger c.args.slot c.args.part step.begins;
      fresh = λ a b d f. ap begun (step.trees a b d) ∙ c.loop-self.invariant.fresh a b d f;
      outs = outs_joins c.args.self.now.ledger l c.put-accepted.new.self.ledger c.loop-self.invariant.outs (outs_step c.args.slot c.args.part l c.put-accepted.new.self.ledger step);
      calm = λ n h. rw e (calms_put l c.args.slot c.args.part c.in-Some-Put.leaf c.put-accepted.result part n (c.loop-self.invariant.calm n h));
      settled = rw e (settled_put l c.args.slot c.args.part c.in-Some-Put.leaf c.put-accepted.result part c.loop-self.invariant.settled);
      rise = rise_same c.args.self.now.releases c.loop-self.self.releases c.put-accepted.new.self.releases c.loop-self.invariant.rise c.put-accepted.ensures.releases;
      outside = c.put-accepted.ensures.outside ∙ c.loop-self.invariant.outside;
      turn = λ q.
          (let i = c.loop-self.invariant.turn q in
          let plain = c.put-accepted.ensures.plain (c.loop-self.invariant.others.policies ∙ q) in
          let same = moves-leaves 0 (part_tree l c.args.slot c.args.part) (settle c.in-Some-Put.leaf (state_for c.put-accepted.result) (part_tree l c.args.slot c.args.part)) (settle_steps 0 c.in-Some-Put.leaf (state_for c.put-accepted.result) (part_tree l c.args.slot c.args.part)) in
          let adds = subst (λ n. SinksAdd g.K.Sink (AtMostOne n c.args.part c.in-Some-Put.leaf) c.loop-self.self.sinks c.put-accepted.new.self.sinks) i.0.same.number c.put-accepted.ensures.adds in
          let puts = puts_again g.K.Sink c.args.self.now.sinks c.loop-self.self.sinks c.put-accepted.new.self.sinks (parts_in (slot_at c.args.self.now.ledger c.args.slot)) (number_in (slot_at c.args.self.now.ledger c.args.slot)) c.args.part c.in-Some-Put.leaf c.in-Some-Put.sink c.put-accepted.result (part_tree l c.args.slot c.args.part)
          (i.0.same.same_leaves c.args.part) plain next i.1.0 adds in
          let here : part_tree c.put-accepted.new.self.ledger c.args.slot c.args.part ≡ settle c.in-Some-Put.leaf (state_for c.put-accepted.result) (part_tree l c.args.slot c.args.part) = ap (λ k. part_tree k c.args.slot c.args.part) e ∙ tree_stepped l c.args.slot c.args.part u part in (
            only_step l c.put-accepted.new.self.ledger (slot_at c.args.self.now.ledger c.args.slot) c.args.slot c.args.part u part same e i.0,
            (
              subst (λ t. SinksAdd g.K.Sink (Putting (parts_in (slot_at c.args.self.now.ledger c.args.slot)) (number_in (slot_at c.args.self.now.ledger c.args.slot)) c.args.part t) c.args.self.now.sinks c.put-accepted.new.self.sinks) (sym here) puts,
              c.put-accepted.ensures.answerer ∙ i.1.1,
            ),
          ));
      no_more = omega arith;
    }

pub settle_part-loop-self-preserved-in-Some : goal.settle_part-loop-self-preserved-in-Some
settle_part-loop-self-preserved-in-Some g t c =
    let given : is_given (slot_at c.loop-self.self.ledger c.args.slot) ≡ true = sym c.is_given.ensures ∙ c.loop-self-test.true in
    record {
      others = but_keeps c.args.slot c.args.part c.args.self.now.ledger _ _ (but_step c.args.slot c.args.part c.args.self.now.ledger _ _ c.loop-self.invariant.others c.wait.ensures.step) c.release.ensures.others;
      late = λ b n h. (let x = c.loop-self.invariant.late b n h in
          let now = (c.loop-self.invariant.others.stays c.args.slot given).2 c.args.part b in
          let above = late_next n c.in-Some-Wait.node (part_tree c.loop-self.self.ledger c.args.slot c.args.part) (x.0 c.args.slot c.args.part now) (sym c.next.ensures.next ∙ c.in-Some-Wait.is ∙ ap Some c.in-Some-Wait.field-0-is) in
          late_joins n c.args.self.now.ledger c.loop-self.self.ledger c.release.new.self.ledger (c.loop-self.invariant.late b n) (late_joins n c.loop-self.self.ledger c.wait.new.self.ledger c.release.new.self.ledger (c.wait.ensures.late now n) (above_keeps c.in-Some-Wait.node n c.wait.new.self.ledger c.release.new.self.ledger above (c.release.ensures.late n (omega arith)))) h);
      fresh = λ a b d f. c.release.ensures.fresh a b (ap begun (c.wait.ensures.step.trees a b d) ∙ c.loop-self.invariant.fresh a b d f);
      outs = outs_joins c.args.self.now.ledger c.loop-self.self.ledger c.release.new.self.ledger c.loop-self.invariant.outs (outs_joins c.loop-self.self.ledger c.wait.new.self.ledger c.release.new.self.ledger (outs_step c.args.slot c.args.part c.loop-self.self.ledger c.wait.new.self.ledger c.wait.ensures.step) c.release.ensures.outs);
      calm = λ n h. calms_but c.in-Some-Wait.node c.loop-self.self.ledger c.release.new.self.ledger (λ j d x. c.release.ensures.calm j (c.wait.ensures.calm j d x)) (empty_unripe c.release.new.self.ledger c.in-Some-Wait.node c.release.ensures.empties) n (c.loop-self.invariant.calm n h);
      outside = c.release.ensures.outside ∙ c.wait.ensures.outside ∙ c.loop-self.invariant.outside;
      settled = c.release.ensures.settled;
      rise = rise_joins c.args.self.now.releases c.wait.new.self.releases c.release.new.self.releases (rise_same c.args.self.now.releases c.loop-self.self.releases c.wait.new.self.releases c.loop-self.invariant.rise c.wait.ensures.releases) c.release.ensures.rise;
      room = λ e. begun_room c.release.new.self.ledger c.args.slot c.args.part ((c.release.ensures.others.stays c.args.slot e).2 c.args.part c.wait.ensures.step.begins);
      turn = λ q. absurd (no_hold c.args.self.now.ledger.policies c.loop-self.self.ledger.policies c.in-Some-Wait.node c.loop-self.invariant.others.policies q (subst (λ r. TodoFits (length c.loop-self.self.ledger.policies) r) (c.in-Some-Wait.is ∙ ap Some c.in-Some-Wait.field-0-is) c.next.ensures.known));
      no_more = omega arith;
    }

pub release-loop-entry-preserved : goal.release-loop-entry-preserved
release-loop-entry-preserved g t c =
    let s = c.in-Some.entry.slot in
    let p = c.in-Some.entry.part in
    let a = c.begin_release-batch.new.self.ledger in
    let l = c.loop-entry.self.ledger in
    let m = c.pop.new.self.ledger in
    let k = c.settle_child.new.self.ledger in
    let z = c.settle_part.new.self.ledger in
    let step = c.in-Some.ensures.popped.0 in
    let falls = c.in-Some.ensures.popped.1.1 in
    let u = c.settle_child.ensures.no_more in
    let v = c.settle_part.ensures.no_more in
    let w = c.loop-entry.invariant.no_more in
    record {
      others = but_closes s p a z (but_keeps s p a k z (but_step s p a m k (but_step s p a l m (keeps_but s p a l c.loop-entry.invariant.others) step) c.settle_child.ensures.step) c.settle_part.ensures.others) c.settle_part.ensures.here c.settle_part.ensures.rest;
      late = λ n h. but_joins_late c.args.node n a l z (c.loop-entry.invariant.late n h) (but_joins_late c.args.node n l m z (c.in-Some.ensures.late n h) (but_joins_late c.args.node n m k z (keeps_but_late c.args.node n m k (c.settle_child.ensures.late n)) (keeps_but_late c.args.node n k z (c.settle_part.ensures.late c.settle_child.ensures.step.begins n))));
      fresh = λ a b f. fresh_over s p m k z step.begins c.settle_child.ensures.step c.settle_part.ensures.fresh a b (c.in-Some.ensures.fresh a b (c.loop-entry.invariant.fresh a b f));
      outs = outs_joins a l z c.loop-entry.invariant.outs (outs_joins l m z (outs_step s p l m step) (outs_joins m k z (outs_step s p m k c.settle_child.ensures.step) c.settle_part.ensures.outs));
      calm = λ n h. c.settle_part.ensures.calm n (c.settle_child.ensures.calm n (c.in-Some.ensures.calm n (c.loop-entry.invariant.calm n h)));
      settled = c.settle_part.ensures.settled;
      rise = rise_joins c.begin_release-batch.new.self.releases c.settle_child.new.self.releases c.settle_part.new.self.releases (rise_same c.begin_release-batch.new.self.releases c.pop.new.self.releases c.settle_child.new.self.releases (rise_same c.begin_release-batch.new.self.releases c.loop-entry.self.releases c.pop.new.self.releases c.loop-entry.invariant.rise c.in-Some.ensures.releases) c.settle_child.ensures.releases) c.settle_part.ensures.rise;
      fits = fits_later c.settle_child.new.self.releases c.settle_part.new.self.releases (Some c.args.node) c.begin_release-batch.result c.settle_part.ensures.rise (subst (λ rs. BatchFits rs (Some c.args.node) c.begin_release-batch.result) (sym (c.settle_child.ensures.releases ∙ c.in-Some.ensures.releases)) c.loop-entry.invariant.fits);
      outside = c.settle_part.ensures.outside ∙ c.settle_child.ensures.outside ∙ c.in-Some.ensures.outside ∙ c.loop-entry.invariant.outside;
      no_more = omega arith;
    }

pub settle_part-loop-self-preserved : goal.settle_part-loop-self-preserved
settle_part-loop-self-preserved g t c =
    let given : is_given (slot_at c.loop-self.self.ledger c.args.slot) ≡ true = sym c.is_given.ensures ∙ c.loop-self-test.true in
    let falls = c.wait.ensures.falls in
    let w = c.loop-self.invariant.no_more in
    record {
      others = but_step c.args.slot c.args.part c.args.self.now.ledger _ _ c.loop-self.invariant.others c.wait.ensures.step;
      late = λ b n. late_joins n c.args.self.now.ledger c.loop-self.self.ledger c.wait.new.self.ledger (c.loop-self.invariant.late b n) (c.wait.ensures.late ((c.loop-self.invariant.others.stays c.args.slot given).2 c.args.part b) n);
      settled = c.wait.ensures.settled c.loop-self.invariant.settled;
      rise = rise_same c.args.self.now.releases c.loop-self.self.releases c.wait.new.self.releases c.loop-self.invariant.rise c.wait.ensures.releases;
      room = λ e. begun_room c.wait.new.self.ledger c.args.slot c.args.part c.wait.ensures.step.begins;
      fresh = λ a b d f. ap begun (c.wait.ensures.step.trees a b d) ∙ c.loop-self.invariant.fresh a b d f;
      outs = outs_joins c.args.self.now.ledger c.loop-self.self.ledger c.wait.new.self.ledger c.loop-self.invariant.outs (outs_step c.args.slot c.args.part c.loop-self.self.ledger c.wait.new.self.ledger c.wait.ensures.step);
      calm = λ n h. calms_but c.in-Some-Wait.node c.loop-self.self.ledger c.wait.new.self.ledger c.wait.ensures.calm (sym c.ripe.ensures ∙ c.in-None.is) n (c.loop-self.invariant.calm n h);
      outside = c.wait.ensures.outside ∙ c.loop-self.invariant.outside;
      turn = λ q. absurd (no_hold c.args.self.now.ledger.policies c.loop-self.self.ledger.policies c.in-Some-Wait.node c.loop-self.invariant.others.policies q (subst (λ r. TodoFits (length c.loop-self.self.ledger.policies) r) (c.in-Some-Wait.is ∙ ap Some c.in-Some-Wait.field-0-is) c.next.ensures.known));
      no_more = omega arith;
    }

pub settle_part-returns-in_default-clause-late : goal.settle_part-returns-in_default-clause-late
settle_part-returns-in_default-clause-late g t c = λ b n. late_joins n c.args.self.now.ledger c.loop-self.self.ledger c.finish_part.new.self.ledger (c.loop-self.invariant.late b n) (c.finish_part.ensures.late n)

pub release-returns-clause-late : goal.release-returns-clause-late
release-returns-clause-late g t c = λ n h. subst (λ k. LateKeepsBut c.args.node n k c.pop.new.self.ledger) c.begin_release-batch.ensures.ledger (subst (λ m. LateKeepsBut c.args.node n c.begin_release-batch.new.self.ledger m) (sym c.in_default.ensures.popped) (c.loop-entry.invariant.late n h))

pub settle_part-returns-in_default-clause-outs : goal.settle_part-returns-in_default-clause-outs
settle_part-returns-in_default-clause-outs g t c = outs_joins c.args.self.now.ledger c.loop-self.self.ledger c.finish_part.new.self.ledger c.loop-self.invariant.outs c.finish_part.ensures.outs

pub settle_part-returns-in_default-clause-turn : goal.settle_part-returns-in_default-clause-turn
settle_part-returns-in_default-clause-turn g t c = λ q rest.
    let i = c.loop-self.invariant.turn q in
    turned_part g.K.Sink g.A.Answerer c.args.slot c.args.part (part_tree c.loop-self.self.ledger c.args.slot c.args.part) c.args.self.now c.loop-self.self c.finish_part.new.self rest i.0 i.1.0 i.1.1 c.finish_part.ensures.sinks c.finish_part.ensures.adds c.finish_part.ensures.same (c.finish_part.ensures.policies ∙ c.loop-self.invariant.others.policies)

pub settle_part-loop-self-init : goal.settle_part-loop-self-init
settle_part-loop-self-init g t c =
    let l = c.args.self.now.ledger in
    record {
      others = but_same c.args.slot c.args.part l;
      late = λ b n. late_same n l;
      room = λ e. c.requires.room;
      fresh = λ a b d f. f;
      outs = outs_same l;
      calm = λ n h. h;
      outside = refl;
      settled = c.requires.settled;
      rise = λ n. omega arith;
      turn = λ q. (
        only_same c.args.part (slot_at l c.args.slot) (given_true (slot_at l c.args.slot) c.args.part c.requires.part.1),
        (sinks_same g.K.Sink (Putting (parts_in (slot_at l c.args.slot)) (number_in (slot_at l c.args.slot)) c.args.part (part_tree l c.args.slot c.args.part)) c.args.self.now.sinks ((tt, tt), tt), refl),
      );
      no_more = omega arith;
    }
