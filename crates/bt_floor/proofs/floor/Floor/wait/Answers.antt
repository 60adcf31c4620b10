use Rattle.std.proofs.Common.{◌≡◌, arith, sym, ap, subst, Some, true}
use Rattle.bt_demand.specs.Find.{begun}
use Rattle.bt_demand.specs.Next.{todo}
use Rattle.bt_demand.specs.Steps.{wait}
use Rattle.bt_demand.specs.declared.todo.Todo.TheVariants.{Wait}
use Rattle.bt_ledger.specs.Ledger.{slot_at, part_tree, parts_in, IsPart}
use Rattle.bt_steps.proofs.Outcomes.{open_wait}
use Rattle.bt_ledger.proofs.Keeping.{next_known}
use Rattle.bt_moves.specs.Moves.{left_to_do, StepAt, LateKeeps}
use Rattle.bt_sound.specs.View.{FloorView}
use Rattle.bt_moves.specs.Moves.{RipensBut}
use Rattle.bt_moves.proofs.Ripening.{calms_wait}
use Rattle.bt_moves.proofs.Lateness.{late_wait}
use Rattle.bt_moves.proofs.Moves.{step_with, wait_falls}
use Rattle.bt_leaves.proofs.Begun.{wait_begins}
use Rattle.bt_sound.proofs.Steps.{sound_still, well_formed_at}
use Rattle.bt_demand.proofs.Untouched.{wait-untouched}
use Rattle.bt_moves.proofs.Keeping.{given_true}
use Rattle.bt_leaves.proofs.Kept.{untried_wait, by_wait, rises_kept}
use Rattle.bt_moves.specs.Resting.{AllSettled}
use Rattle.bt_moves.proofs.Settling.{settled_hold}
use Rattle.bt_floor.proofs.floor.Floor.wait.Goals as goal

pub invariant_of-self : goal.invariant_of-self
invariant_of-self g c =
    let l = ap (λ (v : FloorView _ _ _ _ _). v.ledger) c.self.view_is in
    let part : IsPart c.self.inside.ledger c.args.slot c.args.part = subst (λ k. IsPart k c.args.slot c.args.part) (sym l) c.requires.part in
    let next : todo (part_tree c.self.inside.ledger c.args.slot c.args.part) ≡ Some (Wait c.args.node) = subst (λ k. todo (part_tree k c.args.slot c.args.part) ≡ Some (Wait c.args.node)) (sym l) c.requires.next in
    let formed = well_formed_at _ _ _ (parts_in (slot_at c.self.inside.ledger c.args.slot)) c.args.part part.1 (c.self.invariant.1.shaped c.args.slot (given_true (slot_at c.self.inside.ledger c.args.slot) c.args.part part.1)) in
    let rises = rises_kept _ _ (part_tree c.self.inside.ledger c.args.slot c.args.part) formed in
    rw c.hold.ensures (
      c.self.invariant.0,
      sound_still _ _ _ _ _ _ c.self.invariant.0 c.args.slot c.args.part (wait c.args.node (part_tree c.self.inside.ledger c.args.slot c.args.part)) _ c.self.invariant.1 part
          (untried_wait c.args.node (part_tree c.self.inside.ledger c.args.slot c.args.part)) (open_wait (part_tree c.self.inside.ledger c.args.slot c.args.part) c.args.node next) (λ q. wait-untouched c.args.node (part_tree c.self.inside.ledger c.args.slot c.args.part) rises q next) (λ T h. by_wait T c.args.node (part_tree c.self.inside.ledger c.args.slot c.args.part) h),
    )

pub returns-clause-step : goal.returns-clause-step
returns-clause-step g c =
    let l = ap (λ (v : FloorView _ _ _ _ _). v.ledger) c.self.view_is in
    let part : IsPart c.self.inside.ledger c.args.slot c.args.part = subst (λ k. IsPart k c.args.slot c.args.part) (sym l) c.requires.part in
    let next : todo (part_tree c.self.inside.ledger c.args.slot c.args.part) ≡ Some (Wait c.args.node) = subst (λ k. todo (part_tree k c.args.slot c.args.part) ≡ Some (Wait c.args.node)) (sym l) c.requires.next in
    subst (λ k. StepAt c.args.slot c.args.part k c.hold.new.self) l (rw c.hold.ensures (step_with c.self.inside.ledger c.args.slot c.args.part (wait c.args.node (part_tree c.self.inside.ledger c.args.slot c.args.part)) _ part (wait_begins c.args.node (part_tree c.self.inside.ledger c.args.slot c.args.part) next)))

pub returns-clause-falls : goal.returns-clause-falls
returns-clause-falls g c =
    let l = ap (λ (v : FloorView _ _ _ _ _). v.ledger) c.self.view_is in
    let part : IsPart c.self.inside.ledger c.args.slot c.args.part = subst (λ k. IsPart k c.args.slot c.args.part) (sym l) c.requires.part in
    let next : todo (part_tree c.self.inside.ledger c.args.slot c.args.part) ≡ Some (Wait c.args.node) = subst (λ k. todo (part_tree k c.args.slot c.args.part) ≡ Some (Wait c.args.node)) (sym l) c.requires.next in
    let book = c.booked-booked.ensures.book in
    let known = next_known c.self.inside.ledger c.args.slot c.args.part c.args.node book next in
    let same = book.chains in
    let falls = wait_falls c.self.inside.ledger c.args.slot c.args.part c.args.node part (omega arith) next in
    let e = ap left_to_do c.hold.ensures in
    let d = ap left_to_do l in
    omega arith

pub returns-clause-late : goal.returns-clause-late
returns-clause-late g c =
    let l = ap (λ (v : FloorView _ _ _ _ _). v.ledger) c.self.view_is in
    let part : IsPart c.self.inside.ledger c.args.slot c.args.part = subst (λ k. IsPart k c.args.slot c.args.part) (sym l) c.requires.part in
    let next : todo (part_tree c.self.inside.ledger c.args.slot c.args.part) ≡ Some (Wait c.args.node) = subst (λ k. todo (part_tree k c.args.slot c.args.part) ≡ Some (Wait c.args.node)) (sym l) c.requires.next in
    λ b n. subst (λ k. LateKeeps n k c.hold.new.self) l (rw c.hold.ensures (late_wait n c.self.inside.ledger c.args.slot c.args.part c.args.node part (subst (λ k. begun (part_tree k c.args.slot c.args.part) ≡ true) (sym l) b) next))

pub returns-clause-calm : goal.returns-clause-calm
returns-clause-calm g c =
    let l = ap (λ (v : FloorView _ _ _ _ _). v.ledger) c.self.view_is in
    let part : IsPart c.self.inside.ledger c.args.slot c.args.part = subst (λ k. IsPart k c.args.slot c.args.part) (sym l) c.requires.part in
    subst (λ k. RipensBut c.args.node k c.hold.new.self) l (rw c.hold.ensures (calms_wait c.self.inside.ledger c.args.slot c.args.part c.args.node part))

pub returns-clause-settled : goal.returns-clause-settled
returns-clause-settled g c =
    let l = ap (λ (v : FloorView _ _ _ _ _). v.ledger) c.self.view_is in
    let part : IsPart c.self.inside.ledger c.args.slot c.args.part = subst (λ k. IsPart k c.args.slot c.args.part) (sym l) c.requires.part in
    λ h. rw c.hold.ensures (settled_hold c.self.inside.ledger c.args.slot c.args.part c.args.node part (subst (λ k. AllSettled k) (sym l) h))
