use Rattle.std.proofs.Common.{◌≡◌, ℕ, arith, refl, sym, ap, ◌∙◌, subst, set, Some, true, get_or-set_same}
use Rattle.bt_ledger.specs.Due.{LeastDue, unanswered, IsDue}
use Rattle.bt_ledger.specs.Ledger.{slot_at, IsGiven, open_in, answered_in, number_in}
use Rattle.bt_ledger.specs.declared.slot.Slot.TheVariants.{Given, Free}
use Rattle.bt_ledger.proofs.Answering.{unanswered_set}
use Rattle.std.proofs.Common.{get_or-set_same}
use Rattle.bt_ledger.specs.declared.slot.Slot.TheVariants.{Free}
use Rattle.bt_moves.specs.Moves.{Answering}
use Rattle.bt_sound.specs.View.{FloorView}
use Rattle.bt_moves.proofs.Moves.{answering_with}
use Rattle.bt_sound.proofs.Answered.{fine_answer, sound_answer, sound_memory}
use Rattle.bt_sound.proofs.Counting.{answer_memory}
use Rattle.bt_sound.specs.Counting.{answer_with}
use Rattle.bt_sound.specs.Turns.{AnswererAdds, CallsFor}
use Rattle.bt_sound.proofs.Turns.{due_before, due_gone}
use Rattle.bt_floor.proofs.floor.Floor.answer.Goals as goal

pub invariant_of-self : goal.invariant_of-self
invariant_of-self g c =
    let l = ap (λ (v : FloorView _ _ _ _ _). v.ledger) c.self.view_is in
    let given : IsGiven c.self.inside.ledger c.args.slot = subst (λ k. IsGiven k c.args.slot) (sym l) c.requires.given in
    let due : LeastDue (open_in (slot_at c.self.inside.ledger c.args.slot)) (Some c.args.item) = subst (λ k. LeastDue (open_in (slot_at k c.args.slot)) (Some c.args.item)) (sym l) c.requires.due in
    let counted = subst (λ b. c.count_answer.new.counts ≡ answer_with c.verdict_on-verdict.result b c.self.inside.counts) c.is_err-failed.ensures.value c.count_answer.ensures in
    let same = answer_memory (open_in (slot_at c.self.inside.ledger c.args.slot)) c.args.item c.verdict_on-verdict.result _ c.self.inside.counts c.count_answer.new.counts c.verdict_on-verdict.ensures counted in
    rw c.answered.ensures (
      c.self.invariant.0,
      sound_memory _ _ _ _ _ _ _ c.count_answer.new.counts.refused_memory same
          (sound_answer _ _ _ _ _ _ c.self.invariant.0 c.args.slot c.args.item _ _ _ c.self.invariant.1 given due.0 c.number-number.ensures refl c.verdict_on-verdict.ensures c.why-why.ensures c.answer.ensures.told c.answer.ensures.adds c.answer.ensures.counted (fine_answer _ _ _ c.answer.ensures.failed) counted),
    )

pub returns-clause-answering : goal.returns-clause-answering
returns-clause-answering g c =
    let l = ap (λ (v : FloorView _ _ _ _ _). v.ledger) c.self.view_is in
    let given : IsGiven c.self.inside.ledger c.args.slot = subst (λ k. IsGiven k c.args.slot) (sym l) c.requires.given in
    subst (λ k. Answering c.args.slot k c.answered.new.self) l (rw c.answered.ensures (answering_with c.self.inside.ledger c.args.slot _ given.0 refl refl refl))

pub returns-clause-falls : goal.returns-clause-falls
returns-clause-falls g c =
    let l = ap (λ (v : FloorView _ _ _ _ _). v.ledger) c.self.view_is in
    let given : IsGiven c.self.inside.ledger c.args.slot = subst (λ k. IsGiven k c.args.slot) (sym l) c.requires.given in
    let due : LeastDue (open_in (slot_at c.self.inside.ledger c.args.slot)) (Some c.args.item) = subst (λ k. LeastDue (open_in (slot_at k c.args.slot)) (Some c.args.item)) (sym l) c.requires.due in
    let a = unanswered_set (answered_in (slot_at c.self.inside.ledger c.args.slot)) c.args.item due.0.0 due.0.1 in
    let p = a.0 in
    let q = a.1 in
    let e = ap (λ k. unanswered (answered_in (slot_at k c.args.slot))) c.answered.ensures in
    let h = ap (λ x. unanswered (answered_in x)) (get_or-set_same c.self.inside.ledger.slots c.args.slot (Given (record (open_in (slot_at c.self.inside.ledger c.args.slot)) { answered = set (answered_in (slot_at c.self.inside.ledger c.args.slot)) c.args.item true })) Free given.0) in
    let d = ap (λ k. unanswered (answered_in (slot_at k c.args.slot))) l in
    omega arith

pub returns-clause-outside : goal.returns-clause-outside
returns-clause-outside g c =
    let counted = subst (λ b. c.count_answer.new.counts ≡ answer_with c.verdict_on-verdict.result b c.self.inside.counts) c.is_err-failed.ensures.value c.count_answer.ensures in
    let same = answer_memory (open_in (slot_at c.self.inside.ledger c.args.slot)) c.args.item c.verdict_on-verdict.result _ c.self.inside.counts c.count_answer.new.counts c.verdict_on-verdict.ensures counted in
    ap (λ (k : ℕ). record { plan = c.self.inside.plan.value; intake = c.self.inside.intake; clock = c.self.inside.clock; taken = c.self.inside.taken; ending = c.self.inside.ending; refused_memory = k }) (sym same) ∙ ap (λ (v : FloorView _ _ _ _ _). v.outside) c.self.view_is

pub returns-clause-adds : goal.returns-clause-adds
returns-clause-adds g c =
    subst (λ (v : FloorView _ _ _ _ _). AnswererAdds g.A.Answerer (CallsFor (number_in (slot_at v.ledger c.args.slot)) c.args.item) v.answerer c.answer.new.self) c.self.view_is (record {
      place = c.answer.ensures.placed;
      faults = c.answer.ensures.counted;
      told = c.answer.ensures.told;
      calls = λ t. (_, (c.answer.ensures.adds t, ((c.number-number.ensures, refl), refl)));
    })

pub returns-clause-dues : goal.returns-clause-dues
returns-clause-dues g c = λ i d.
    let l = ap (λ (v : FloorView _ _ _ _ _). v.ledger) c.self.view_is in
    let given : IsGiven c.self.inside.ledger c.args.slot = subst (λ k. IsGiven k c.args.slot) (sym l) c.requires.given in
    let due : LeastDue (open_in (slot_at c.self.inside.ledger c.args.slot)) (Some c.args.item) = subst (λ k. LeastDue (open_in (slot_at k c.args.slot)) (Some c.args.item)) (sym l) c.requires.due in
    let e = ap (λ k. slot_at k c.args.slot) c.answered.ensures ∙ get_or-set_same c.self.inside.ledger.slots c.args.slot (Given (record (open_in (slot_at c.self.inside.ledger c.args.slot)) { answered = set (answered_in (slot_at c.self.inside.ledger c.args.slot)) c.args.item true })) Free given.0 in
    subst (λ k. IsDue (open_in (slot_at k c.args.slot)) i) l (due_before (open_in (slot_at c.self.inside.ledger c.args.slot)) c.args.item i due.0.0 (subst (λ y. IsDue (open_in y) i) e d))

pub returns-clause-done : goal.returns-clause-done
returns-clause-done g c = λ d.
    let l = ap (λ (v : FloorView _ _ _ _ _). v.ledger) c.self.view_is in
    let given : IsGiven c.self.inside.ledger c.args.slot = subst (λ k. IsGiven k c.args.slot) (sym l) c.requires.given in
    let due : LeastDue (open_in (slot_at c.self.inside.ledger c.args.slot)) (Some c.args.item) = subst (λ k. LeastDue (open_in (slot_at k c.args.slot)) (Some c.args.item)) (sym l) c.requires.due in
    let e = ap (λ k. slot_at k c.args.slot) c.answered.ensures ∙ get_or-set_same c.self.inside.ledger.slots c.args.slot (Given (record (open_in (slot_at c.self.inside.ledger c.args.slot)) { answered = set (answered_in (slot_at c.self.inside.ledger c.args.slot)) c.args.item true })) Free given.0 in
    due_gone (open_in (slot_at c.self.inside.ledger c.args.slot)) c.args.item due.0.0 (subst (λ y. IsDue (open_in y) c.args.item) e d)
