use Rattle.std.proofs.Common.{ap, sym, List, Bool, subst, Some, ◌≡◌, set, true}
use Rattle.bt_demand.specs.Parts.{parts_of}
use Rattle.bt_ledger.specs.Counted.{answered_by}
use Rattle.bt_ledger.specs.Open.{Open}
use Rattle.bt_ledger.specs.Due.{LeastDue}
use Rattle.bt_ledger.proofs.OpenSteps.{due_at, marked_answered, answered_more}
use Rattle.bt_ledger.proofs.open.Open.answered.Goals as goal

pub overflow_sub-self : goal.overflow_sub-self
overflow_sub-self c =
    let due = subst (λ (v : Open). LeastDue v (Some c.args.item)) (sym c.self.view_is) c.requires in
    (due_at c.self.inside.number c.self.inside.moment _ c.self.inside.counts.items _ _ _ c.args.item c.self.invariant due).2

pub invariant_of-self : goal.invariant_of-self
invariant_of-self c =
    let due = subst (λ (v : Open). LeastDue v (Some c.args.item)) (sym c.self.view_is) c.requires in
    marked_answered c.self.inside.number c.self.inside.moment _ c.self.inside.counts.items c.answer_first.new.counts.items _ _ _ _ _ c.args.item c.self.invariant due c.answer_first.ensures.lefts c.answer_first.ensures.losses c.answer_first.ensures.line

pub returns : goal.returns
returns c =
    let due = subst (λ (v : Open). LeastDue v (Some c.args.item)) (sym c.self.view_is) c.requires in
    let e : answered_by c.answer_first.new.counts.items ≡ set (answered_by c.self.inside.counts.items) c.args.item true = answered_more c.self.inside.number c.self.inside.moment _ c.self.inside.counts.items c.answer_first.new.counts.items _ _ _ c.args.item c.self.invariant due c.answer_first.ensures.lefts in
    rw (← c.self.view_is) (ap (λ (bs : List Bool). record { number = c.self.inside.number; moment = c.self.inside.moment; parts = parts_of c.self.inside.parts.items; answered = bs }) e)
