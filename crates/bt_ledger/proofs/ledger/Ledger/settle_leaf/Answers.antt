use Rattle.std.proofs.Common.{sym, ap, ◌∙◌, subst}
use Rattle.bt_demand.specs.Holding.{booked_in}
use Rattle.bt_ledger.specs.Ledger.{Ledger, IsPart, Roomy, over_slots}
use Rattle.bt_ledger.specs.Pooled.{ledger_of}
use Rattle.bt_steps.specs.declared.step.Step.TheVariants.{Settle}
use Rattle.bt_ledger.proofs.Keeping.{kept_settle, small_step}
use Rattle.bt_ledger.proofs.ledger.Ledger.settle_leaf.Goals as goal

pub step-requires-clause-bound : goal.step-requires-clause-bound
step-requires-clause-bound c =
    let l = ledger_of c.self.inside.slots.items c.self.inside.policies.items c.self.inside.pool in
    let part : IsPart (ledger_of c.self.inside.slots.items c.self.inside.policies.items c.self.inside.pool) c.args.slot c.args.part = subst (λ (x : Ledger). IsPart x c.args.slot c.args.part) (sym c.self.view_is) c.requires.part in
    let room : Roomy (ledger_of c.self.inside.slots.items c.self.inside.policies.items c.self.inside.pool) c.args.slot c.args.part = subst (λ (x : Ledger). Roomy x c.args.slot c.args.part) (sym c.self.view_is) c.requires.room in
    small_step l c.args.slot c.args.part (Settle c.args.leaf c.args.accepted) _ _ _ _ c.self.invariant part room

pub invariant_of-self : goal.invariant_of-self
invariant_of-self c =
    let l = ledger_of c.self.inside.slots.items c.self.inside.policies.items c.self.inside.pool in
    let part : IsPart (ledger_of c.self.inside.slots.items c.self.inside.policies.items c.self.inside.pool) c.args.slot c.args.part = subst (λ (x : Ledger). IsPart x c.args.slot c.args.part) (sym c.self.view_is) c.requires.part in
    let room : Roomy (ledger_of c.self.inside.slots.items c.self.inside.policies.items c.self.inside.pool) c.args.slot c.args.part = subst (λ (x : Ledger). Roomy x c.args.slot c.args.part) (sym c.self.view_is) c.requires.room in
    rw c.step.ensures.slots (kept_settle l c.args.slot c.args.part c.args.leaf c.args.accepted c.self.inside.booked c.step.new.booked _ _ _ c.self.invariant part room (c.step.ensures.booked ∙ ap (over_slots booked_in) c.step.ensures.slots))
