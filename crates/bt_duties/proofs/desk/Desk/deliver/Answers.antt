use Rattle.std.proofs.Common.{◌≢◌, ◌<◌, sym, subst, length, IfErr, IfOk, ◌≡◌, []}
use Rattle.bt_duties.specs.DeskView.{DeskView}
use Rattle.bt_duties.specs.Duties.{duty_at}
use Rattle.bt_demand.specs.Parts.{parts_of}
use Rattle.bt_duties.specs.declared.duty.Duty.{Duty}
use Rattle.bt_duties.proofs.Standings.{standing_delivered}
use Rattle.bt_ledger.specs.Ledger.{slot_at, number_in}
use Rattle.bt_moves.specs.Moves.{Delivered}
use Rattle.bt_sound.specs.Transactions.{Derived}
use Rattle.bt_sound.specs.Turns.{DeliveredInTurn, RefusedInTurn}
use Rattle.bt_duties.proofs.desk.Desk.deliver.Goals as goal

pub settle-requires-clause-derived : goal.settle-requires-clause-derived
settle-requires-clause-derived g c = λ κs within.
    let b = subst (λ (v : DeskView _ _ _ _ _). (duty_at v.duties c.args.duty).number ≢ 0) (sym c.self.view_is) c.requires.out in
    let n = c.self.invariant.dutiful.known c.args.duty b in
    let e = c.entry-items.ensures in
    let here = subst (λ (v : DeskView _ _ _ _ _). IfOk c.args.routes (λ r. Derived g.I.Intake g.C.Clock g.D.Derive v.floor.outside (duty_at v.duties c.args.duty).number (parts_of r.parts.list))) (sym c.self.view_is) c.requires.derived in
    subst (λ (x : Duty). IfOk c.args.routes (λ r. Derived g.I.Intake g.C.Clock g.D.Derive c.self.inside.floor.outside (number_in (slot_at c.self.inside.floor.ledger x.slot)) (parts_of r.parts.list))) (sym e)
    (subst (λ k. IfOk c.args.routes (λ r. Derived g.I.Intake g.C.Clock g.D.Derive c.self.inside.floor.outside k (parts_of r.parts.list))) (sym n.number) here)

pub invariant_of-self : goal.invariant_of-self
invariant_of-self g c =
    standing_delivered (record { floor = c.self.inside.floor; duties = c.self.inside.duties.items; window = c.self.inside.window; finished = c.self.inside.finished }) c.settle.new.self c.args.duty c.self.invariant
    (subst (λ (v : DeskView _ _ _ _ _). c.args.duty < length v.duties) (sym c.self.view_is) c.requires.duty)
    (subst (λ (v : DeskView _ _ _ _ _). (duty_at v.duties c.args.duty).number ≢ 0) (sym c.self.view_is) c.requires.out)
    c.settle.ensures.resting (subst (λ (x : Duty). Delivered x.slot c.self.inside.floor.ledger c.settle.new.self.ledger) c.entry-items.ensures c.settle.ensures.delivered) c.settle.ensures.slots c.settle.ensures.ending

pub returns-clause-turn : goal.returns-clause-turn
returns-clause-turn g c =
    let b = subst (λ (v : DeskView _ _ _ _ _). (duty_at v.duties c.args.duty).number ≢ 0) (sym c.self.view_is) c.requires.out in
    let n = c.self.invariant.dutiful.known c.args.duty b in
    subst (λ (v : DeskView _ _ _ _ _). IfOk c.args.routes (λ r. v.floor.ledger.policies ≡ [] → DeliveredInTurn g.K.Sink g.A.Answerer (duty_at v.duties c.args.duty).number (parts_of r.parts.list) v.floor c.settle.new.self)) c.self.view_is
    (subst (λ k. IfOk c.args.routes (λ r. c.self.inside.floor.ledger.policies ≡ [] → DeliveredInTurn g.K.Sink g.A.Answerer k (parts_of r.parts.list) c.self.inside.floor c.settle.new.self)) n.number
    (subst (λ (x : Duty). IfOk c.args.routes (λ r. c.self.inside.floor.ledger.policies ≡ [] → DeliveredInTurn g.K.Sink g.A.Answerer (number_in (slot_at c.self.inside.floor.ledger x.slot)) (parts_of r.parts.list) c.self.inside.floor c.settle.new.self)) c.entry-items.ensures c.settle.ensures.turn))

pub returns-clause-refusal : goal.returns-clause-refusal
returns-clause-refusal g c =
    let b = subst (λ (v : DeskView _ _ _ _ _). (duty_at v.duties c.args.duty).number ≢ 0) (sym c.self.view_is) c.requires.out in
    let n = c.self.invariant.dutiful.known c.args.duty b in
    subst (λ (v : DeskView _ _ _ _ _). IfErr c.args.routes (λ _. RefusedInTurn g.A.Answerer (duty_at v.duties c.args.duty).number (duty_at v.duties c.args.duty).items v.floor c.settle.new.self)) c.self.view_is
    (subst (λ k. IfErr c.args.routes (λ _. RefusedInTurn g.A.Answerer k (duty_at c.self.inside.duties.items c.args.duty).items c.self.inside.floor c.settle.new.self)) n.number
    (subst (λ (x : Duty). IfErr c.args.routes (λ _. RefusedInTurn g.A.Answerer (number_in (slot_at c.self.inside.floor.ledger x.slot)) x.items c.self.inside.floor c.settle.new.self)) c.entry-items.ensures c.settle.ensures.refusal))
