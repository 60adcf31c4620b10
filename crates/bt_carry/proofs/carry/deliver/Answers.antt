use Rattle.std.proofs.Common.{◌≡◌, subst}
use Rattle.bt_carry.specs.Order.{AddsInTurn}
use Rattle.bt_carry.proofs.Carrying.{derived_by, if_ok_each}
use Rattle.bt_carry.proofs.Ordering.{adds_of}
use Rattle.bt_demand.specs.Parts.{parts_of}
use Rattle.bt_demand.specs.declared.routes.Routes.{Routes}
use Rattle.bt_duties.specs.Duties.{duty_at}
use Rattle.bt_sound.specs.Transactions.{Derived}
use Rattle.bt_carry.proofs.carry.deliver.Goals as goal

pub deliver-requires-clause-derived : goal.deliver-requires-clause-derived
deliver-requires-clause-derived g c = λ κs within. if_ok_each
    (λ (r : Routes). parts_of r.parts.list ≡ g.D.Derive.parts c.args.plan.now c.args.txn.now)
    (λ r. Derived g.I.Intake g.C.Clock g.D.Derive c.args.desk.now.floor.outside (duty_at c.args.desk.now.duties 0).number (parts_of r.parts.list)) c.derive-routes.result
    (λ r e. derived_by g.I.Intake g.C.Clock g.D.Derive c.args.desk.now.floor.outside c.args.plan.now (duty_at c.args.desk.now.duties 0).number c.args.txn.now (parts_of r.parts.list) c.requires.plan c.requires.reads c.requires.number c.requires.is e)
    c.derive-routes.ensures.parts

pub returns-clause-adds : goal.returns-clause-adds
returns-clause-adds g c = λ q.
    subst (λ i. AddsInTurn g.K.Sink g.A.Answerer c.args.txn.now.number i (g.D.Derive.parts c.args.plan.now c.args.txn.now) c.args.desk.now.floor c.deliver.new.self.floor) c.requires.items
    (subst (λ n. AddsInTurn g.K.Sink g.A.Answerer n (duty_at c.args.desk.now.duties 0).items (g.D.Derive.parts c.args.plan.now c.args.txn.now) c.args.desk.now.floor c.deliver.new.self.floor) c.requires.number
    (adds_of g.K.Sink g.A.Answerer (duty_at c.args.desk.now.duties 0).number (duty_at c.args.desk.now.duties 0).items (g.D.Derive.parts c.args.plan.now c.args.txn.now) c.args.desk.now.floor c.deliver.new.self.floor c.derive-routes.result c.derive-routes.ensures.parts c.deliver.ensures.turn c.deliver.ensures.refusal q))
