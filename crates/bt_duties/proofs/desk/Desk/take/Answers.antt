use Rattle.std.proofs.Common.{[], ap, None, arith, length, set, subst, sym, ◌+◌, ◌<◌, ◌≡◌}
use Rattle.bt_duties.specs.DeskView.{DeskView}
use Rattle.bt_duties.specs.Duties.{duty_at}
use Rattle.bt_ledger.specs.Ledger.{opened}
use Rattle.bt_duties.specs.Calls.{NothingSettled, Took}
use Rattle.bt_duties.proofs.Admitting.{ended_unheld, taken_unheld, took_taken}
use Rattle.bt_duties.proofs.Standings.{standing_taken, taken_resting}
use Rattle.bt_duties.proofs.desk.Desk.take.Goals as goal

pub invariant_of-self : goal.invariant_of-self
invariant_of-self g c =
    rw c.len.ensures (standing_taken g.I.Intake g.C.Clock (record { floor = c.self.inside.floor; duties = c.self.inside.duties.items; window = c.self.inside.window; finished = c.self.inside.finished }) c.take.new.self c.release_past.new.self c.args.duty c.in-Ok.taken.slot c.in-Ok.taken.txn c.self.invariant
    (subst (λ (v : DeskView _ _ _ _ _). v.floor.outside.ending ≡ None) (sym c.self.view_is) c.requires.goes)
    (subst (λ (v : DeskView _ _ _ _ _). c.args.duty < length v.duties) (sym c.self.view_is) c.requires.duty)
    (subst (λ (v : DeskView _ _ _ _ _). (duty_at v.duties c.args.duty).number ≡ 0) (sym c.self.view_is) c.requires.idle)
    c.in-Ok.ensures.ok c.release_past.ensures.others c.release_past.ensures.calm c.release_past.ensures.settled c.release_past.ensures.outs)

pub release_past-requires-clause-resting : goal.release_past-requires-clause-resting
release_past-requires-clause-resting g c = λ κs within. taken_resting g.I.Intake g.C.Clock c.self.inside.floor c.take.new.self c.in-Ok.taken.slot c.in-Ok.taken.txn c.self.invariant.resting c.in-Ok.ensures.ok

pub returns-in-Ok-clause-admits : goal.returns-in-Ok-clause-admits
returns-in-Ok-clause-admits g c =
    let w = c.self.invariant.window in
    let place = subst (λ (v : DeskView _ _ _ _ _). opened v.floor.ledger < length v.floor.ledger.slots) (sym c.self.view_is) c.requires.place in
    rw c.len.ensures (subst (λ (v : DeskView _ _ _ _ _). Took g.I.Intake g.C.Clock c.args.duty v (record { floor = c.release_past.new.self; duties = set c.self.inside.duties.items c.args.duty (record { number = c.in-Ok.taken.txn.number; items = length c.in-Ok.taken.txn.items.list; slot = c.in-Ok.taken.slot }); window = c.self.inside.window; finished = c.self.inside.finished }) c.in-Ok.taken.txn) c.self.view_is
    (took_taken g.I.Intake g.C.Clock (record { floor = c.self.inside.floor; duties = c.self.inside.duties.items; window = c.self.inside.window; finished = c.self.inside.finished }) c.take.new.self c.release_past.new.self c.args.duty c.in-Ok.taken.slot c.in-Ok.taken.txn
    (subst (λ (v : DeskView _ _ _ _ _). c.args.duty < length v.duties) (sym c.self.view_is) c.requires.duty) (omega arith) c.in-Ok.ensures.ok c.release_past.ensures.outside c.release_past.ensures.none c.release_past.ensures.stays c.release_past.ensures.unless))

pub returns-in-Ok-clause-unheld : goal.returns-in-Ok-clause-unheld
returns-in-Ok-clause-unheld g c = subst (λ (v : DeskView _ _ _ _ _). v.floor.ledger.policies ≡ [] → NothingSettled v.floor c.release_past.new.self) c.self.view_is (taken_unheld g.I.Intake g.C.Clock c.self.inside.floor c.take.new.self c.release_past.new.self c.in-Ok.taken.slot c.in-Ok.taken.txn c.in-Ok.ensures.ok c.release_past.ensures.unless)

pub returns-in-Err-clause-unheld : goal.returns-in-Err-clause-unheld
returns-in-Err-clause-unheld g c = λ _. subst (λ (v : DeskView _ _ _ _ _). NothingSettled v.floor c.take.new.self) c.self.view_is (ended_unheld g.I.Intake g.C.Clock c.self.inside.floor c.take.new.self c.in-Err.ending c.in-Err.ensures.err)
