use Rattle.std.proofs.Common.{◌≡◌, ◌∙◌, length, [], ap, arith, sym}
use Rattle.bt_carry.proofs.Carrying.{ended_with, none_out, same_run-then, stopped_by, stopped_goes, took_goes}
use Rattle.bt_carry.proofs.Ordering.{parts_are, quiet_ordered, turn_ordered}
use Rattle.bt_duties.specs.Duties.{duty_at}
use Rattle.bt_carry.proofs.carry.turn.Goals as goal

pub returns-in_default : goal.returns-in_default
returns-in_default g c =
    let free = none_out c.args.desk.now.duties c.requires.rests.one c.requires.rests.idle in
    let w = stopped_by g.I.Intake g.C.Clock 0 c.admit.result c.args.desk.now c.admit.new.self c.in_default.not-Job free c.admit.ensures.admits in
    let b = c.admit.ensures.stands.1.sound.course.bounded in
    record {
      rests = record {
        over = w.1.run.plan ∙ c.requires.rests.over;
        one = c.admit.ensures.many ∙ c.requires.rests.one;
        idle = ap (λ ds. (duty_at ds 0).number) w.1.duties ∙ c.requires.rests.idle;
      };
      goes = stopped_goes g.I.Intake g.C.Clock c.args.desk.now c.admit.new.self w.0 w.1;
      turned = λ e. cc;
      bounded = omega arith;
      ended = λ e. ended_with g.I.Intake g.C.Clock c.args.desk.now c.admit.new.self w.0 w.1;
      order = λ r h.
          (let goes = stopped_goes g.I.Intake g.C.Clock c.args.desk.now c.admit.new.self w.0 w.1 in
          quiet_ordered g.I.Intake g.K.Sink g.A.Answerer g.C.Clock g.D.Derive c.args.desk.now.floor c.admit.new.self.floor (c.admit.ensures.unheld h.unheld) goes.run r (goes.read r) w.1.taken c.admit.ensures.stands.1.sound.policies h);
    }

pub returns-in-Job-clause-order : goal.returns-in-Job-clause-order
returns-in-Job-clause-order g c = λ r h.
    let took = c.in-Job.ensures.admits in
    let b = c.admit.ensures.stands.1.sound.course.bounded in
    let goes = took_goes g.I.Intake g.C.Clock 0 c.args.desk.now c.admit.new.self c.in-Job.txn (omega arith) took in
    let last = c.deliver.ensures.goes in
    let number = took.number ∙ sym took.taken in
    let over = took.run.plan ∙ c.requires.rests.over in
    let rm = goes.read r in
    let re = last.read rm in
    let pol : c.admit.new.self.floor.ledger.policies ≡ [] = c.admit.ensures.stands.1.sound.policies ∙ (ap g.D.Derive.policies took.run.plan ∙ h.plan) in
    turn_ordered g.I.Intake g.K.Sink g.A.Answerer g.C.Clock g.D.Derive c.args.desk.now.floor c.admit.new.self.floor c.deliver.new.desk.floor c.in-Job.txn.number (length c.in-Job.txn.items.list) (g.D.Derive.parts c.args.plan.now c.in-Job.txn) (c.admit.ensures.unheld h.unheld) (c.deliver.ensures.adds pol)
    (same_run-then g.I.Intake g.C.Clock c.args.desk.now.floor.outside c.admit.new.self.floor.outside c.deliver.new.desk.floor.outside took.run last.run) r re took.number (c.deliver.ensures.taken ∙ took.taken)
    (parts_are g.I.Intake g.C.Clock g.D.Derive c.admit.new.self.floor.outside c.deliver.new.desk.floor.outside c.args.plan.now c.in-Job.txn last.run rm re over c.requires.reads (omega arith) number took.is) c.deliver.ensures.stands.1.sound.policies h
