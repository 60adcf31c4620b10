use Rattle.std.proofs.Common.{◌<◌, ap, arith, subst, sym}
use Rattle.bt_carry.specs.Calls.{ReadForEach}
use Rattle.bt_carry.proofs.Carrying.{same_run-same}
use Rattle.bt_carry.proofs.Ordering.{quiet_ordered}
use Rattle.bt_carry.proofs.Reading.{account}
use Rattle.bt_floor.specs.Calls.{SameRun}
use Rattle.bt_sound.specs.View.{Outside}
use Rattle.bt_ports.specs.Faults.{last_count}
use Rattle.bt_carry.proofs.carry.carry.Goals as goal

pub returns-clause-account : goal.returns-clause-account
returns-clause-account g c = λ tell.
    let stands = c.finish.ensures.stands in
    let sound = stands.1.sound in
    let read : ReadForEach g.C.Clock c.finish.new.self.floor.outside = subst (λ f. ReadForEach g.C.Clock f) (sym c.finish.ensures.outside) (c.turn.ensures.goes.read (c.carry.invariant.goes.read c.requires.begins)) in
    let made = read tell.clock in
    let bound = sound.course.bounded in
    let early : g.C.Clock.made c.finish.new.self.floor.outside.clock < last_count = omega arith in
    account g.I.Intake g.K.Sink g.A.Answerer g.C.Clock g.D.Derive c.finish.new.self.floor stands.0 sound (stands.1.standing.free c.finish.ensures.finished) tell early

pub returns-clause-order : goal.returns-clause-order
returns-clause-order g c = λ h.
    let before = c.carry.invariant.goes.read c.requires.begins in
    let so_far = c.turn.ensures.order before (c.carry.invariant.order h) in
    let read = c.turn.ensures.goes.read before in
    let e = c.finish.ensures.outside in
    let run = subst (λ o. SameRun g.I.Intake g.C.Clock c.turn.new.desk.floor.outside o) (sym e) (same_run-same g.I.Intake g.C.Clock c.turn.new.desk.floor.outside) in
    let again : ReadForEach g.C.Clock c.finish.new.self.floor.outside = subst (λ f. ReadForEach g.C.Clock f) (sym e) read in
    let t = ap (λ (o : Outside _ _ _). o.taken) e in
    quiet_ordered g.I.Intake g.K.Sink g.A.Answerer g.C.Clock g.D.Derive c.turn.new.desk.floor c.finish.new.self.floor (c.finish.ensures.unheld so_far.unheld) run read again t c.finish.ensures.stands.1.sound.policies so_far
