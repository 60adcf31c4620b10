use Rattle.std.proofs.Common.{Some, refl, arith}
use Rattle.bt_intake.proofs.Turns.{goes-still, says-end, says-long_ahead, faults-still}
use Rattle.bt_intake.proofs.reader.LineReader.step_on.Goals as goal

pub returns-then-not-may_end-clause-goes : goal.returns-then-not-may_end-clause-goes
returns-then-not-may_end-clause-goes g c = goes-still g.S.Readable.shown c.args.self.now c.args.self.now refl refl refl refl

pub returns-then-not-may_end-clause-steps : goal.returns-then-not-may_end-clause-steps
returns-then-not-may_end-clause-steps g c =
    rw c.long_line.ensures (refl, says-long_ahead g.S.Readable.shown c.args.self.now c.requires.holds c.requires.none c.if-not-may_end.ensures)

pub returns-then-self-clause-goes : goal.returns-then-self-clause-goes
returns-then-self-clause-goes g c = goes-still g.S.Readable.shown c.args.self.now c.args.self.now refl refl refl refl

pub returns-then-self-clause-faults : goal.returns-then-self-clause-faults
returns-then-self-clause-faults g c = faults-still g.S.Readable.shown (Some c.at_bound.result) c.args.self.now c.args.self.now refl c.at_bound.ensures

pub returns-then-self-len-clause-goes : goal.returns-then-self-len-clause-goes
returns-then-self-len-clause-goes g c = goes-still g.S.Readable.shown c.args.self.now c.args.self.now refl refl refl refl

pub returns-then-self-len-clause-steps : goal.returns-then-self-len-clause-steps
returns-then-self-len-clause-steps g c =
    (refl, says-end g.S.Readable.shown c.args.self.now c.requires.holds (omega (arith, c.if-self-len.true, c.len.ensures)) (omega (arith, c.if-self.false, c.requires.holds.within_bound)))
