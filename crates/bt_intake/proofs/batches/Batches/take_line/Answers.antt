use Rattle.std.proofs.Common.{Ok, subst}
use Rattle.bt_intake.specs.Gathering.{Adds}
use Rattle.bt_ports.specs.declared.parts.Next.TheVariants as next
use Rattle.bt_intake.proofs.Batching.{gathers-still, added-holds, added-gathers, open-holds, open-gathers, ended-holds, ended-gathers, ended-gives, holds-still, gives-none, says-failed, stopped-holds, stopped-gathers, stopped-answers}
use Rattle.bt_intake.proofs.batches.Batches.take_line.Goals as goal

pub returns-in-Ok-Some-clause-holds : goal.returns-in-Ok-Some-clause-holds
returns-in-Ok-Some-clause-holds g c = ended-holds g.S.Readable.shown c.args.self.now c.requires.holds c.requires.alive c.next.new.self c.next.ensures.holds c.next.ensures.goes c.in-Line.item c.in-Line.ensures.answers c.requires.few c.add.new.self c.in-Ok-Some.items.list (subst (λ o. Adds (Ok o) c.in-Line.item (record c.args.self.now { reader = c.next.new.self }) c.add.new.self) c.in-Ok-Some.field-0-is c.in-Ok-Some.ensures)

pub returns-in-Ok-Some-clause-gathers : goal.returns-in-Ok-Some-clause-gathers
returns-in-Ok-Some-clause-gathers g c = ended-gathers g.S.Readable.shown c.args.self.now c.requires.holds c.requires.alive c.next.new.self c.next.ensures.holds c.next.ensures.goes c.in-Line.item c.in-Line.ensures.answers c.requires.few c.add.new.self c.in-Ok-Some.items.list (subst (λ o. Adds (Ok o) c.in-Line.item (record c.args.self.now { reader = c.next.new.self }) c.add.new.self) c.in-Ok-Some.field-0-is c.in-Ok-Some.ensures)

pub returns-in-Ok-Some-clause-steps : goal.returns-in-Ok-Some-clause-steps
returns-in-Ok-Some-clause-steps g c = ended-gives g.S.Readable.shown c.args.self.now c.requires.holds c.requires.alive c.next.new.self c.next.ensures.holds c.next.ensures.goes c.in-Line.item c.in-Line.ensures.answers c.requires.few c.add.new.self c.in-Ok-Some.items.list (subst (λ o. Adds (Ok o) c.in-Line.item (record c.args.self.now { reader = c.next.new.self }) c.add.new.self) c.in-Ok-Some.field-0-is c.in-Ok-Some.ensures)

pub returns-in-Ok-None-clause-holds : goal.returns-in-Ok-None-clause-holds
returns-in-Ok-None-clause-holds g c = added-holds g.S.Readable.shown c.args.self.now c.requires.holds c.requires.alive c.next.new.self c.next.ensures.holds c.next.ensures.goes c.in-Line.item c.in-Line.ensures.answers c.requires.few c.add.new.self (subst (λ o. Adds (Ok o) c.in-Line.item (record c.args.self.now { reader = c.next.new.self }) c.add.new.self) c.in-Ok-None.field-0-is c.in-Ok-None.ensures)

pub returns-in-Ok-None-clause-gathers : goal.returns-in-Ok-None-clause-gathers
returns-in-Ok-None-clause-gathers g c = added-gathers g.S.Readable.shown c.args.self.now c.requires.holds c.requires.alive c.next.new.self c.next.ensures.holds c.next.ensures.goes c.in-Line.item c.in-Line.ensures.answers c.requires.few c.add.new.self (subst (λ o. Adds (Ok o) c.in-Line.item (record c.args.self.now { reader = c.next.new.self }) c.add.new.self) c.in-Ok-None.field-0-is c.in-Ok-None.ensures)

pub returns-in-Err-clause-holds : goal.returns-in-Err-clause-holds
returns-in-Err-clause-holds g c = open-holds g.S.Readable.shown c.args.self.now c.requires.holds c.requires.alive c.next.new.self c.next.ensures.holds c.next.ensures.goes c.in-Line.item c.in-Line.ensures.answers c.requires.few c.add.new.self c.in-Err.ensures

pub returns-in-Err-clause-gathers : goal.returns-in-Err-clause-gathers
returns-in-Err-clause-gathers g c = open-gathers g.S.Readable.shown c.args.self.now c.requires.holds c.requires.alive c.next.new.self c.next.ensures.holds c.next.ensures.goes c.in-Line.item c.in-Line.ensures.answers c.requires.few c.add.new.self c.in-Err.ensures

pub returns-in-End-clause-holds : goal.returns-in-End-clause-holds
returns-in-End-clause-holds g c = stopped-holds g.S.Readable.shown c.args.self.now c.requires.holds c.requires.alive c.next.new.self c.next.ensures.holds c.next.ensures.goes c.in-End.ensures.answers.0 (c.in-End.ensures.answers.1.2) next.End c.stop.result c.stop.new.self c.stop.ensures (λ n all. (n, (c.in-End.ensures.answers.1.0, c.in-End.ensures.answers.1.1, all)))

pub returns-in-End-clause-gathers : goal.returns-in-End-clause-gathers
returns-in-End-clause-gathers g c = stopped-gathers g.S.Readable.shown c.args.self.now c.requires.holds c.requires.alive c.next.new.self c.next.ensures.holds c.next.ensures.goes c.in-End.ensures.answers.0 (c.in-End.ensures.answers.1.2) next.End c.stop.result c.stop.new.self c.stop.ensures (λ n all. (n, (c.in-End.ensures.answers.1.0, c.in-End.ensures.answers.1.1, all)))

pub returns-in-End-clause-steps : goal.returns-in-End-clause-steps
returns-in-End-clause-steps g c = stopped-answers g.S.Readable.shown c.args.self.now c.requires.holds c.requires.alive c.next.new.self c.next.ensures.holds c.next.ensures.goes c.in-End.ensures.answers.0 (c.in-End.ensures.answers.1.2) next.End c.stop.result c.stop.new.self c.stop.ensures (λ n all. (n, (c.in-End.ensures.answers.1.0, c.in-End.ensures.answers.1.1, all)))

pub returns-in-LongLine-clause-holds : goal.returns-in-LongLine-clause-holds
returns-in-LongLine-clause-holds g c = stopped-holds g.S.Readable.shown c.args.self.now c.requires.holds c.requires.alive c.next.new.self c.next.ensures.holds c.next.ensures.goes c.in-LongLine.ensures.answers.0 (c.in-LongLine.ensures.answers.1.1) (next.LongLine c.in-LongLine.n) c.stop-in-LongLine.result c.stop-in-LongLine.new.self c.stop-in-LongLine.ensures (λ n all. (n, (c.in-LongLine.ensures.answers.1.0, all)))

pub returns-in-LongLine-clause-gathers : goal.returns-in-LongLine-clause-gathers
returns-in-LongLine-clause-gathers g c = stopped-gathers g.S.Readable.shown c.args.self.now c.requires.holds c.requires.alive c.next.new.self c.next.ensures.holds c.next.ensures.goes c.in-LongLine.ensures.answers.0 (c.in-LongLine.ensures.answers.1.1) (next.LongLine c.in-LongLine.n) c.stop-in-LongLine.result c.stop-in-LongLine.new.self c.stop-in-LongLine.ensures (λ n all. (n, (c.in-LongLine.ensures.answers.1.0, all)))

pub returns-in-LongLine-clause-steps : goal.returns-in-LongLine-clause-steps
returns-in-LongLine-clause-steps g c = stopped-answers g.S.Readable.shown c.args.self.now c.requires.holds c.requires.alive c.next.new.self c.next.ensures.holds c.next.ensures.goes c.in-LongLine.ensures.answers.0 (c.in-LongLine.ensures.answers.1.1) (next.LongLine c.in-LongLine.n) c.stop-in-LongLine.result c.stop-in-LongLine.new.self c.stop-in-LongLine.ensures (λ n all. (n, (c.in-LongLine.ensures.answers.1.0, all)))

pub returns-in-Bound-clause-holds : goal.returns-in-Bound-clause-holds
returns-in-Bound-clause-holds g c = stopped-holds g.S.Readable.shown c.args.self.now c.requires.holds c.requires.alive c.next.new.self c.next.ensures.holds c.next.ensures.goes c.in-Bound.ensures.answers.0 (c.in-Bound.ensures.answers.1.2) next.Bound c.stop-in-Bound.result c.stop-in-Bound.new.self c.stop-in-Bound.ensures (λ n all. (n, (c.in-Bound.ensures.answers.1.0, c.in-Bound.ensures.answers.1.1, all)))

pub returns-in-Bound-clause-gathers : goal.returns-in-Bound-clause-gathers
returns-in-Bound-clause-gathers g c = stopped-gathers g.S.Readable.shown c.args.self.now c.requires.holds c.requires.alive c.next.new.self c.next.ensures.holds c.next.ensures.goes c.in-Bound.ensures.answers.0 (c.in-Bound.ensures.answers.1.2) next.Bound c.stop-in-Bound.result c.stop-in-Bound.new.self c.stop-in-Bound.ensures (λ n all. (n, (c.in-Bound.ensures.answers.1.0, c.in-Bound.ensures.answers.1.1, all)))

pub returns-in-Bound-clause-steps : goal.returns-in-Bound-clause-steps
returns-in-Bound-clause-steps g c = stopped-answers g.S.Readable.shown c.args.self.now c.requires.holds c.requires.alive c.next.new.self c.next.ensures.holds c.next.ensures.goes c.in-Bound.ensures.answers.0 (c.in-Bound.ensures.answers.1.2) next.Bound c.stop-in-Bound.result c.stop-in-Bound.new.self c.stop-in-Bound.ensures (λ n all. (n, (c.in-Bound.ensures.answers.1.0, c.in-Bound.ensures.answers.1.1, all)))

pub returns-in-Failed-clause-holds : goal.returns-in-Failed-clause-holds
returns-in-Failed-clause-holds g c = holds-still g.S.Readable.shown c.args.self.now c.requires.holds c.requires.alive c.next.new.self c.next.ensures.holds c.next.ensures.goes c.in-Failed.ensures.answers.0

pub returns-in-Failed-clause-gathers : goal.returns-in-Failed-clause-gathers
returns-in-Failed-clause-gathers g c = gathers-still g.S.Readable.shown c.args.self.now c.requires.holds c.requires.alive c.next.new.self c.next.ensures.holds c.next.ensures.goes

pub returns-in-Failed-clause-steps : goal.returns-in-Failed-clause-steps
returns-in-Failed-clause-steps g c = (gives-none g.S.Readable.shown c.args.self.now c.requires.holds c.requires.alive c.next.new.self c.next.ensures.holds c.next.ensures.goes c.in-Failed.ensures.answers.0, c.in-Failed.ensures.answers.1, says-failed g.S.Readable.shown c.args.self.now c.requires.holds c.requires.alive c.next.new.self c.next.ensures.holds c.next.ensures.goes c.in-Failed.ensures.answers.0 c.in-Failed.ensures.answers.2)

pub returns-in-NoMemory-clause-holds : goal.returns-in-NoMemory-clause-holds
returns-in-NoMemory-clause-holds g c = holds-still g.S.Readable.shown c.args.self.now c.requires.holds c.requires.alive c.next.new.self c.next.ensures.holds c.next.ensures.goes c.in-NoMemory.ensures.answers

pub returns-in-NoMemory-clause-gathers : goal.returns-in-NoMemory-clause-gathers
returns-in-NoMemory-clause-gathers g c = gathers-still g.S.Readable.shown c.args.self.now c.requires.holds c.requires.alive c.next.new.self c.next.ensures.holds c.next.ensures.goes
