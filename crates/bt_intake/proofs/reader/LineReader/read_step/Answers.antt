use Rattle.std.proofs.Common.{◌≤◌, ap, arith}
use Rattle.bt_intake.specs.Reader.{Goes, work}
use Rattle.bt_intake.specs.Sources.{fault_count}
use Rattle.bt_intake.proofs.SourceLists.{kept-length}
use Rattle.bt_intake.proofs.Turns.{reads-late, says-failed, steps-then, faults-still, faults-then}
use Rattle.bt_intake.proofs.reader.LineReader.read_step.Goals as goal

pub returns-in-Ok-Count-clause-goes : goal.returns-in-Ok-Count-clause-goes
returns-in-Ok-Count-clause-goes g c =
    let s = c.args.self.now in
    let t = c.read_more.new.self in
    let e = c.in-Ok-Count.ensures in
    let r = rw c.in-Ok-Count.field-0-is at e.reads in
    record {
      kept = e.kept;
      delimiter = e.same.3;
      bound = e.same.0;
      taken = omega (arith, r.2);
      late = λ q h. reads-late g.S.Readable.shown s c.requires.holds c.requires.none c.requires.may_end t e.kept h (omega (arith, r.1, r.2)) q;
    }

pub returns-in-Ok-Count-clause-steps : goal.returns-in-Ok-Count-clause-steps
returns-in-Ok-Count-clause-steps g c =
    let s = c.args.self.now in
    let e = c.in-Ok-Count.ensures in
    let r = rw c.in-Ok-Count.field-0-is at e.reads in
    (e.same.1, omega (arith, e.same.0, e.same.2, r.0, r.2, e.holds.within_bound, kept-length g.S.Readable.shown s.sources.list c.read_more.new.self.sources.list e.kept))

pub returns-in-Ok-Failed-clause-steps : goal.returns-in-Ok-Failed-clause-steps
returns-in-Ok-Failed-clause-steps g c =
    let e = c.in-Ok-Failed.ensures in
    let r = rw c.in-Ok-Failed.field-0-is at e.reads in
    (e.same.1, r.1, says-failed g.S.Readable.shown c.args.self.now c.requires.holds c.requires.none c.read_more.new.self e.kept e.same.3 r.0 e.same.1)

pub returns-in-Ok-End-clause-steps : goal.returns-in-Ok-End-clause-steps
returns-in-Ok-End-clause-steps g c =
    let s = c.args.self.now in
    let t = c.read_more.new.self in
    let e = c.in-Ok-End.ensures in
    let r = rw c.in-Ok-End.field-0-is at e.reads in
    let goes : Goes g.S.Readable.shown s t = record {
      kept = e.kept;
      delimiter = e.same.3;
      bound = e.same.0;
      taken = omega (arith, r.0);
      late = λ q h. absurd (omega (arith, r.0, h));
    } in
    let less : work t ≤ work s = omega (arith, e.same.0, e.same.2, r.0, kept-length g.S.Readable.shown s.sources.list t.sources.list e.kept) in
    steps-then g.S.Readable.shown c.end_source.result s t c.end_source.new.self e.same.1 less goes c.end_source.ensures.steps

pub returns-in-Ok-End-clause-faults : goal.returns-in-Ok-End-clause-faults
returns-in-Ok-End-clause-faults g c =
    let t = c.read_more.new.self in
    let u = c.end_source.new.self in
    let still = rw c.in-Ok-End.field-0-is at c.in-Ok-End.ensures.faults in
    faults-then g.S.Readable.shown c.end_source.result (fault_count g.S.Readable.shown c.args.self.now.sources.list) (fault_count g.S.Readable.shown t.sources.list) (fault_count g.S.Readable.shown u.sources.list) still
    (faults-still g.S.Readable.shown c.end_source.result t u (ap (λ v. v.sources) c.end_source.ensures.same) c.end_source.ensures.steps)
