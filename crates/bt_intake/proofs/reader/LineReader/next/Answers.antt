use Rattle.std.proofs.Common.{refl, ◌∙◌, subst}
use Rattle.bt_intake.specs.Reader.{LineFaults}
use Rattle.bt_intake.specs.Sources.{fault_count}
use Rattle.bt_intake.proofs.Turns.{goes-still, goes-then, answers-then}
use Rattle.bt_intake.proofs.reader.LineReader.next.Goals as goal

pub steps-init : goal.steps-init
steps-init g c = record {
  holds = c.requires.holds;
  goes = goes-still g.S.Readable.shown c.args.self.now c.args.self.now refl refl refl refl;
  given = refl;
  faults = refl;
}

pub steps-preserved : goal.steps-preserved
steps-preserved g c =
    let i = c.steps.invariant in
    let e = c.in_default.ensures in
    record {
      holds = e.holds;
      goes = goes-then g.S.Readable.shown c.args.self.now c.steps.self c.step.new.self i.given i.goes e.goes;
      given = e.steps.0 ∙ i.given;
      faults = e.faults ∙ i.faults;
    }

pub returns-in-Some-clause-goes : goal.returns-in-Some-clause-goes
returns-in-Some-clause-goes g c =
    let i = c.steps.invariant in
    goes-then g.S.Readable.shown c.args.self.now c.steps.self c.step.new.self i.given i.goes c.in-Some.ensures.goes

pub returns-in-Some-clause-answers : goal.returns-in-Some-clause-answers
returns-in-Some-clause-answers g c =
    let i = c.steps.invariant in
    answers-then g.S.Readable.shown c.in-Some.answer c.args.self.now c.steps.self c.step.new.self i.given i.goes c.in-Some.ensures.steps

pub returns-in-Some-clause-faults : goal.returns-in-Some-clause-faults
returns-in-Some-clause-faults g c =
    let i = c.steps.invariant in
    subst (λ n. LineFaults c.in-Some.answer n (fault_count g.S.Readable.shown c.step.new.self.sources.list)) i.faults c.in-Some.ensures.faults
