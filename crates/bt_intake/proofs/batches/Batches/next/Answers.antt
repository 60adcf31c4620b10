use Rattle.std.proofs.Common.{refl, ◌∙◌, subst, arith}
use Rattle.bt_ports.specs.Intake.{NextFaults}
use Rattle.bt_intake.specs.Sources.{fault_count}
use Rattle.bt_intake.proofs.Batching.{gathers-same, gathers-then, none-same, none-then, batch_answers-then}
use Rattle.bt_intake.proofs.batches.Batches.next.Goals as goal

pub steps-init : goal.steps-init
steps-init g c = record {
  holds = c.requires.holds;
  alive = c.requires.alive;
  gathers = gathers-same g.S.Readable.shown c.args.self.now;
  none = none-same g.S.Readable.shown c.args.self.now;
  faults = refl;
}

pub steps-preserved : goal.steps-preserved
steps-preserved g c =
    let i = c.steps.invariant in
    let e = c.in_default.ensures in
    record {
      holds = e.holds;
      alive = e.alive;
      gathers = gathers-then g.S.Readable.shown c.args.self.now c.steps.self c.step.new.self i.none i.gathers e.gathers;
      none = none-then g.S.Readable.shown c.args.self.now c.steps.self c.step.new.self i.none e.steps.0;
      faults = e.faults ∙ i.faults;
    }

pub steps-smaller : goal.steps-smaller
steps-smaller g c =
    let e = c.in_default.ensures in
    omega (arith, e.steps.1, e.holds.reader.used, e.holds.reader.within_bound, e.holds.reader.bound_fits)

pub returns-in-Some-clause-gathers : goal.returns-in-Some-clause-gathers
returns-in-Some-clause-gathers g c =
    let i = c.steps.invariant in
    gathers-then g.S.Readable.shown c.args.self.now c.steps.self c.step.new.self i.none i.gathers c.in-Some.ensures.gathers

pub returns-in-Some-clause-answers : goal.returns-in-Some-clause-answers
returns-in-Some-clause-answers g c =
    let i = c.steps.invariant in
    batch_answers-then g.S.Readable.shown c.in-Some.answer c.args.self.now c.steps.self c.step.new.self i.none i.gathers c.in-Some.ensures.steps

pub returns-in-Some-clause-faults : goal.returns-in-Some-clause-faults
returns-in-Some-clause-faults g c =
    let i = c.steps.invariant in
    subst (λ n. NextFaults c.in-Some.answer n (fault_count g.S.Readable.shown c.step.new.self.reader.sources.list)) i.faults c.in-Some.ensures.faults
