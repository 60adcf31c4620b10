use Rattle.std.proofs.Common.{◌≡◌, sym, ap, ◌∙◌, subst}
use Rattle.bt_carry.specs.Calls.{EndedWith}
use Rattle.bt_floor.specs.Calls.{SameRun}
use Rattle.bt_runner.specs.Ran.{beginning, ending_as}
use Rattle.bt_ledger.specs.Ledger.{Ledger}
use Rattle.bt_runner.proofs.Ends.{all_ordered, begins_ordered, has_run, outside_is}
use Rattle.bt_sound.specs.View.{Outside}
use Rattle.bt_runner.proofs.run.run_plan.Goals as goal

pub returns-in-Ok-make : goal.returns-in-Ok-make
returns-in-Ok-make g c =
    let plan = c.args.plan.now.value in
    let desk = c.carry.new.desk in
    let o = desk.floor.outside in
    let sound = c.carry.ensures.stands.1.sound in
    let begins = c.in-Ok-make.ensures.begins.outside in
    let start : c.in-Ok-make.desk.floor.outside ≡ beginning plan c.args.parts = begins ∙ ap (λ x. beginning x c.args.parts) c.in-Ok.ensures.cases in
    let over : o.plan ≡ plan = c.carry.ensures.run.plan ∙ ap (λ (x : Outside _ _ _). x.plan) start in
    let same : ending_as plan (record { parts = c.into_parts-parts.result; report = c.report-report.result }) ≡ o = outside_is o plan c.into_parts-parts.result.intake c.into_parts-parts.result.clock c.report-report.result.taken c.report-report.result.ending c.report-report.result.counts.refused_memory
    (sym over) c.into_parts-parts.ensures.intake c.into_parts-parts.ensures.clock c.report-report.ensures.taken c.report-report.ensures.ending (ap (λ k. k.refused_memory) c.report-report.ensures.counts ∙ sym sound.refusals) in
    let holds : c.in-Ok-make.desk.floor.ledger.policies ≡ g.D.Derive.policies plan = ap (λ (l : Ledger). l.policies) c.in-Ok-make.ensures.begins.ledger ∙ ap g.D.Derive.policies c.in-Ok.ensures.cases in
    has_run g.I.Intake g.K.Sink g.A.Answerer g.C.Clock g.D.Derive plan c.args.parts (record { parts = c.into_parts-parts.result; report = c.report-report.result }) desk.floor same
    c.into_parts-parts.ensures.sinks c.into_parts-parts.ensures.answerer c.report-report.ensures.counts c.carry.ensures.ended
    (subst (λ (x : Outside _ _ _). EndedWith o.ending (g.I.Intake.faults x.intake) (g.I.Intake.faults o.intake)) start c.carry.ensures.faults)
    (subst (λ x. SameRun g.I.Intake g.C.Clock x o) start c.carry.ensures.run)
    sound.course c.carry.ensures.read (sound.sinks ∙ ap g.D.Derive.sinks over) c.carry.ensures.account
    (λ q. all_ordered g.I.Intake g.K.Sink g.A.Answerer g.C.Clock g.D.Derive desk.floor (c.carry.ensures.order
    (begins_ordered g.I.Intake g.K.Sink g.A.Answerer g.C.Clock g.D.Derive plan c.args.parts c.in-Ok-make.desk.floor (ap (λ (x : Outside _ _ _). x.plan) start) holds c.in-Ok-make.ensures.begins.sinks c.in-Ok-make.ensures.begins.answerer (ap (λ (x : Outside _ _ _). x.taken) start) c.requires.unwritten c.requires.unanswered q)))
