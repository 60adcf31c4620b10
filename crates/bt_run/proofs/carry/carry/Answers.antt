use Rattle.std.proofs.Common.{ap, ◌∙◌}
use Rattle.bt_run.proofs.Carrying.{same_run-then, same_places-then}
use Rattle.bt_run.proofs.carry.carry.Goals as goal

pub carry-preserved : goal.carry-preserved
carry-preserved g c =
    let took = c.in-Job.ensures.admits in
    let delivered = c.deliver.ensures.delivers in
    record {
      out = delivered.1.out;
      goes = ap (λ r. r.ending) delivered.1.settles.report ∙ ap (λ r. r.ending) took.report ∙ c.carry.invariant.goes;
      run = same_run-then _ _ _ _ _ (same_run-then _ _ _ _ _ c.carry.invariant.run c.in-Job.ensures.run) c.deliver.ensures.run;
      faults = ap g.I.Intake.faults delivered.1.intake ∙ c.in-Job.ensures.faults ∙ c.carry.invariant.faults;
      places = same_places-then g.I.Intake _ _ _ _ _ _ _ _ c.carry.invariant.places c.in-Job.ensures.only delivered.1;
    }
