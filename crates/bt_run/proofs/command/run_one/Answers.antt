use Rattle.std.proofs.Common.{ap}
use Rattle.bt_run.proofs.Whole.{refused-by}
use Rattle.bt_run.proofs.command.run_one.Goals as goal

pub returns-in-Ok : goal.returns-in-Ok
returns-in-Ok g c =
    let ends = c.in-Ok.ensures.ends in
    record {
      run = _;
      ends = ends;
      status = c.report_status.ensures;
      refusal = λ t. refused-by _ _ _ _ _ (ap (λ r. r.refused_memory) (ends.tells t).keeps.leaves.counts) c.report_status.ensures;
    }
