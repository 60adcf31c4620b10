use denote.Param.Send.{sendable}
use Rattle.std.proofs.Common.{◌++◌, ◌∙◌, ap, refl}
use Rattle.bt_intake.proofs.Crosses.{LineIntake-send, LineIntake-sync}
use Rattle.bt_ports.specs.Contents.{Contents}
use Rattle.bt_ports.specs.World.{Tale}
use Rattle.bt_ports.specs.declared.parts.Ends.{Ends}
use Rattle.bt_ports.specs.declared.parts.Named.{Named}
use Rattle.bt_reports.specs.Report.{report_lines}
use Rattle.bt_pipelines.proofs.finish.finish.Goals as goal

pub run_plan-requires-send-I : goal.run_plan-requires-send-I
run_plan-requires-send-I g c κs _ = search (sendable, LineIntake-send) depth 20 fits 10000

pub run_plan-requires-sync-I : goal.run_plan-requires-sync-I
run_plan-requires-sync-I g c κs _ = search (sendable, LineIntake-sync) depth 20 fits 10000

pub returns-in-Ok-clause-ok : goal.returns-in-Ok-clause-ok
returns-in-Ok-clause-ok g c =
    let kept = c.keep.ensures in
    let says = c.say_report.ensures in
    record {
      ran = c.in-Ok.ran;
      is = c.in-Ok.ensures;
      standing = kept.standing;
      reported = refl;
      told = (
        λ t. kept.told.0 (says.told.0 t),
        λ t. kept.told.1 (says.told.1 t),
        λ t. kept.told.2 (says.told.2 t),
      );
      counts = (
        says.counts.0 ∙ kept.counts.0,
        says.counts.1 ∙ kept.counts.1,
        says.counts.2 ∙ kept.counts.2,
      );
      keeps = λ t. says.only t
          ∙ ap {A = Tale (Ends g.row.W-S.Denot g.row.W-K.Denot g.row.W-A.Denot g.row.W-C.Denot) (Contents (Named g.row.W-S.Denot))} (λ u. record u { lines = (g.W.World.tale c.say_report.new.world).lines }) (kept.keeps (says.told.0 t));
      said = λ t l. says.said l ∙ ap (λ ls. ls ++ report_lines c.args.bound c.in-Ok.ran.report) (ap (λ u. u.lines) (kept.keeps (says.told.0 t)));
    }
