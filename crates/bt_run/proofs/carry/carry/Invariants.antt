use Rattle.std.proofs.Common.{◌≡◌, [], None}
use Rattle.bt_desk.specs.Calls.{SameRun}
use Rattle.bt_run.specs.Inside.{SamePlaces}
use Rattle.bt_run.proofs.carry.carry.Given as goal

abbrev pub invariant-carry : goal.invariant-carry
invariant-carry g l = record {
  out : l.desk.out ≡ [];
  goes : l.desk.report.ending ≡ None;
  run : SameRun g.I.Intake g.C.Clock l.initial.desk l.desk;
  faults : g.I.Intake.faults l.desk.intake ≡ g.I.Intake.faults l.initial.desk.intake;
  places : SamePlaces g.K.Sink g.A.Answerer l.initial.desk l.desk;
}

abbrev pub decreases-carry : goal.decreases-carry
decreases-carry g l = g.I.Intake.left l.desk.intake
