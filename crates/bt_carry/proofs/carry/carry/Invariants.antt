use Rattle.std.proofs.Common.{◌≡◌, ◌-◌, ◌^◌, None}
use Rattle.bt_carry.specs.Calls.{GoesOn, Rests}
use Rattle.bt_carry.specs.Order.{OrderedSoFar}
use Rattle.bt_carry.proofs.carry.carry.Given as goal

abbrev pub invariant-carry : goal.invariant-carry
invariant-carry g l = record {
  rests : Rests l.plan l.desk;
  ending : l.desk.floor.outside.ending ≡ None;
  goes : GoesOn g.I.Intake g.C.Clock l.initial.desk l.desk;
  order : OrderedSoFar g.I.Intake g.K.Sink g.A.Answerer g.C.Clock g.D.Derive l.initial.desk.floor → OrderedSoFar g.I.Intake g.K.Sink g.A.Answerer g.C.Clock g.D.Derive l.desk.floor;
  faults : g.I.Intake.faults l.desk.floor.outside.intake ≡ g.I.Intake.faults l.initial.desk.floor.outside.intake;
}

abbrev pub decreases-carry : goal.decreases-carry
decreases-carry g l = 2 ^ 56 - l.desk.floor.outside.taken
