use denote.Param.Send.{sendable}
use Rattle.bt_intake.proofs.Crosses.{LineIntake-send, LineIntake-sync}
use Rattle.bt_intake.proofs.crossing.intake_crosses.Goals as goal

pub crosses-requires-send-T : goal.crosses-requires-send-T
crosses-requires-send-T g c κs _ = search (sendable, LineIntake-send) depth 20

pub crosses-requires-sync-T : goal.crosses-requires-sync-T
crosses-requires-sync-T g c κs _ = search (sendable, LineIntake-sync) depth 20
