use denote.Param.Send.{sendable}
use Rattle.bt_plan_crossing.proofs.Plan.{Plan-send, Plan-sync}
use Rattle.bt_plan_crossing.proofs.plan_crosses.Goals as goal

pub crosses-requires-send-T : goal.crosses-requires-send-T
crosses-requires-send-T c κs = search (sendable, Plan-send) depth 20

pub crosses-requires-sync-T : goal.crosses-requires-sync-T
crosses-requires-sync-T c κs = search (sendable, Plan-sync) depth 20
