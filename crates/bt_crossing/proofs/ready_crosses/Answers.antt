use denote.Param.Send.{sendable}
use Rattle.bt_crossing.proofs.Ready.{Ready-send, Ready-sync}
use Rattle.bt_crossing.proofs.ready_crosses.Goals as goal

pub crosses-requires-send-T : goal.crosses-requires-send-T
crosses-requires-send-T c κs = search (sendable, Ready-send) depth 20

pub crosses-requires-sync-T : goal.crosses-requires-sync-T
crosses-requires-sync-T c κs = search (sendable, Ready-sync) depth 20
