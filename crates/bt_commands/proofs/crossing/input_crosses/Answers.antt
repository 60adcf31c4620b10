use denote.Param.Send.{sendable}
use Rattle.bt_commands.proofs.Crosses.{LineInput-send, LineInput-sync}
use Rattle.bt_commands.proofs.crossing.input_crosses.Goals as goal

pub crosses-requires-send-T : goal.crosses-requires-send-T
crosses-requires-send-T g c κs _ = search (sendable, LineInput-send) depth 20

pub crosses-requires-sync-T : goal.crosses-requires-sync-T
crosses-requires-sync-T g c κs _ = search (sendable, LineInput-sync) depth 20
