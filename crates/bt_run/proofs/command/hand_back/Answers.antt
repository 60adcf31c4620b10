use denote.Param.Send.{sendable}
use Rattle.bt_commands.proofs.Crosses.{LineInput-send, LineInput-sync}
use Rattle.bt_run.proofs.command.hand_back.Goals as goal

pub into_parts-intake-requires-send-I : goal.into_parts-intake-requires-send-I
into_parts-intake-requires-send-I g c κs within = search (sendable, LineInput-send) depth 20 fits 10000

pub into_parts-intake-requires-sync-I : goal.into_parts-intake-requires-sync-I
into_parts-intake-requires-sync-I g c κs within = search (sendable, LineInput-sync) depth 20 fits 10000
