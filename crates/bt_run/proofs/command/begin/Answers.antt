use denote.Param.Send.{sendable}
use Rattle.bt_commands.proofs.Crosses.{LineInput-send, LineInput-sync}
use Rattle.bt_run.proofs.command.begin.Goals as goal

pub make-requires-2-send-I : goal.make-requires-2-send-I
make-requires-2-send-I g c κs within = search (sendable, LineInput-send) depth 20 fits 10000

pub make-requires-2-sync-I : goal.make-requires-2-sync-I
make-requires-2-sync-I g c κs within = search (sendable, LineInput-sync) depth 20 fits 10000
