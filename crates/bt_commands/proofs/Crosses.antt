-- The input of a command may cross threads where its sources may.
use denote.RattleType.{RattleType}
use denote.Param.Send.{IsSend, IsSync, sendable}
use Rattle.bt_ports.specs.declared.outside.Source as Source
use Rattle.bt_intake.proofs.Crosses.{LineIntake-send, LineIntake-sync}
use Rattle.bt_commands.specs.contracts.input.LineInput as LineInput

module _ (S : RattleType) (g : Source.Ghosts S.Denot) where
  pub LineInput-send : IsSend S → IsSend (LineInput.the_row S g)
  LineInput-send s = search (sendable, LineIntake-send) depth 20

  pub LineInput-sync : IsSync S → IsSync (LineInput.the_row S g)
  LineInput-sync s = search (sendable, LineIntake-sync) depth 20
