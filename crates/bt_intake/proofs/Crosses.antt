-- An intake of lines may cross threads where its sources may.
use denote.RattleType.{RattleType}
use denote.Param.Send.{IsSend, IsSync, sendable}
use Rattle.std.proofs.Crossing.{crosses}
use Rattle.bt_ports.proofs.blob.Blob.TheSendSync as blob
use Rattle.bt_ports.proofs.text.Text.TheSendSync as text
use Rattle.bt_ports.proofs.sequence.Sequence.TheSendSync as sequence
use Rattle.bt_ports.specs.declared.outside.Source as Source
use Rattle.bt_ports.specs.contracts.parts.Item as Item
use Rattle.bt_ports.specs.contracts.parts.Named as Named
use Rattle.bt_ports.specs.contracts.parts.Next as Next
use Rattle.bt_crossing.proofs.Ready.{Ready-send, Ready-sync}
use Rattle.bt_intake.specs.contracts.policy.Policy as Policy
use Rattle.bt_intake.specs.contracts.reader.LineReader as LineReader
use Rattle.bt_intake.specs.contracts.batches.Batches as Batches
use Rattle.bt_intake.specs.contracts.intake.LineIntake as LineIntake

Policy-field-send : IsSend Policy.the_field.row
Policy-field-send = search (sendable, Ready-send) depth 40 fits 10000

Policy-field-sync : IsSync Policy.the_field.row
Policy-field-sync = search (sendable, Ready-sync) depth 40 fits 10000

Item-send : IsSend Item.the_row
Item-send = search (sendable, text.the_send, blob.the_send) depth 40 fits 10000

Item-sync : IsSync Item.the_row
Item-sync = search (sendable, text.the_sync, blob.the_sync) depth 40 fits 10000

Next-send : IsSend Next.the_row
Next-send = search (sendable, sequence.the_send, Item-send) depth 40 fits 10000

Next-sync : IsSync Next.the_row
Next-sync = search (sendable, sequence.the_sync, Item-sync) depth 40 fits 10000

module _ (S : RattleType) where
  Named-send : IsSend S → IsSend (Named.the_row S)
  Named-send s = search (sendable, text.the_send) depth 40 fits 10000

  Named-sync : IsSync S → IsSync (Named.the_row S)
  Named-sync s = search (sendable, text.the_sync) depth 40 fits 10000

  LineReader-field-send : IsSend S → IsSend (LineReader.the_field S).row
  LineReader-field-send s = search (sendable, crosses, sequence.the_send, blob.the_send, Named-send) depth 40 fits 10000

  LineReader-field-sync : IsSync S → IsSync (LineReader.the_field S).row
  LineReader-field-sync s = search (sendable, crosses, sequence.the_sync, blob.the_sync, Named-sync) depth 40 fits 10000

  Batches-field-send : IsSend S → IsSend (Batches.the_field S).row
  Batches-field-send s = search (sendable, sequence.the_send, Item-send, Policy-field-send, LineReader-field-send) depth 40 fits 10000

  Batches-field-sync : IsSync S → IsSync (Batches.the_field S).row
  Batches-field-sync s = search (sendable, sequence.the_sync, Item-sync, Policy-field-sync, LineReader-field-sync) depth 40 fits 10000

  module _ (g : Source.Ghosts S.Denot) where
    pub LineIntake-send : IsSend S → IsSend (LineIntake.the_row S g)
    LineIntake-send s = search (sendable, Next-send, Batches-field-send) depth 40 fits 10000

    pub LineIntake-sync : IsSync S → IsSync (LineIntake.the_row S g)
    LineIntake-sync s = search (sendable, Next-sync, Batches-field-sync) depth 40 fits 10000
