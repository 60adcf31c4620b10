-- Outputs may cross threads, as their parts may.
use denote.RattleType.{RattleType}
use denote.Param.Send.{IsSend, IsSync, sendable}
use Rattle.sqlite_items.proofs.items.Items.TheSendSync as items
use Rattle.sqlite_items.proofs.boxed.Boxed.TheSendSync as boxed
use Rattle.bt_ports.proofs.blob.Blob.TheSendSync as blob
use Rattle.bt_ports.proofs.text.Text.TheSendSync as text
use Rattle.bt_ports.proofs.sequence.Sequence.TheSendSync as sequence
use Rattle.bt_crossing.proofs.Ready.{Ready-send, Ready-field-send, Ready-sync, Ready-field-sync}
use Rattle.bt_outputs.proofs.output.Output.TheLaws.TheKnot.{both_send-Output, both_sync-Output}
use Rattle.bt_outputs.specs.contracts.output.Output as Output
use Rattle.bt_outputs.specs.contracts.output.OutputCase as OutputCase
use Rattle.bt_plan_crossing.proofs.Processors.{Bit-send, Bit-sync}

OutputCase-send : (h : RattleType) → IsSend h → IsSend (OutputCase.the_row h)
OutputCase-send h s = search (sendable, Ready-send, Ready-field-send) depth 40 fits 10000

OutputCase-sync : (h : RattleType) → IsSync h → IsSync (OutputCase.the_row h)
OutputCase-sync h s = search (sendable, Ready-sync, Ready-field-sync) depth 40 fits 10000

-- what an output is made of, but outputs
ruleset parts = (sendable, items.the_send, items.the_sync, boxed.the_send, boxed.the_sync, sequence.the_send, sequence.the_sync, Bit-send, Bit-sync, Ready-send, Ready-sync, Ready-field-send, Ready-field-sync, OutputCase-send, OutputCase-sync)

pub Output-field-send : IsSend Output.the_field.row
Output-field-send = both_send-Output
    (search parts depth 40) (search parts depth 40) (search parts depth 40) (search parts depth 40) (search parts depth 40) (search parts depth 40)
    (search parts depth 40) (search parts depth 40) (search parts depth 40) (search parts depth 40) (search parts depth 40) (search parts depth 40)
    (search parts depth 40) (search parts depth 40)

pub Output-field-sync : IsSync Output.the_field.row
Output-field-sync = both_sync-Output
    (search parts depth 40) (search parts depth 40) (search parts depth 40) (search parts depth 40) (search parts depth 40) (search parts depth 40)
    (search parts depth 40) (search parts depth 40) (search parts depth 40) (search parts depth 40) (search parts depth 40) (search parts depth 40)
    (search parts depth 40) (search parts depth 40)
