-- Processors may cross threads, as their parts may.
use denote.RattleType.{RattleType}
use denote.Param.Send.{IsSend, IsSync, sendable}
use Rattle.sqlite_items.proofs.items.Items.TheSendSync as items
use Rattle.sqlite_items.proofs.boxed.Boxed.TheSendSync as boxed
use Rattle.bt_ports.proofs.blob.Blob.TheSendSync as blob
use Rattle.bt_ports.proofs.text.Text.TheSendSync as text
use Rattle.bt_ports.proofs.sequence.Sequence.TheSendSync as sequence
use Rattle.bt_crossing.proofs.Ready.{Ready-send, Ready-field-send, Ready-sync, Ready-field-sync}
use Rattle.bt_mappings.specs.contracts.interpolation.Bit as Bit
use Rattle.bt_messages.proofs.tree.MessageProcessor.TheLaws.TheKnot.{both_send-MessageProcessor, both_sync-MessageProcessor}
use Rattle.bt_messages.specs.contracts.tree.Branch as Branch
use Rattle.bt_messages.specs.contracts.tree.Case as Case
use Rattle.bt_messages.specs.contracts.tree.MessageProcessor as MessageProcessor
use Rattle.bt_proc.proofs.tree.Processor.TheLaws.TheKnot.{both_send-Processor, both_sync-Processor}
use Rattle.bt_proc.specs.contracts.tree.Format as Format
use Rattle.bt_proc.specs.contracts.tree.Group as Group
use Rattle.bt_proc.specs.contracts.tree.Processor as Processor

pub Bit-send : IsSend Bit.the_row
Bit-send = search (sendable, text.the_send, Ready-send, Ready-field-send) depth 40 fits 10000

pub Bit-sync : IsSync Bit.the_row
Bit-sync = search (sendable, text.the_sync, Ready-sync, Ready-field-sync) depth 40 fits 10000

Case-send : (h : RattleType) → IsSend h → IsSend (Case.the_row h)
Case-send h s = search (sendable, items.the_send, Ready-send, Ready-field-send) depth 40 fits 10000

Case-sync : (h : RattleType) → IsSync h → IsSync (Case.the_row h)
Case-sync h s = search (sendable, items.the_sync, Ready-sync, Ready-field-sync) depth 40 fits 10000

Branch-send : (h : RattleType) → IsSend h → IsSend (Branch.the_row h)
Branch-send h s = search (sendable, items.the_send, Ready-send, Ready-field-send) depth 40 fits 10000

Branch-sync : (h : RattleType) → IsSync h → IsSync (Branch.the_row h)
Branch-sync h s = search (sendable, items.the_sync, Ready-sync, Ready-field-sync) depth 40 fits 10000

Branch-field-send : (h : RattleType) → IsSend h → IsSend (Branch.the_field h).row
Branch-field-send h s = search (sendable, items.the_send, Ready-send, Ready-field-send) depth 40 fits 10000

Branch-field-sync : (h : RattleType) → IsSync h → IsSync (Branch.the_field h).row
Branch-field-sync h s = search (sendable, items.the_sync, Ready-sync, Ready-field-sync) depth 40 fits 10000

-- what a processor of messages is made of, but such processors
ruleset parts = (sendable, items.the_send, items.the_sync, Ready-send, Ready-sync, Ready-field-send, Ready-field-sync, Case-send, Case-sync, Branch-send, Branch-sync, Branch-field-send, Branch-field-sync)

pub MessageProcessor-field-send : IsSend MessageProcessor.the_field.row
MessageProcessor-field-send = both_send-MessageProcessor
    (search parts depth 40) (search parts depth 40) (search parts depth 40) (search parts depth 40) (search parts depth 40) (search parts depth 40)
    (search parts depth 40) (search parts depth 40)

pub MessageProcessor-field-sync : IsSync MessageProcessor.the_field.row
MessageProcessor-field-sync = both_sync-MessageProcessor
    (search parts depth 40) (search parts depth 40) (search parts depth 40) (search parts depth 40) (search parts depth 40) (search parts depth 40)
    (search parts depth 40) (search parts depth 40)

MessageProcessor-send : IsSend MessageProcessor.the_row
MessageProcessor-send = search (sendable, items.the_send, Ready-send, Case-send, Branch-send, MessageProcessor-field-send) depth 40 fits 10000

MessageProcessor-sync : IsSync MessageProcessor.the_row
MessageProcessor-sync = search (sendable, items.the_sync, Ready-sync, Case-sync, Branch-sync, MessageProcessor-field-sync) depth 40 fits 10000

Group-send : (h : RattleType) → IsSend h → IsSend (Group.the_row h)
Group-send h s = search (sendable, items.the_send, Ready-send, Ready-field-send) depth 40 fits 10000

Group-sync : (h : RattleType) → IsSync h → IsSync (Group.the_row h)
Group-sync h s = search (sendable, items.the_sync, Ready-sync, Ready-field-sync) depth 40 fits 10000

-- what a processor is made of, but processors
ruleset parts2 = (sendable, items.the_send, items.the_sync, sequence.the_send, sequence.the_sync, Bit-send, Bit-sync, MessageProcessor-field-send, MessageProcessor-field-sync, Group-send, Group-sync)

pub Processor-field-send : IsSend Processor.the_field.row
Processor-field-send = both_send-Processor
    (search parts2 depth 40) (search parts2 depth 40) (search parts2 depth 40) (search parts2 depth 40) (search parts2 depth 40) (search parts2 depth 40)
    (search parts2 depth 40) (search parts2 depth 40) (search parts2 depth 40) (search parts2 depth 40) (search parts2 depth 40) (search parts2 depth 40)

pub Processor-field-sync : IsSync Processor.the_field.row
Processor-field-sync = both_sync-Processor
    (search parts2 depth 40) (search parts2 depth 40) (search parts2 depth 40) (search parts2 depth 40) (search parts2 depth 40) (search parts2 depth 40)
    (search parts2 depth 40) (search parts2 depth 40) (search parts2 depth 40) (search parts2 depth 40) (search parts2 depth 40) (search parts2 depth 40)
