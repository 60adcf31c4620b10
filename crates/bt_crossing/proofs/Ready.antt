-- A mapping with what running it takes may cross threads.
use denote.Param.Send.{IsSend, IsSync, sendable}
use Rattle.bt_ports.proofs.sequence.Sequence.TheSendSync as sequence
use Rattle.bt_ready.specs.contracts.ready.Ready as Ready
use Rattle.bt_crossing.proofs.Mappings.{Mapping-field-send, Mapping-field-sync}
use Rattle.bt_crossing.proofs.Patterns.{Pattern-send, Pattern-sync}

pub Ready-send : IsSend Ready.the_row
Ready-send = search (sendable, sequence.the_send, Pattern-send, Mapping-field-send) depth 40 fits 10000

pub Ready-field-send : IsSend Ready.the_field.row
Ready-field-send = search (sendable, sequence.the_send, Pattern-send, Mapping-field-send) depth 40 fits 10000

pub Ready-sync : IsSync Ready.the_row
Ready-sync = search (sendable, sequence.the_sync, Pattern-sync, Mapping-field-sync) depth 40 fits 10000

pub Ready-field-sync : IsSync Ready.the_field.row
Ready-field-sync = search (sendable, sequence.the_sync, Pattern-sync, Mapping-field-sync) depth 40 fits 10000
