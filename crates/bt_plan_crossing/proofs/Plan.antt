-- A plan may cross threads, as its parts may.
use denote.Param.Send.{IsSend, IsSync, sendable}
use Rattle.sqlite_items.proofs.items.Items.TheSendSync as items
use Rattle.bt_ports.proofs.blob.Blob.TheSendSync as blob
use Rattle.bt_ports.proofs.text.Text.TheSendSync as text
use Rattle.bt_ports.proofs.sequence.Sequence.TheSendSync as sequence
use Rattle.std.proofs.Crossing.{crosses}
use Rattle.bt_proc.specs.contracts.tree.Processor as Processor
use Rattle.bt_demand.specs.contracts.routes.HoldPolicy as HoldPolicy
use Rattle.bt_routing.specs.contracts.plan.Plan as Plan
use Rattle.bt_plan_crossing.proofs.Outputs.{Output-field-send, Output-field-sync}
use Rattle.bt_plan_crossing.proofs.Processors.{Processor-field-send, Processor-field-sync}

Processor-send : IsSend Processor.the_row
Processor-send = search (sendable, crosses, Processor-field-send) depth 40 fits 10000

Processor-sync : IsSync Processor.the_row
Processor-sync = search (sendable, crosses, Processor-field-sync) depth 40 fits 10000

HoldPolicy-send : IsSend HoldPolicy.the_row
HoldPolicy-send = search (sendable, crosses) depth 40 fits 10000

HoldPolicy-sync : IsSync HoldPolicy.the_row
HoldPolicy-sync = search (sendable, crosses) depth 40 fits 10000

pub Plan-send : IsSend Plan.the_row
Plan-send = search (sendable, crosses, items.the_send, sequence.the_send, text.the_send, blob.the_send, HoldPolicy-send, Processor-send, Processor-field-send, Output-field-send) depth 40 fits 10000

pub Plan-sync : IsSync Plan.the_row
Plan-sync = search (sendable, crosses, items.the_sync, sequence.the_sync, text.the_sync, blob.the_sync, HoldPolicy-sync, Processor-sync, Processor-field-sync, Output-field-sync) depth 40 fits 10000
