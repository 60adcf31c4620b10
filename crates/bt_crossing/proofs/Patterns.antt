-- A pattern may cross threads, as its parts may. Of a struct, where it is a field, and by itself.
use denote.Param.Send.{IsSend, IsSync, sendable}
use Rattle.std.proofs.Crossing.{crosses}
use Rattle.std.proofs.string.String.TheSendSync as string
use Rattle.regex_hir.specs.contracts.hir.Hir as Hir
use Rattle.regex_hir.proofs.hir.Hir.TheLaws.TheKnot.{both_send-Hir, both_sync-Hir}
use Rattle.regex_literal.proofs.prefilter.Prefilter.TheSendSync as prefilter
use Rattle.regex_literal.proofs.ladder.Ladder.TheSendSync as ladder
use Rattle.regex_literal.proofs.caseless.Caseless.TheSendSync as caseless
use Rattle.regex_literal.proofs.byte_set.ByteSet.TheSendSync as byte_set
use Rattle.regex_extract.proofs.frames.Frame.TheSendSync as frame
use Rattle.regex_dfa.proofs.dfa.Dfa.TheSendSync as dfa
use Rattle.regex_syntax.proofs.Config.TheSendSync as config
use Rattle.regex_meta.proofs.plan.Role.TheSendSync as role
use Rattle.regex_meta.specs.contracts.plan.Plan as Plan
use Rattle.regex_meta.specs.contracts.plan.Plans as Plans
use Rattle.regex_meta.specs.contracts.signs.Signs as Signs
use Rattle.regex_meta.specs.contracts.program.Program as Program
use Rattle.regex.specs.contracts.pattern.Pattern as Inner
use Rattle.regex.specs.contracts.string.regex.Regex as Regex
use Rattle.bt_patterns.specs.contracts.pattern.Pattern as Pattern

Hir-send : IsSend Hir.the_row
Hir-send = search (sendable, crosses, both_send-Hir) depth 40 fits 10000

Hir-field-send : IsSend Hir.the_field.row
Hir-field-send = search (sendable, crosses, both_send-Hir) depth 40 fits 10000

Hir-sync : IsSync Hir.the_row
Hir-sync = search (sendable, crosses, both_sync-Hir) depth 40 fits 10000

Hir-field-sync : IsSync Hir.the_field.row
Hir-field-sync = search (sendable, crosses, both_sync-Hir) depth 40 fits 10000

Plan-send : IsSend Plan.the_row
Plan-send = search (sendable, crosses, Hir-send, prefilter.the_send, frame.the_send, ladder.the_field_send, role.the_field_send) depth 40 fits 10000

Plan-sync : IsSync Plan.the_row
Plan-sync = search (sendable, crosses, Hir-sync, prefilter.the_sync, frame.the_sync, ladder.the_field_sync, role.the_field_sync) depth 40 fits 10000

Plans-field-send : IsSend Plans.the_field.row
Plans-field-send = search (sendable, crosses, Plan-send) depth 40 fits 10000

Plans-field-sync : IsSync Plans.the_field.row
Plans-field-sync = search (sendable, crosses, Plan-sync) depth 40 fits 10000

Signs-send : IsSend Signs.the_row
Signs-send = search (sendable, crosses, Hir-send, caseless.the_send) depth 40 fits 10000

Signs-sync : IsSync Signs.the_row
Signs-sync = search (sendable, crosses, Hir-sync, caseless.the_sync) depth 40 fits 10000

Program-field-send : IsSend Program.the_field.row
Program-field-send = search (sendable, crosses, Hir-field-send, dfa.the_field_send, Plans-field-send, Signs-send, byte_set.the_send) depth 40 fits 10000

Program-field-sync : IsSync Program.the_field.row
Program-field-sync = search (sendable, crosses, Hir-field-sync, dfa.the_field_sync, Plans-field-sync, Signs-sync, byte_set.the_sync) depth 40 fits 10000

Inner-field-send : IsSend Inner.the_field.row
Inner-field-send = search (sendable, crosses, string.the_send, string.the_field_send, config.the_field_send, Program-field-send) depth 40 fits 10000

Inner-field-sync : IsSync Inner.the_field.row
Inner-field-sync = search (sendable, crosses, string.the_sync, string.the_field_sync, config.the_field_sync, Program-field-sync) depth 40 fits 10000

Regex-field-send : IsSend Regex.the_field.row
Regex-field-send = search (sendable, crosses, Inner-field-send) depth 40 fits 10000

Regex-field-sync : IsSync Regex.the_field.row
Regex-field-sync = search (sendable, crosses, Inner-field-sync) depth 40 fits 10000

pub Pattern-send : IsSend Pattern.the_row
Pattern-send = search (sendable, crosses, Regex-field-send) depth 40 fits 10000

pub Pattern-sync : IsSync Pattern.the_row
Pattern-sync = search (sendable, crosses, Regex-field-sync) depth 40 fits 10000
