use Rattle.std.proofs.Common.{◌≡◌, ◌+◌, ◌*◌, drop, map}
use Rattle.bt_value.specs.Depth as depths
use Rattle.bt_output_plan.specs.Drafts.{in_order}
use Rattle.bt_output_plan.specs.Reading.{reading}
use Rattle.bt_output_plan.specs.Sinks as spec
use Rattle.bt_output_plan.proofs.sinks.+push.Given as goal

abbrev pub decreases-push_output : goal.decreases-push_output
decreases-push_output l = 6 * depths.depth l.v.now

abbrev pub decreases-push_component : goal.decreases-push_component
decreases-push_component l = 6 * depths.members_depth l.fields.now + 5

abbrev pub decreases-push_as : goal.decreases-push_as
decreases-push_as l = 6 * depths.depth l.v.now + 2

abbrev pub decreases-push_with_fields : goal.decreases-push_with_fields
decreases-push_with_fields l = 6 * depths.depth l.v.now + 1

abbrev pub decreases-push_in : goal.decreases-push_in
decreases-push_in l = 6 * depths.members_depth l.fields.now + 4

abbrev pub decreases-push_output_at : goal.decreases-push_output_at
decreases-push_output_at l = 6 * depths.members_depth l.fields.now + 3

abbrev pub decreases-push_outputs_at : goal.decreases-push_outputs_at
decreases-push_outputs_at l = 6 * depths.members_depth l.fields.now + 3

abbrev pub decreases-push_outputs : goal.decreases-push_outputs
decreases-push_outputs l = 6 * depths.depth l.v.now + 1

abbrev pub decreases-push_each : goal.decreases-push_each
decreases-push_each l = 6 * depths.items_depth l.items.now + 3

abbrev pub decreases-push_cases_at : goal.decreases-push_cases_at
decreases-push_cases_at l = 6 * depths.members_depth l.fields.now + 3

abbrev pub decreases-push_cases : goal.decreases-push_cases
decreases-push_cases l = 6 * depths.depth l.v.now + 1

abbrev pub decreases-push_each_case : goal.decreases-push_each_case
decreases-push_each_case l = 6 * depths.items_depth l.items.now + 3

abbrev pub decreases-push_case : goal.decreases-push_case
decreases-push_case l = 6 * depths.depth l.v.now + 1

abbrev pub invariant-push_each-loop-item : goal.invariant-push_each-loop-item
invariant-push_each-loop-item l =
    spec.with_ends l.sinks.items (in_order (λ r. r.output) (map reading (drop l.item-index l.item-items))).ends
    ≡ spec.with_ends l.initial.sinks.items (in_order (λ r. r.output) (map reading l.item-items)).ends

abbrev pub invariant-push_each_case-loop-item : goal.invariant-push_each_case-loop-item
invariant-push_each_case-loop-item l =
    spec.with_ends l.sinks.items (in_order (λ r. r.switch_case) (map reading (drop l.item-index l.item-items))).ends
    ≡ spec.with_ends l.initial.sinks.items (in_order (λ r. r.switch_case) (map reading l.item-items)).ends
