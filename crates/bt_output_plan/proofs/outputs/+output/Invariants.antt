use Rattle.std.proofs.Common.{◌+◌, ◌*◌, length, map}
use Rattle.bt_outputs.specs.Numbers.{numbers}
use Rattle.bt_value.specs.Depth as depths
use Rattle.bt_output_plan.specs.Made.{blank_case, blanked, case_parts, in_case, parts}
use Rattle.bt_output_plan.specs.Reading.{reading}
use Rattle.bt_output_plan.proofs.Numbering.{Going}
use Rattle.bt_output_plan.proofs.outputs.+output.Given as goal

abbrev pub decreases-output : goal.decreases-output
decreases-output l = 7 * depths.depth l.v.now

abbrev pub decreases-component : goal.decreases-component
decreases-component l = 7 * depths.members_depth l.fields.now + 6

abbrev pub decreases-output_as : goal.decreases-output_as
decreases-output_as l = 7 * depths.depth l.v.now + 3

abbrev pub decreases-fallback : goal.decreases-fallback
decreases-fallback l = 7 * depths.depth l.v.now + 2

abbrev pub decreases-with_fields : goal.decreases-with_fields
decreases-with_fields l = 7 * depths.depth l.v.now + 1

abbrev pub decreases-output_in : goal.decreases-output_in
decreases-output_in l = 7 * depths.members_depth l.fields.now + 6

abbrev pub decreases-broker : goal.decreases-broker
decreases-broker l = 7 * depths.members_depth l.fields.now + 5

abbrev pub decreases-held_broker : goal.decreases-held_broker
decreases-held_broker l = 7 * depths.members_depth l.fields.now + 4

abbrev pub decreases-retry : goal.decreases-retry
decreases-retry l = 7 * depths.members_depth l.fields.now + 4

abbrev pub decreases-output_at : goal.decreases-output_at
decreases-output_at l = 7 * depths.members_depth l.fields.now + 3

abbrev pub decreases-outputs_at : goal.decreases-outputs_at
decreases-outputs_at l = 7 * depths.members_depth l.fields.now + 3

abbrev pub decreases-outputs : goal.decreases-outputs
decreases-outputs l = 7 * depths.depth l.v.now + 1

abbrev pub decreases-each_output : goal.decreases-each_output
decreases-each_output l = 7 * depths.items_depth l.items.now + 4

abbrev pub decreases-cases_at : goal.decreases-cases_at
decreases-cases_at l = 7 * depths.members_depth l.fields.now + 3

abbrev pub decreases-cases : goal.decreases-cases
decreases-cases l = 7 * depths.depth l.v.now + 1

abbrev pub decreases-each_case : goal.decreases-each_case
decreases-each_case l = 7 * depths.items_depth l.items.now + 4

abbrev pub decreases-switch_case : goal.decreases-switch_case
decreases-switch_case l = 7 * depths.depth l.v.now + 1

abbrev pub decreases-case_in : goal.decreases-case_in
decreases-case_in l = 7 * depths.members_depth l.fields.now + 4

abbrev pub invariant-each_output-loop-i : goal.invariant-each_output-loop-i
invariant-each_output-loop-i l = Going blanked parts (numbers (length l.names))
    (map (λ r. r.output.outline l.names l.held) (map reading l.item-items)) (map (λ r. r.output.holds l.held) (map reading l.item-items))
    l.at l.i l.out l.initial.numbers l.numbers

abbrev pub invariant-each_case-loop-i : goal.invariant-each_case-loop-i
invariant-each_case-loop-i l = Going (λ k. blank_case (in_case blanked k)) (λ k. case_parts (in_case parts k)) (λ k. numbers (length l.names) k.output)
    (map (λ r. r.switch_case.outline l.names l.held) (map reading l.item-items)) (map (λ r. r.switch_case.holds l.held) (map reading l.item-items))
    l.at l.i l.out l.initial.numbers l.numbers
