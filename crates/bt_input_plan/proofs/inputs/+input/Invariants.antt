use Rattle.std.proofs.Common.{◌+◌, ◌*◌, map}
use Rattle.bt_value.specs.Depth as depths
use Rattle.bt_outlines.proofs.Listing.{SoFar}
use Rattle.bt_input_plan.specs.Made.{blanked, parts}
use Rattle.bt_input_plan.specs.Reading.{reading}
use Rattle.bt_input_plan.proofs.inputs.+input.Given as goal

abbrev pub decreases-input : goal.decreases-input
decreases-input l = 7 * depths.depth l.v.now

abbrev pub decreases-component : goal.decreases-component
decreases-component l = 7 * depths.members_depth l.fields.now + 6

abbrev pub decreases-input_as : goal.decreases-input_as
decreases-input_as l = 7 * depths.depth l.v.now + 2

abbrev pub decreases-with_fields : goal.decreases-with_fields
decreases-with_fields l = 7 * depths.depth l.v.now + 1

abbrev pub decreases-input_in : goal.decreases-input_in
decreases-input_in l = 7 * depths.members_depth l.fields.now + 5

abbrev pub decreases-batched_in : goal.decreases-batched_in
decreases-batched_in l = 7 * depths.members_depth l.fields.now + 4

abbrev pub decreases-until_in : goal.decreases-until_in
decreases-until_in l = 7 * depths.members_depth l.fields.now + 4

abbrev pub decreases-input_at : goal.decreases-input_at
decreases-input_at l = 7 * depths.members_depth l.fields.now + 3

abbrev pub decreases-inputs_at : goal.decreases-inputs_at
decreases-inputs_at l = 7 * depths.members_depth l.fields.now + 3

abbrev pub decreases-inputs : goal.decreases-inputs
decreases-inputs l = 7 * depths.depth l.v.now + 1

abbrev pub decreases-each_input : goal.decreases-each_input
decreases-each_input l = 7 * depths.items_depth l.items.now + 4

abbrev pub invariant-each_input-loop-i : goal.invariant-each_input-loop-i
invariant-each_input-loop-i l = SoFar blanked parts (map (λ r. r.input) (map reading l.item-items)) l.at l.i l.out
