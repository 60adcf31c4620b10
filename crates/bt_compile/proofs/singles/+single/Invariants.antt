use Rattle.std.proofs.Common.{◌+◌, ◌*◌, map}
use Rattle.bt_messages.specs.Cases.{in_case}
use Rattle.bt_value.specs.Depth as depths
use Rattle.bt_compile.specs.Made.{blank_case, blank_single, case_parts, single_parts}
use Rattle.bt_compile.specs.Reading.{reading}
use Rattle.bt_compile.proofs.Listing.{SoFar}
use Rattle.bt_compile.proofs.singles.+single.Given as goal

abbrev pub decreases-single : goal.decreases-single
decreases-single l = 6 * depths.depth l.v.now

abbrev pub decreases-component : goal.decreases-component
decreases-component l = 6 * depths.members_depth l.fields.now + 5

abbrev pub decreases-single_as : goal.decreases-single_as
decreases-single_as l = 6 * depths.depth l.v.now + 2

abbrev pub decreases-singles : goal.decreases-singles
decreases-singles l = 6 * depths.depth l.v.now + 1

abbrev pub decreases-each_single : goal.decreases-each_single
decreases-each_single l = 6 * depths.items_depth l.items.now + 3

abbrev pub decreases-cases : goal.decreases-cases
decreases-cases l = 6 * depths.depth l.v.now + 1

abbrev pub decreases-each_case : goal.decreases-each_case
decreases-each_case l = 6 * depths.items_depth l.items.now + 3

abbrev pub decreases-switch_case : goal.decreases-switch_case
decreases-switch_case l = 6 * depths.depth l.v.now + 1

abbrev pub decreases-case_in : goal.decreases-case_in
decreases-case_in l = 6 * depths.members_depth l.fields.now + 4

abbrev pub decreases-branch : goal.decreases-branch
decreases-branch l = 6 * depths.depth l.v.now + 1

abbrev pub decreases-branch_in : goal.decreases-branch_in
decreases-branch_in l = 6 * depths.members_depth l.fields.now + 4

abbrev pub decreases-singles_at : goal.decreases-singles_at
decreases-singles_at l = 6 * depths.members_depth l.fields.now + 3

abbrev pub invariant-each_single-loop-i : goal.invariant-each_single-loop-i
invariant-each_single-loop-i l = SoFar blank_single single_parts (map (λ r. r.single) (map reading l.item-items)) l.at l.i l.out

abbrev pub invariant-each_case-loop-i : goal.invariant-each_case-loop-i
invariant-each_case-loop-i l = SoFar (λ k. blank_case (in_case blank_single k)) (λ k. case_parts (in_case single_parts k)) (map (λ r. r.switch_case) (map reading l.item-items)) l.at l.i l.out
