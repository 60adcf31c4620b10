use Rattle.std.proofs.Common.{◌+◌, ◌*◌, map}
use Rattle.bt_value.specs.Depth as depths
use Rattle.bt_compile.specs.Made.{blank_group, blanked, group_parts, in_group, parts}
use Rattle.bt_compile.specs.Reading.{reading}
use Rattle.bt_compile.proofs.Listing.{SoFar}
use Rattle.bt_compile.proofs.processors.+processor.Given as goal

abbrev pub decreases-processor : goal.decreases-processor
decreases-processor l = 6 * depths.depth l.v.now

abbrev pub decreases-component : goal.decreases-component
decreases-component l = 6 * depths.members_depth l.fields.now + 5

abbrev pub decreases-processor_as : goal.decreases-processor_as
decreases-processor_as l = 6 * depths.depth l.v.now + 2

abbrev pub decreases-processors : goal.decreases-processors
decreases-processors l = 6 * depths.depth l.v.now + 1

abbrev pub decreases-each_processor : goal.decreases-each_processor
decreases-each_processor l = 6 * depths.items_depth l.items.now + 3

abbrev pub decreases-groups : goal.decreases-groups
decreases-groups l = 6 * depths.depth l.v.now + 1

abbrev pub decreases-each_group : goal.decreases-each_group
decreases-each_group l = 6 * depths.items_depth l.items.now + 3

abbrev pub decreases-group : goal.decreases-group
decreases-group l = 6 * depths.depth l.v.now + 1

abbrev pub decreases-group_in : goal.decreases-group_in
decreases-group_in l = 6 * depths.members_depth l.fields.now + 4

abbrev pub decreases-processors_at : goal.decreases-processors_at
decreases-processors_at l = 6 * depths.members_depth l.fields.now + 3

abbrev pub invariant-each_processor-loop-i : goal.invariant-each_processor-loop-i
invariant-each_processor-loop-i l = SoFar blanked parts (map (λ r. r.processor) (map reading l.item-items)) l.at l.i l.out

abbrev pub invariant-each_group-loop-i : goal.invariant-each_group-loop-i
invariant-each_group-loop-i l = SoFar (λ g. blank_group (in_group blanked g)) (λ g. group_parts (in_group parts g)) (map (λ r. r.group) (map reading l.item-items)) l.at l.i l.out
