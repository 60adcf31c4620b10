use Rattle.std.proofs.Common.{◌+◌, ◌*◌}
use Rattle.bt_compile_cases.proofs.shape.+processor.Given as goal

abbrev pub decreases-processor : goal.decreases-processor
decreases-processor l = 4 * goal.size-processor l

abbrev pub decreases-all : goal.decreases-all
decreases-all l = 4 * goal.size-all l + 1

abbrev pub decreases-groups : goal.decreases-groups
decreases-groups l = 4 * goal.size-groups l + 2
