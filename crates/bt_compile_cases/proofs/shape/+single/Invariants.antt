use Rattle.std.proofs.Common.{◌+◌, ◌*◌}
use Rattle.bt_compile_cases.proofs.shape.+single.Given as goal

abbrev pub decreases-single : goal.decreases-single
decreases-single l = 4 * goal.size-single l

abbrev pub decreases-singles : goal.decreases-singles
decreases-singles l = 4 * goal.size-singles l + 1

abbrev pub decreases-cases : goal.decreases-cases
decreases-cases l = 4 * goal.size-cases l + 2

abbrev pub decreases-branch : goal.decreases-branch
decreases-branch l = 4 * goal.size-branch l + 2
