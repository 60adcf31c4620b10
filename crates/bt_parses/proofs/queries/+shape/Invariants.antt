use Rattle.std.proofs.Common.{◌+◌, ◌*◌}
use Rattle.bt_parses.proofs.queries.+shape.Given as goal

abbrev pub decreases-arg : goal.decreases-arg
decreases-arg l = 5 * l.depth + 1

abbrev pub decreases-args : goal.decreases-args
decreases-args l = 5 * l.depth + 2

abbrev pub decreases-branches : goal.decreases-branches
decreases-branches l = 5 * l.depth + 1

abbrev pub decreases-cases : goal.decreases-cases
decreases-cases l = 5 * l.depth + 1

abbrev pub decreases-chain : goal.decreases-chain
decreases-chain l = 5 * l.depth + 2

abbrev pub decreases-choice : goal.decreases-choice
decreases-choice l = 5 * l.depth + 2

abbrev pub decreases-members : goal.decreases-members
decreases-members l = 5 * l.depth + 1

abbrev pub decreases-numeric : goal.decreases-numeric
decreases-numeric l = 5 * l.depth + 2

abbrev pub decreases-queries : goal.decreases-queries
decreases-queries l = 5 * l.depth + 1

abbrev pub decreases-query : goal.decreases-query
decreases-query l = 5 * l.depth + 0

abbrev pub decreases-suffix : goal.decreases-suffix
decreases-suffix l = 5 * l.depth + 3

abbrev pub decreases-suffixes : goal.decreases-suffixes
decreases-suffixes l = 5 * l.depth + 4

abbrev pub decreases-terms : goal.decreases-terms
decreases-terms l = 5 * l.depth + 1
