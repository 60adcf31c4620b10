use Rattle.std.proofs.Common.{◌+◌, ◌*◌, ◌↔◌, drop}
use Rattle.bt_same.specs.Layers.{Each, SameQuery, SameArg, SameSuffix, SameMember, SameTerm, SameCase, SameBranch}
use Rattle.bt_same.proofs.queries.+query.Given as goal

abbrev pub decreases-query : goal.decreases-query
decreases-query l = 8 * goal.size-query l + 1

abbrev pub decreases-node : goal.decreases-node
decreases-node l = 8 * goal.size-node l

abbrev pub decreases-optional : goal.decreases-optional
decreases-optional l = 8 * goal.size-optional l + 2

abbrev pub decreases-queries : goal.decreases-queries
decreases-queries l = 8 * goal.size-queries l + 4

abbrev pub decreases-args : goal.decreases-args
decreases-args l = 8 * goal.size-args l + 4

abbrev pub decreases-arg : goal.decreases-arg
decreases-arg l = 8 * goal.size-arg l + 3

abbrev pub decreases-suffixes : goal.decreases-suffixes
decreases-suffixes l = 8 * goal.size-suffixes l + 6

abbrev pub decreases-suffix : goal.decreases-suffix
decreases-suffix l = 8 * goal.size-suffix l + 5

abbrev pub decreases-members : goal.decreases-members
decreases-members l = 8 * goal.size-members l + 4

abbrev pub decreases-member : goal.decreases-member
decreases-member l = 8 * goal.size-member l + 3

abbrev pub decreases-terms : goal.decreases-terms
decreases-terms l = 8 * goal.size-terms l + 4

abbrev pub decreases-term : goal.decreases-term
decreases-term l = 8 * goal.size-term l + 3

abbrev pub decreases-cases : goal.decreases-cases
decreases-cases l = 8 * goal.size-cases l + 4

abbrev pub decreases-case : goal.decreases-case
decreases-case l = 8 * goal.size-case l + 3

abbrev pub decreases-branches : goal.decreases-branches
decreases-branches l = 8 * goal.size-branches l + 4

abbrev pub decreases-branch : goal.decreases-branch
decreases-branch l = 8 * goal.size-branch l + 3

abbrev pub invariant-queries-loop-i : goal.invariant-queries-loop-i
invariant-queries-loop-i l = Each SameQuery (drop l.i l.a) (drop l.i l.b) ↔ Each SameQuery l.a l.b

abbrev pub invariant-args-loop-i : goal.invariant-args-loop-i
invariant-args-loop-i l = Each SameArg (drop l.i l.a) (drop l.i l.b) ↔ Each SameArg l.a l.b

abbrev pub invariant-suffixes-loop-i : goal.invariant-suffixes-loop-i
invariant-suffixes-loop-i l = Each SameSuffix (drop l.i l.a) (drop l.i l.b) ↔ Each SameSuffix l.a l.b

abbrev pub invariant-members-loop-i : goal.invariant-members-loop-i
invariant-members-loop-i l = Each SameMember (drop l.i l.a) (drop l.i l.b) ↔ Each SameMember l.a l.b

abbrev pub invariant-terms-loop-i : goal.invariant-terms-loop-i
invariant-terms-loop-i l = Each SameTerm (drop l.i l.a) (drop l.i l.b) ↔ Each SameTerm l.a l.b

abbrev pub invariant-cases-loop-i : goal.invariant-cases-loop-i
invariant-cases-loop-i l = Each SameCase (drop l.i l.a) (drop l.i l.b) ↔ Each SameCase l.a l.b

abbrev pub invariant-branches-loop-i : goal.invariant-branches-loop-i
invariant-branches-loop-i l = Each SameBranch (drop l.i l.a) (drop l.i l.b) ↔ Each SameBranch l.a l.b
