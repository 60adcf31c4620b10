use Rattle.std.proofs.Common.{◌+◌, ◌-◌, length}
use Rattle.bt_lints.proofs.Reaching.{Found, unfound}
use Rattle.bt_lints.proofs.reach.reaching.Given as goal

abbrev pub invariant-loop-next : goal.invariant-loop-next
invariant-loop-next l = Found l.applications l.target l.names.list l.next

abbrev pub decreases-loop-next : goal.decreases-loop-next
decreases-loop-next l = unfound l.applications l.names.list + length l.names.list - l.next
