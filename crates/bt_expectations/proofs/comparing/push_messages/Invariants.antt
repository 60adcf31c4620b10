use Rattle.std.proofs.Common.{◌++◌, length}
use Rattle.bt_expectations.specs.Failures.{in_message, in_messages}
use Rattle.bt_messages.specs.Messages.{spot}
use Rattle.bt_expectations.proofs.Pairs.{GivesAll}
use Rattle.bt_expectations.proofs.comparing.push_messages.Given as goal

abbrev pub invariant-loop-i : goal.invariant-loop-i
invariant-loop-i l =
    GivesAll (λ i e p. in_message l.batch e p.msg (spot (length l.got) 0 i)) l.expected l.got l.i l.out (l.initial.out ++ in_messages l.batch l.expected l.got)
