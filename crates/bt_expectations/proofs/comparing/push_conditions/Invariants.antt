use Rattle.std.proofs.Common.{◌≡◌, ◌++◌, drop}
use Rattle.bt_expectations.specs.Failures.{in_message}
use Rattle.bt_expectations.proofs.comparing.push_conditions.Given as goal

abbrev pub invariant-loop-expectation : goal.invariant-loop-expectation
invariant-loop-expectation l =
    l.out ++ in_message l.batch (drop l.expectation-index l.expected) l.msg l.at ≡ l.initial.out ++ in_message l.batch l.expected l.msg l.at
