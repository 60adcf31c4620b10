use Rattle.std.proofs.Common.{◌≡◌, take}
use Rattle.bt_output_plan.proofs.numbers.tail.Given as goal

abbrev pub invariant-loop-policy : goal.invariant-loop-policy
invariant-loop-policy l = l.tail.list ≡ take l.policy-index l.policy-items
