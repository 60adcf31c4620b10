use Rattle.std.proofs.Common.{◌≡◌, ◌++◌, take}
use Rattle.bt_output_plan.proofs.numbers.push_all.Given as goal

abbrev pub invariant-loop-policy : goal.invariant-loop-policy
invariant-loop-policy l = l.holds.list ≡ l.initial.holds.list ++ take l.policy-index l.more
