use Rattle.std.proofs.Common.{◌++◌, map}
use Rattle.bt_expectations.specs.Failures.{each_pair, in_batch}
use Rattle.bt_expectations.proofs.Pairs.{GivesAll}
use Rattle.bt_expectations.proofs.comparing.push_batches.Given as goal

abbrev pub invariant-loop-i : goal.invariant-loop-i
invariant-loop-i l =
    GivesAll (λ i e b. in_batch i e b.items) l.expected l.got l.i l.out (l.initial.out ++ each_pair in_batch 0 l.expected (map (λ b. b.items) l.got))
