use Rattle.std.proofs.Common.{List, ◌++◌, ap, sym}
use Rattle.bt_expectations.specs.Failures.{in_batch}
use Rattle.bt_expectations.specs.declared.failure.Failure.{Failure}
use Rattle.bt_expectations.proofs.Pairs.{seen}
use Rattle.bt_expectations.proofs.comparing.push_batches.Goals as goal

pub loop-i-init : goal.loop-i-init
loop-i-init c = ap (λ (o : List Failure). c.args.out.now ++ o) (sym (seen in_batch (λ b. b.items) 0 c.args.expected.now c.args.got.now))
