use Rattle.std.proofs.Common.{◌≡◌, length}
use Rattle.bt_chains_cases.proofs.random.told.Given as goal

abbrev pub invariant-loop-call : goal.invariant-loop-call
invariant-loop-call l = length l.pool.chains ≡ l.chains
