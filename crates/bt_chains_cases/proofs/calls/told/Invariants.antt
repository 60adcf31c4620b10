use Rattle.std.proofs.Common.{◌≡◌, length}
use Rattle.bt_chains_cases.proofs.calls.told.Given as goal

abbrev pub invariant-loop-named : goal.invariant-loop-named
invariant-loop-named l = (length l.pool.chains ≡ l.chains) × (length l.pool.entries ≡ l.entries)
