use Rattle.std.proofs.Common.{◌≡◌, vec_len}
use Rattle.bt_ledger_cases.proofs.random.parts.Given as goal

abbrev pub invariant-loop-i : goal.invariant-loop-i
invariant-loop-i l = vec_len l.parts ≡ l.i
