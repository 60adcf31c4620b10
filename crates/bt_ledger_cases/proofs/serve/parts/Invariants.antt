use Rattle.std.proofs.Common.{◌≡◌, vec_len}
use Rattle.bt_ledger_cases.proofs.serve.parts.Given as goal

abbrev pub invariant-loop-item : goal.invariant-loop-item
invariant-loop-item l = vec_len l.parts ≡ l.item
