use Rattle.bt_ledger_cases.specs.Sized.{Sized}
use Rattle.bt_ledger_cases.proofs.serve.finish.Given as goal

abbrev pub invariant-loop-i : goal.invariant-loop-i
invariant-loop-i l = Sized l.sizes.window l.sizes.entries l.ledger
