use Rattle.bt_ledger_cases.specs.Sized.{Sized}
use Rattle.bt_ledger_cases.proofs.random.told.Given as goal

abbrev pub invariant-loop-number : goal.invariant-loop-number
invariant-loop-number l = Sized l.window l.entries l.ledger
