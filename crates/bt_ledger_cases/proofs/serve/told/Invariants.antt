use Rattle.bt_ledger_cases.specs.Sized.{Sized}
use Rattle.bt_ledger_cases.proofs.serve.told.Given as goal

abbrev pub invariant-loop-number : goal.invariant-loop-number
invariant-loop-number l = Sized l.window 64 l.ledger

abbrev pub invariant-loop-number-2 : goal.invariant-loop-number-2
invariant-loop-number-2 l = Sized l.window 64 l.ledger
