use Rattle.bt_ledger_cases.proofs.Fitting.{rises_from}
use Rattle.bt_ledger_cases.proofs.shapes.all_below.Goals as goal

pub returns-clause-rising : goal.returns-clause-rising
returns-clause-rising c = rises_from _ c.as_slice.ensures.rising
