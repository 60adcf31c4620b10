use Rattle.std.proofs.Common.{rules}
use Rattle.bt_demand.proofs.Rows.{tree-All}
use Rattle.bt_ledger_cases.proofs.shapes.record_and_held.Goals as goal

pub returns : goal.returns
returns c = search (rules, tree-All)
