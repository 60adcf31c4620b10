use Rattle.std.proofs.Common.{rules}
use Rattle.bt_demand.proofs.Rows.{tree-All, tree-First}
use Rattle.bt_demand.proofs.demand.+refused.Goals as goal

pub Demand::refused-returns-in-All : goal.Demand::refused-returns-in-All
Demand::refused-returns-in-All t c = search (rules, tree-All)

pub Demand::refused-returns-in-First : goal.Demand::refused-returns-in-First
Demand::refused-returns-in-First t c = search (rules, tree-First)
