use Rattle.std.proofs.Common.{rules}
use Rattle.bt_demand.proofs.Rows.{tree-All, tree-First}
use Rattle.bt_demand.proofs.demand.+begun.Goals as goal

pub Demand::begun-returns-in-All : goal.Demand::begun-returns-in-All
Demand::begun-returns-in-All t c = search (rules, tree-All)

pub Demand::begun-returns-in-First : goal.Demand::begun-returns-in-First
Demand::begun-returns-in-First t c = search (rules, tree-First)
