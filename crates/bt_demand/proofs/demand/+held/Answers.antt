use Rattle.std.proofs.Common.{rules}
use Rattle.bt_demand.proofs.Rows.{tree-All, tree-First}
use Rattle.bt_demand.proofs.demand.+held.Goals as goal

pub Demand::held_by-returns-in-All : goal.Demand::held_by-returns-in-All
Demand::held_by-returns-in-All t c = search (rules, tree-All)

pub Demand::held_by-returns-in-First : goal.Demand::held_by-returns-in-First
Demand::held_by-returns-in-First t c = search (rules, tree-First)
