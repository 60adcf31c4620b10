use Rattle.std.proofs.Common.{rules}
use Rattle.bt_demand.proofs.Rows.{tree-All, tree-First}
use Rattle.bt_demand.proofs.demand.+todo.Goals as goal

pub Demand::next-returns-in-All : goal.Demand::next-returns-in-All
Demand::next-returns-in-All t c = search (rules, tree-All)

pub Demand::next-returns-in-First : goal.Demand::next-returns-in-First
Demand::next-returns-in-First t c = search (rules, tree-First)
