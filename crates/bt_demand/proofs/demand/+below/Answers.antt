use Rattle.std.proofs.Common.{rules}
use Rattle.bt_demand.proofs.Rows.{tree-All, tree-First}
use Rattle.bt_demand.proofs.demand.+below.Goals as goal

pub Demand::below-returns-in-All : goal.Demand::below-returns-in-All
Demand::below-returns-in-All t c = search (rules, tree-All)

pub Demand::below-returns-in-First : goal.Demand::below-returns-in-First
Demand::below-returns-in-First t c = search (rules, tree-First)
