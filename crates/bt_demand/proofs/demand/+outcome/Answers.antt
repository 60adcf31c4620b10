use Rattle.std.proofs.Common.{rules}
use Rattle.bt_demand.proofs.Rows.{tree-All, tree-First}
use Rattle.bt_demand.proofs.demand.+outcome.Goals as goal

pub Demand::standing-returns-in-All : goal.Demand::standing-returns-in-All
Demand::standing-returns-in-All t c = search (rules, tree-All)

pub Demand::standing-returns-in-First : goal.Demand::standing-returns-in-First
Demand::standing-returns-in-First t c = search (rules, tree-First)
