use Rattle.std.proofs.Common.{rules}
use Rattle.bt_demand.proofs.Rows.{tree-All, tree-First}
use Rattle.bt_demand.proofs.demand.+bytes.Goals as goal

pub Demand::bytes_of-returns-in-All : goal.Demand::bytes_of-returns-in-All
Demand::bytes_of-returns-in-All t c = search (rules, tree-All)

pub Demand::bytes_of-returns-in-First : goal.Demand::bytes_of-returns-in-First
Demand::bytes_of-returns-in-First t c = search (rules, tree-First)
