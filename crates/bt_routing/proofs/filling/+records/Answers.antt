use Rattle.std.proofs.Common.{rules}
use Rattle.bt_demand.proofs.Rows.{tree-All, tree-First}
use Rattle.bt_routing.proofs.filling.+records.Goals as goal

pub records-returns-in-All : goal.records-returns-in-All
records-returns-in-All t c = search (rules, tree-All)

pub records-returns-in-First : goal.records-returns-in-First
records-returns-in-First t c = search (rules, tree-First)
