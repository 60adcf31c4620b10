use Rattle.std.proofs.Common.{rules}
use Rattle.bt_demand.proofs.Rows.{tree-First}
use Rattle.bt_routing.proofs.demands.first.Goals as goal

pub returns : goal.returns
returns c = search (rules, tree-First)
