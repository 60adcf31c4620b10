use Rattle.std.proofs.Common.{rules}
use Rattle.bt_demand.proofs.Rows.{tree-All}
use Rattle.bt_routing.proofs.demands.all.Goals as goal

pub returns : goal.returns
returns c = search (rules, tree-All)
