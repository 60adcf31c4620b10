use Rattle.bt_demand.specs.View.{tree}
use Rattle.bt_demand.proofs.Reasons.{least-refused}
use Rattle.bt_demand.proofs.demand.Demand.least_refused.Goals as goal

pub returns : goal.returns
returns c = let h = least-refused (tree c.args.self.now) in cc
