use Rattle.bt_demand.specs.View.{tree}
use Rattle.bt_demand.proofs.Outcomes.{outcome-met, outcome-lost}
use Rattle.bt_demand.proofs.demand.Demand.outcome.Goals as goal

pub returns-clause-met : goal.returns-clause-met
returns-clause-met c = let h = outcome-met (tree c.args.self.now) in cc

pub returns-clause-lost : goal.returns-clause-lost
returns-clause-lost c = let h = outcome-lost (tree c.args.self.now) in cc
