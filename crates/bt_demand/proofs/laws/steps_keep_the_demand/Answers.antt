use Rattle.bt_demand.proofs.Shapes.{moves-untried, moves-leaves, moves-sinks, moves-nodes, moves-flat, moves-begun}
use Rattle.bt_demand.proofs.laws.steps_keep_the_demand.Goals as goal

pub returns-clause-demand : goal.returns-clause-demand
returns-clause-demand c = moves-untried

pub returns-clause-leaves : goal.returns-clause-leaves
returns-clause-leaves c = moves-leaves

pub returns-clause-sinks : goal.returns-clause-sinks
returns-clause-sinks c = moves-sinks

pub returns-clause-nodes : goal.returns-clause-nodes
returns-clause-nodes c = moves-nodes

pub returns-clause-flat : goal.returns-clause-flat
returns-clause-flat c = moves-flat

pub returns-clause-begun : goal.returns-clause-begun
returns-clause-begun c = moves-begun
