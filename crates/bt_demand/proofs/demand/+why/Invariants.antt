use Rattle.std.proofs.Common.{◌≡◌, drop}
use Rattle.bt_demand.specs.View.{trees}
use Rattle.bt_demand.specs.Reasons.{why_of_first_lost}
use Rattle.bt_demand.proofs.demand.+why.Given as goal

abbrev pub invariant-Demands::why_of_first_lost-loop-d : goal.invariant-Demands::why_of_first_lost-loop-d
invariant-Demands::why_of_first_lost-loop-d l = why_of_first_lost (trees (drop l.d-index l.self.list.items)) ≡ why_of_first_lost (trees l.self.list.items)
