use Rattle.std.proofs.Common.{◌≡◌, drop}
use Rattle.bt_demand.specs.View.{trees}
use Rattle.bt_demand.specs.Holding.{held_by_some}
use Rattle.bt_demand.proofs.demand.+held.Given as goal

abbrev pub invariant-Demands::held_by_some-loop-d : goal.invariant-Demands::held_by_some-loop-d
invariant-Demands::held_by_some-loop-d l = held_by_some l.number (trees (drop l.d-index l.self.list.items)) ≡ held_by_some l.number (trees l.self.list.items)
