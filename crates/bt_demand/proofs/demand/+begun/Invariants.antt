use Rattle.std.proofs.Common.{◌≡◌, drop}
use Rattle.bt_demand.specs.View.{trees}
use Rattle.bt_demand.specs.Find.{some_begun}
use Rattle.bt_demand.proofs.demand.+begun.Given as goal

abbrev pub invariant-Demands::some_begun-loop-d : goal.invariant-Demands::some_begun-loop-d
invariant-Demands::some_begun-loop-d l = some_begun (trees (drop l.d-index l.self.list.items)) ≡ some_begun (trees l.self.list.items)
