use Rattle.std.proofs.Common.{◌≡◌, drop}
use Rattle.bt_demand.specs.View.{trees}
use Rattle.bt_demand.specs.Find.{below_each}
use Rattle.bt_demand.proofs.demand.+below.Given as goal

abbrev pub invariant-Demands::below_each-loop-d : goal.invariant-Demands::below_each-loop-d
invariant-Demands::below_each-loop-d l = below_each l.number (trees (drop l.d-index l.self.list.items)) ≡ below_each l.number (trees l.self.list.items)
