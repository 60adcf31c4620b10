use Rattle.std.proofs.Common.{◌≡◌, drop}
use Rattle.bt_demand.specs.View.{trees}
use Rattle.bt_demand.specs.Find.{bytes_in}
use Rattle.bt_demand.proofs.demand.+bytes.Given as goal

abbrev pub invariant-Demands::bytes_in-loop-d : goal.invariant-Demands::bytes_in-loop-d
invariant-Demands::bytes_in-loop-d l = bytes_in l.number (trees (drop l.d-index l.self.list.items)) ≡ bytes_in l.number (trees l.self.list.items)
