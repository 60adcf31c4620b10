use Rattle.std.proofs.Common.{◌≡◌, drop}
use Rattle.bt_demand.specs.View.{trees}
use Rattle.bt_demand.specs.Reasons.{lesser, least_refused_in}
use Rattle.bt_demand.proofs.demand.+refused.Given as goal

abbrev pub invariant-Demands::refused_in-loop-d : goal.invariant-Demands::refused_in-loop-d
invariant-Demands::refused_in-loop-d l = lesser l.sum (least_refused_in (trees (drop l.d-index l.self.list.items))) ≡ least_refused_in (trees l.self.list.items)
