use Rattle.std.proofs.Common.{◌≡◌, ◌+◌, ◌≤◌, drop}
use Rattle.std.specs.Prelude.{min}
use Rattle.bt_demand.specs.View.{trees}
use Rattle.bt_demand.specs.Holds.{holds_in}
use Rattle.bt_demand.proofs.demand.+holds.Given as goal

abbrev pub invariant-Demands::holds_in-loop-d : goal.invariant-Demands::holds_in-loop-d
invariant-Demands::holds_in-loop-d l = record {
  count :
      min (l.sum + holds_in (trees (drop l.d-index l.self.list.items))) 4294967295 ≡ min (holds_in (trees l.self.list.items)) 4294967295;
  fits : l.sum ≤ 4294967295;
}
