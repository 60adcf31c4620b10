use Rattle.std.proofs.Common.{◌≡◌, ◌+◌, drop, length}
use Rattle.bt_demand.specs.View.{trees}
use Rattle.bt_demand.specs.WellFormed.{leaves_in}
use Rattle.bt_routing.proofs.filling.+records.Given as goal

abbrev pub invariant-records_in-loop-d : goal.invariant-records_in-loop-d
invariant-records_in-loop-d l = l.count + length (leaves_in (trees (drop l.d-index l.ds.list.items))) ≡ length (leaves_in (trees l.ds.list.items))
