use Rattle.std.proofs.Common.{◌≤◌, length, take}
use Rattle.bt_demand.specs.View.{trees}
use Rattle.bt_demand.specs.WellFormed.{leaves_in}
use Rattle.bt_routing.specs.Filled.{Served}
use Rattle.bt_routing.proofs.filling.+fill.Given as goal

abbrev pub invariant-fill_each-loop-i : goal.invariant-fill_each-loop-i
invariant-fill_each-loop-i l = record {
  unvisited : goal.unvisited-fill_each-loop-i l;
  served : length (leaves_in (trees l.initial.ds.list.items)) ≤ l.initial.supply.left → Served l.initial.supply l.supply (trees (take l.i l.initial.ds.list.items)) (trees (take l.i l.ds.list.items));
}
