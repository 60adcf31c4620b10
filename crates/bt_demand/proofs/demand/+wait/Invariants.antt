use Rattle.std.proofs.Common.{◌≡◌, ℕ, ◌<◌, get_or}
use Rattle.bt_demand.specs.View.{tree}
use Rattle.bt_demand.specs.Steps.{wait}
use Rattle.bt_demand.specs.declared.demand.Demand.{Demand}
use Rattle.bt_demand.proofs.demand.+wait.Given as goal

abbrev pub invariant-Demands::wait_each-loop-i : goal.invariant-Demands::wait_each-loop-i
invariant-Demands::wait_each-loop-i l = record {
  unvisited : goal.unvisited-Demands::wait_each-loop-i l;
  done : (k : ℕ) (d : Demand) → k < l.i → tree (get_or l.self.list.items k d) ≡ wait l.number (tree (get_or l.initial.self.list.items k d));
}
