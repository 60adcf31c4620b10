use Rattle.std.proofs.Common.{◌≡◌, ℕ, ◌<◌, get_or}
use Rattle.bt_demand.specs.View.{tree}
use Rattle.bt_demand.specs.Steps.{release}
use Rattle.bt_demand.specs.declared.demand.Demand.{Demand}
use Rattle.bt_demand.proofs.demand.+release.Given as goal

abbrev pub invariant-Demands::release_each-loop-i : goal.invariant-Demands::release_each-loop-i
invariant-Demands::release_each-loop-i l = record {
  unvisited : goal.unvisited-Demands::release_each-loop-i l;
  done : (k : ℕ) (d : Demand) → k < l.i → tree (get_or l.self.list.items k d) ≡ release l.number (tree (get_or l.initial.self.list.items k d));
}
