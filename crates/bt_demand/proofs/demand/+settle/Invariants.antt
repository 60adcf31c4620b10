use Rattle.std.proofs.Common.{◌≡◌, ℕ, ◌<◌, get_or}
use Rattle.bt_demand.specs.View.{tree}
use Rattle.bt_demand.specs.Steps.{settle, state_for}
use Rattle.bt_demand.specs.declared.demand.Demand.{Demand}
use Rattle.bt_demand.proofs.demand.+settle.Given as goal

abbrev pub invariant-Demands::settle_each-loop-i : goal.invariant-Demands::settle_each-loop-i
invariant-Demands::settle_each-loop-i l = record {
  unvisited : goal.unvisited-Demands::settle_each-loop-i l;
  done : (k : ℕ) (d : Demand) → k < l.i → tree (get_or l.self.list.items k d) ≡ settle l.number (state_for l.accepted) (tree (get_or l.initial.self.list.items k d));
}
