use Rattle.std.proofs.Common.{◌≡◌, drop, ◌≢◌}
use Rattle.bt_demand.specs.View.{trees}
use Rattle.bt_demand.specs.Outcomes.{outcome_of_all, outcome_of_first, outcome_of_both}
use Rattle.bt_demand.specs.declared.outcome.Outcome.TheVariants.{Open}
use Rattle.bt_demand.proofs.demand.+outcome.Given as goal

abbrev pub invariant-Demands::outcome_of_all-loop-d : goal.invariant-Demands::outcome_of_all-loop-d
invariant-Demands::outcome_of_all-loop-d l = record {
  rest : outcome_of_both l.sum (outcome_of_all (trees (drop l.d-index l.self.list.items))) ≡ outcome_of_all (trees l.self.list.items);
  settled : l.sum ≢ Open;
}

abbrev pub invariant-Demands::outcome_of_first-loop-d : goal.invariant-Demands::outcome_of_first-loop-d
invariant-Demands::outcome_of_first-loop-d l =
    outcome_of_first (trees (drop l.d-index l.self.list.items)) ≡ outcome_of_first (trees l.self.list.items)
