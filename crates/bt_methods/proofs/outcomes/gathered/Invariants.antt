use Rattle.std.proofs.Common.{◌≡◌}
use Rattle.std.specs.Vec.Iter.{into_iter_items}
use Rattle.bt_methods.specs.Outcomes as spec
use Rattle.bt_methods.proofs.Gathering.{after}
use Rattle.bt_methods.proofs.outcomes.gathered.Given as goal

abbrev pub invariant-loop-outcome : goal.invariant-loop-outcome
invariant-loop-outcome l =
    spec.gathered l.fn.outcomes.items
    ≡ after l.all l.values (spec.first_failure (into_iter_items l.outcome-iterator)) (spec.all_values (into_iter_items l.outcome-iterator))
