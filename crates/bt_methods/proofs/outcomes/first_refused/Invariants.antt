use Rattle.std.proofs.Common.{◌≡◌, drop}
use Rattle.bt_methods.specs.Outcomes as spec
use Rattle.bt_methods.proofs.outcomes.first_refused.Given as goal

abbrev pub invariant-loop-outcome : goal.invariant-loop-outcome
invariant-loop-outcome l = spec.first_refused l.class l.outcomes ≡ spec.first_refused l.class (drop l.outcome-index l.outcomes)
