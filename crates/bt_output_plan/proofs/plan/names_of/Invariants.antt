use Rattle.std.proofs.Common.{◌≡◌, map, take}
use Rattle.bt_output_plan.proofs.plan.names_of.Given as goal

abbrev pub invariant-loop-sink : goal.invariant-loop-sink
invariant-loop-sink l = l.names.list ≡ map (λ e. e.0) (take l.sink-index l.sinks)
