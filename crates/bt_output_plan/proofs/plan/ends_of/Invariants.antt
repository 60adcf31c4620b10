use Rattle.std.proofs.Common.{◌≡◌, map, take}
use Rattle.bt_output_plan.proofs.plan.ends_of.Given as goal

abbrev pub invariant-loop-sink : goal.invariant-loop-sink
invariant-loop-sink l = l.ends.list ≡ map (λ e. e.1) (take l.sink-index l.sinks)
