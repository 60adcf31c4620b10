use Rattle.std.proofs.Common.{◌≡◌, drop}
use Rattle.bt_value.specs.Keys.{find}
use Rattle.bt_output_plan.proofs.sinks.is_known.Given as goal

abbrev pub invariant-loop-sink : goal.invariant-loop-sink
invariant-loop-sink l = find l.name (drop l.sink-index l.sinks) ≡ find l.name l.sinks
