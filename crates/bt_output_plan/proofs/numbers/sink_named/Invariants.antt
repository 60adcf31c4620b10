use Rattle.std.proofs.Common.{◌≡◌, ◌+◌, drop}
use Rattle.bt_output_plan.specs.Sinks.{place}
use Rattle.bt_output_plan.proofs.numbers.sink_named.Given as goal

abbrev pub invariant-loop-i : goal.invariant-loop-i
invariant-loop-i l = place (drop l.i l.names) l.name + l.i ≡ place l.names l.name
