use Rattle.std.proofs.Common.{◌≡◌, ◌++◌, drop}
use Rattle.bt_ports.specs.MemWorld.{puts_at}
use Rattle.bt_ports.proofs.memory.world.failing_puts.Given as goal

abbrev pub invariant-loop-sink : goal.invariant-loop-sink
invariant-loop-sink l = l.calls.list ++ puts_at (drop l.sink-index l.sinks) l.name ≡ puts_at l.sinks l.name
