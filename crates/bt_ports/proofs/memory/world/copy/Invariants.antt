use Rattle.std.proofs.Common.{◌≡◌, take}
use Rattle.bt_ports.proofs.memory.world.copy.Given as goal

abbrev pub invariant-loop-number : goal.invariant-loop-number
invariant-loop-number l = l.calls.list ≡ take l.number-index l.numbers
