use Rattle.std.proofs.Common.{◌≡◌, ◌++◌, take, drop, map}
use Rattle.bt_messages.specs.Steps as spec
use Rattle.bt_messages.proofs.switch.go_on.Given as goal

abbrev pub invariant-loop-next : goal.invariant-loop-next
invariant-loop-next l = take l.next-index l.nexts ++ map (spec.next_after l.fallthrough) (drop l.next-index l.nexts) ≡ map (spec.next_after l.fallthrough) l.initial.nexts
