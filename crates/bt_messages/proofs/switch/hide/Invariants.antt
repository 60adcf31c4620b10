use Rattle.std.proofs.Common.{◌≡◌, ◌++◌, take, drop, length}
use Rattle.bt_messages.specs.Steps as spec
use Rattle.bt_messages.specs.Cases as cases
use Rattle.bt_messages.proofs.switch.hide.Given as goal

abbrev pub invariant-loop-i : goal.invariant-loop-i
invariant-loop-i l = (take l.i l.places ++ spec.going (drop l.i l.nexts) (drop l.i l.places) ≡ spec.going l.nexts l.initial.places)
    × (l.others.items ++ cases.others (drop l.i l.nexts) (drop l.i l.places) ≡ cases.others l.nexts l.initial.places)
    × (length l.others.items ≡ l.i)
