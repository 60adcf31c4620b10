use Rattle.std.proofs.Common.{◌≡◌, ◌++◌, take, drop}
use Rattle.bt_messages.specs.Steps as spec
use Rattle.bt_messages.proofs.switch.show.Given as goal

abbrev pub invariant-loop-i : goal.invariant-loop-i
invariant-loop-i l = take l.i l.places ++ spec.put_back (drop l.i l.nexts) (drop l.i l.places) (drop l.i l.others) ≡ spec.put_back l.nexts l.initial.places l.initial.others
