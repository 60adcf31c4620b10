use Rattle.std.proofs.Common.{◌≡◌, ◌≤◌, ◌++◌, take, drop}
use Rattle.bt_messages.specs.Steps as spec
use Rattle.bt_messages.proofs.branch.bring_all.Given as goal

abbrev pub invariant-loop-i : goal.invariant-loop-i
invariant-loop-i l = (l.index ≤ l.i)
    × (take l.i l.places ++ spec.all_joined l.back l.size l.moment l.index (drop l.i l.waits) (drop l.i l.copies) (drop l.i l.places) ≡ spec.all_joined l.back l.size l.moment 0 l.waits l.initial.copies l.initial.places)
