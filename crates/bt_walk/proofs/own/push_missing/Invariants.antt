use Rattle.std.proofs.Common.{◌≡◌, ◌++◌, drop, map}
use Rattle.bt_walk.specs.Found.{at_pointer}
use Rattle.bt_walk.specs.Own.{missing}
use Rattle.bt_walk.specs.Walk.{met}
use Rattle.bt_walk.proofs.own.push_missing.Given as goal

abbrev pub invariant-loop-name : goal.invariant-loop-name
invariant-loop-name l = l.out ++ at_pointer l.at (missing (map (λ s. s.now) (drop l.name-index l.names)) (met l.fields)) ≡ l.initial.out ++ at_pointer l.at (missing (map (λ s. s.now) l.names) (met l.fields))
