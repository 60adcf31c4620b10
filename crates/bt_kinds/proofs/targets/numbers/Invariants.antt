use Rattle.std.proofs.Common.{◌≡◌, drop}
use Rattle.bt_kinds.specs.Targets as spec
use Rattle.bt_kinds.proofs.Gathered.{after}
use Rattle.bt_kinds.proofs.targets.numbers.Given as goal

abbrev pub invariant-loop-item : goal.invariant-loop-item
invariant-loop-item l = spec.numbers l.item-items ≡ after l.got (spec.numbers (drop l.item-index l.item-items))
