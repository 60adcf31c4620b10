use Rattle.std.proofs.Common.{◌≡◌}
use Rattle.std.specs.Vec.Iter.{into_iter_items}
use Rattle.bt_kinds.specs.Targets as spec
use Rattle.bt_kinds.proofs.Gathered.{after}
use Rattle.bt_kinds.proofs.targets.strings.Given as goal

abbrev pub invariant-loop-item : goal.invariant-loop-item
invariant-loop-item l = spec.strings l.fn.items.items ≡ after l.got (spec.strings (into_iter_items l.item-iterator))
