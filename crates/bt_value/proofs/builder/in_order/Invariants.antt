use Rattle.std.proofs.Common.{◌≡◌, ◌++◌, List, String, Global, map}
use Rattle.bt_value.proofs.Gathered.{named}
use Rattle.bt_value.proofs.builder.in_order.Given as goal

abbrev pub invariant-loop-key : goal.invariant-loop-key
invariant-loop-key g l =
    (goal.iterator-loop-key g).can_next l.key-iterator × (goal.iterator-loop-key g).is_finite l.key-iterator
    × (l.fn.sorted.entries ≡ l.yielded ++ l.key-iterator) × (l.members ≡ map named l.yielded)
