use Rattle.std.proofs.Common.{◌≡◌, ◌++◌, map, string_bytes}
use Rattle.std.specs.Vec.Iter.{into_iter_items}
use Rattle.bt_functions.proofs.places.into_strings.Given as goal

abbrev pub invariant-loop-key : goal.invariant-loop-key
invariant-loop-key l = l.fn.keys.items ≡ map (λ k. (string_bytes k.0, k.1)) l.got.items ++ into_iter_items l.key-iterator
