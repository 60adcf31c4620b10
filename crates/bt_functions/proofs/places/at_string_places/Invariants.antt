use Rattle.std.proofs.Common.{◌≡◌, ◌++◌, drop, map, string_bytes}
use Rattle.bt_meaning.specs.Lambdas as spec
use Rattle.bt_functions.proofs.places.at_string_places.Given as goal

abbrev pub invariant-loop-key : goal.invariant-loop-key
invariant-loop-key l = spec.at_places l.items (map (λ k. (string_bytes k.0, k.1)) l.keys) ≡ l.got ++ spec.at_places l.items (map (λ k. (string_bytes k.0, k.1)) (drop l.key-index l.keys))
