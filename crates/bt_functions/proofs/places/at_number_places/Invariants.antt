use Rattle.std.proofs.Common.{◌≡◌, ◌++◌, drop, map, string_bytes}
use Rattle.bt_meaning.specs.Lambdas as spec
use Rattle.bt_functions.proofs.places.at_number_places.Given as goal

abbrev pub invariant-loop-key : goal.invariant-loop-key
invariant-loop-key l = spec.at_places l.items l.keys ≡ l.got ++ spec.at_places l.items (drop l.key-index l.keys)
