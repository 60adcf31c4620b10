use Rattle.std.proofs.Common.{◌≡◌, drop}
use Rattle.bt_meaning.specs.Maps as spec
use Rattle.bt_queries.proofs.maps.map_of.Given as goal

abbrev pub invariant-loop-s : goal.invariant-loop-s
invariant-loop-s l = spec.map_of l.name l.maps ≡ spec.map_of l.name (drop l.s-index l.maps)
