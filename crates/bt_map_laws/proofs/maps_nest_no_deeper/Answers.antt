use Rattle.bt_meaning.specs.Mapped.{maps_of}
use Rattle.bt_map_laws.proofs.Linted.{acyclic}
use Rattle.bt_map_laws.proofs.Nested.{no_deeper}
use Rattle.bt_map_laws.proofs.maps_nest_no_deeper.Goals as goal

pub returns : goal.returns
returns c = λ m how no ns h. no_deeper (maps_of m) (acyclic m how no) ns h
