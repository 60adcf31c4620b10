-- Calls of a world, as its list of calls has them.
use Rattle.std.specs.Prelude.{ℕ, true, false, List, Option, Some, None, codes}
use Rattle.bt_ports.specs.declared.parts.What.{What}
use Rattle.bt_ports.specs.declared.parts.What.TheVariants as what
use Rattle.bt_ports.specs.declared.parts.Asked.{Asked}

-- a call that was answered with what it asked for
abbrev pub asked : What → Option (List ℕ) → Option (List ℕ) → Asked
asked kind name end = record { what = kind; name = name; failed = false; end = end }

-- the same call, failed
abbrev pub failed : Asked → Asked
failed call = record call { failed = true }

-- the opening of the standard input
abbrev pub source_opening : Asked
source_opening = asked what.Source (Some (codes "stdin")) None
