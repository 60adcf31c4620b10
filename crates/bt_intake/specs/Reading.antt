-- What one read makes of a source, and of the list that it stands in.
use Rattle.std.specs.Prelude.{◌≡◌, ℕ, List, IsTrue, Some, slice_get, slice_set}
use Rattle.bt_ports.specs.declared.parts.Named.{Named}
use Rattle.bt_ports.specs.declared.parts.Read.{Read}
use Rattle.bt_ports.specs.declared.outside.Source as Source
use Rattle.bt_ports.specs.Source.{ReadFits, ReadFaults, ReadTakes}
use Rattle.bt_intake.specs.Sources.{SourceKept}

-- one read of a source into a buffer of `size` bytes, which has `buffer` then
pub record Reads {S : Type 0} (g : Source.Ghosts S) (r : Read) (old new : Named S) (size : ℕ) (buffer : List ℕ) : Type 0 where
  pub fits : ReadFits r size
  pub kept : SourceKept g old new
  pub failed : ReadFaults r (g.faults old.source) (g.faults new.source)
  pub takes : IsTrue (g.tells new.source) → ReadTakes r (g.bytes old.source) (g.taken old.source) (g.taken new.source) buffer

-- one read of the source at place i of a list; the others stay as they are
pub record ReadsAt {S : Type 0} (g : Source.Ghosts S) (r : Read) (ns ms : List (Named S)) (i size : ℕ) (buffer : List ℕ) : Type 0 where
  pub old : Named S
  pub new : Named S
  pub was : slice_get ns i ≡ Some old
  pub is : ms ≡ slice_set ns i new
  pub reads : Reads g r old new size buffer
