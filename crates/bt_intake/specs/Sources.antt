-- What some sources tell together, and what one call leaves of them.
use Rattle.std.specs.Prelude.{◌≡◌, ℕ, ◌+◌, ◌≤◌, List, [], ◌∷◌, Bool, IsTrue, ◌⊎◌, length, map, Option, Some, slice_get}
use Rattle.std.specs.List.{list_all, AllZip}
use Rattle.bt_ports.specs.Faults.{Rose}
use Rattle.bt_ports.specs.declared.parts.Named.{Named}
use Rattle.bt_ports.specs.declared.outside.Source as Source
use Rattle.bt_lines.specs.Lines.{SourceBytes}

-- whether each of them tells
abbrev pub all_tell : {S : Type 0} → Source.Ghosts S → List (Named S) → Bool
all_tell g ns = list_all (λ n. g.tells n.source) ns

-- the bytes that each of them tells
abbrev pub told : {S : Type 0} → Source.Ghosts S → List (Named S) → List SourceBytes
told g [] = []
told g (n ∷ ns) = record { path = n.path; bytes = g.bytes n.source } ∷ told g ns

-- how many bytes were taken of them
abbrev pub taken_count : {S : Type 0} → Source.Ghosts S → List (Named S) → ℕ
taken_count g [] = 0
taken_count g (n ∷ ns) = g.taken n.source + taken_count g ns

-- how many faults they counted together
abbrev pub fault_count : {S : Type 0} → Source.Ghosts S → List (Named S) → ℕ
fault_count g [] = 0
fault_count g (n ∷ ns) = g.faults n.source + fault_count g ns

-- the path and the place of its opening of each of them
abbrev pub openings : {S : Type 0} → Source.Ghosts S → List (Named S) → List (Option (List ℕ) × ℕ)
openings g ns = map (λ n. (n.path, g.place n.source)) ns

-- the bytes that each of them tells, without its path
abbrev pub inputs : {S : Type 0} → Source.Ghosts S → List (Named S) → List (List ℕ)
inputs g ns = map (λ n. g.bytes n.source) ns

-- what stays of a source: its path, its place in the list of calls and its bytes. Its count of faults doesn't fall.
pub record SourceKept {S : Type 0} (g : Source.Ghosts S) (old new : Named S) : Type 0 where
  pub path : new.path ≡ old.path
  pub placed : g.place new.source ≡ g.place old.source
  pub counted : g.faults old.source ≤ g.faults new.source
  pub told : IsTrue (g.tells new.source) → IsTrue (g.tells old.source)
  pub same : IsTrue (g.tells new.source) → g.bytes new.source ≡ g.bytes old.source

-- the same of each of them; none comes or goes
abbrev pub SourcesKept : {S : Type 0} → Source.Ghosts S → List (Named S) → List (Named S) → Type 0
SourcesKept g old new = AllZip (SourceKept g) old new

-- the count of faults of one of them rose
abbrev pub OneRose : {S : Type 0} → Source.Ghosts S → List (Named S) → List (Named S) → Type 0
OneRose g [] new = ⊥
OneRose g (n ∷ ns) [] = ⊥
OneRose g (n ∷ ns) (m ∷ ms) = Rose (g.faults n.source) (g.faults m.source) ⊎ OneRose g ns ms

-- no byte is left of the source at place i
pub record Ended {S : Type 0} (g : Source.Ghosts S) (ns : List (Named S)) (i : ℕ) : Type 0 where
  pub at_hand : Named S
  pub found : slice_get ns i ≡ Some at_hand
  pub none_left : length (g.bytes at_hand.source) ≤ g.taken at_hand.source
