-- What the objects are that were opened.
use Rattle.std.specs.Prelude.{◌≡◌, ℕ, ◌+◌, ◌<◌, IsTrue, false, List, [], ◌∷◌, length, get_or, Option, Some, None}
use Rattle.bt_ports.specs.World.{is_stdin, source_bytes}
use Rattle.bt_ports.specs.declared.outside.Answerer as Answerer
use Rattle.bt_ports.specs.declared.outside.Sink as Sink
use Rattle.bt_ports.specs.declared.outside.Source as Source
use Rattle.bt_ports.specs.declared.parts.Named.{Named}

-- a sink was opened at this place of the list of calls: it counted no fault and has no record
pub record FreshSink {K : Type 0} (g : Sink.Ghosts K) (k : K) : Type 0 where
  pub faults : g.faults k ≡ 0
  pub empty : IsTrue (g.tells k) → (g.accepted k ≡ []) × (g.refused k ≡ [])

-- each of the sinks is fresh
abbrev pub FreshSinks : {K : Type 0} → Sink.Ghosts K → List K → Type 0
FreshSinks {K} g ks = (k : ℕ) (d : K) → k < length ks → FreshSink g (get_or ks k d)

-- their openings stand in the list of calls one behind the other, from this place on
abbrev pub SinksPlaced : {K : Type 0} → Sink.Ghosts K → ℕ → List K → Type 0
SinksPlaced {K} g n ks = (k : ℕ) (d : K) → k < length ks → g.place (get_or ks k d) ≡ n + k

pub record FreshAnswerer {A : Type 0} (g : Answerer.Ghosts A) (a : A) : Type 0 where
  pub faults : g.faults a ≡ 0
  pub unasked : IsTrue (g.tells a) → g.calls a ≡ []

-- a source that was opened: it counted no fault, and no byte of it was taken
pub record FreshSource {S : Type 0} (g : Source.Ghosts S) (s : S) : Type 0 where
  pub faults : g.faults s ≡ 0
  pub untaken : IsTrue (g.tells s) → g.taken s ≡ 0

-- each of the sources is fresh
abbrev pub FreshSources : {S : Type 0} → Source.Ghosts S → List (Named S) → Type 0
FreshSources {S} g ns = (k : ℕ) (d : Named S) → k < length ns → FreshSource g (get_or ns k d).source

-- The bytes of a source of that name, where it tells: the standard input where it has that name, and else those of the file.
abbrev pub HasBytes : {S : Type 0} → Source.Ghosts S → (files : List ℕ → Option (List ℕ)) → (stdin name : List ℕ) → S → Type 0
HasBytes g files stdin name s = IsTrue (g.tells s) → source_bytes files stdin name ≡ Some (g.bytes s)

-- The one source is the standard input, opened at that place, with these bytes. It has no path.
pub record StdinIs {S : Type 0} (g : Source.Ghosts S) (n : ℕ) (stdin : List ℕ) (ns : List (Named S)) : Type 0 where
  pub source : S
  pub only : ns ≡ record { path = None; source = source } ∷ []
  pub place : g.place source ≡ n
  pub fresh : FreshSource g source
  pub bytes : IsTrue (g.tells source) → g.bytes source ≡ stdin

-- A source has that path, was opened at that place, and has the bytes of the file of its path, where that isn't the name of
-- the standard input.
pub record IsFile {S : Type 0} (g : Source.Ghosts S) (n : ℕ) (files : List ℕ → Option (List ℕ)) (path : List ℕ) (x : Named S) : Type 0 where
  pub named : x.path ≡ Some path
  pub place : g.place x.source ≡ n
  pub fresh : FreshSource g x.source
  pub bytes : is_stdin path ≡ false → IsTrue (g.tells x.source) → files path ≡ Some (g.bytes x.source)

-- the sources are the files of these paths, opened in order from that place on
abbrev pub SourcesAre : {S : Type 0} → Source.Ghosts S → ℕ → (List ℕ → Option (List ℕ)) → List (List ℕ) → List (Named S) → Type 0
SourcesAre {S} g n files paths ns = (k : ℕ) (d : Named S) → k < length ns → IsFile g (n + k) files (get_or paths k []) (get_or ns k d)
