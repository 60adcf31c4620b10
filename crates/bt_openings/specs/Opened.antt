-- What a run has opened.
use Rattle.std.specs.Prelude.{◌≡◌, ℕ, ◌+◌, List, length, Option, Some, None}
use Rattle.bt_openings.specs.Objects.{FreshAnswerer, FreshSinks, FreshSources, SinksPlaced, SourcesAre, StdinIs}
use Rattle.bt_openings.specs.declared.opening.Opening.{Opening}
use Rattle.bt_ports.specs.World.{Tale}
use Rattle.bt_ports.specs.declared.outside.Answerer as Answerer
use Rattle.bt_ports.specs.declared.outside.Sink as Sink
use Rattle.bt_ports.specs.declared.outside.Source as Source
use Rattle.bt_ports.specs.declared.parts.Named.{Named}

-- the sources are the standard input, or the files of these paths, opened from place n on
abbrev pub AreSources : {S E I : Type 0} → Source.Ghosts S → (n : ℕ) → Tale E I → Option (List (List ℕ)) → List (Named S) → Type 0
AreSources g n a None ns = StdinIs g n a.stdin ns
AreSources g n a (Some paths) ns = SourcesAre g n a.files paths ns

-- What was opened, of a world that told this before: as many sinks as there are names, the answerer and the sources, each by
-- the place of its opening in the list of calls, where so many calls stood before.
pub record IsOpened {S K A E I : Type 0} (gs : Source.Ghosts S) (gk : Sink.Ghosts K) (ga : Answerer.Ghosts A) (names : List (List ℕ)) (files : Option (List (List ℕ))) (a : Tale E I) (o : Opening S K A) : Type 0 where
  pub sinks : SinksPlaced gk (length a.calls + 1) o.sinks.list
  pub answerer : ga.place o.answerer ≡ length a.calls + length names + 1
  pub sources : AreSources gs (length a.calls + length names + 2) a files o.sources.list

-- the sinks, the answerer and the sources are fresh
pub record IsFresh {S K A : Type 0} (gs : Source.Ghosts S) (gk : Sink.Ghosts K) (ga : Answerer.Ghosts A) (names : List (List ℕ)) (o : Opening S K A) : Type 0 where
  pub many : length o.sinks.list ≡ length names
  pub sinks : FreshSinks gk o.sinks.list
  pub answerer : FreshAnswerer ga o.answerer
  pub sources : FreshSources gs o.sources.list
