-- What a world and the objects that it opens tell, as one.
use Rattle.std.specs.Prelude.{◌≡◌, ℕ, List, ◌++◌, IsTrue}
use Rattle.bt_ports.specs.World.{StillTells}
use Rattle.bt_ports.specs.declared.outside.Source as Source
use Rattle.bt_ports.specs.declared.outside.Sink as Sink
use Rattle.bt_ports.specs.declared.outside.Answerer as Answerer
use Rattle.bt_ports.specs.declared.outside.Clock as Clock
use Rattle.bt_ports.specs.declared.world.World as World

pub record Outside (W S K A C : Type 0) : Type 1 where
  pub world : World.Ghosts W S K A C
  pub source : Source.Ghosts S
  pub sink : Sink.Ghosts K
  pub answerer : Answerer.Ghosts A
  pub clock : Clock.Ghosts C

abbrev pub over : {W S K A C : Type 0} → World.Ghosts W S K A C → Source.Ghosts S → Sink.Ghosts K → Answerer.Ghosts A → Clock.Ghosts C → Outside W S K A C
over w s k a c = record { world = w; source = s; sink = k; answerer = a; clock = c }

-- what is told at the end was told all along: of the world, of what was printed, and of the lines of `err`
abbrev pub StillTold : {W S K A C : Type 0} → World.Ghosts W S K A C → W → W → Type 0
StillTold g a b = StillTells (g.tells a) (g.tells b) × StillTells (g.tells_printed a) (g.tells_printed b) × StillTells (g.tells_lines a) (g.tells_lines b)

-- none of the world's counts of faults changed
abbrev pub SameCounts : {W S K A C : Type 0} → World.Ghosts W S K A C → W → W → Type 0
SameCounts g a b = (g.file_faults b ≡ g.file_faults a) × (g.open_faults b ≡ g.open_faults a) × (g.print_faults b ≡ g.print_faults a)

-- these lines were said on `err`, and nothing else changed
pub record SaysOnly {W S K A C : Type 0} (g : World.Ghosts W S K A C) (lines : List (List ℕ)) (a b : W) : Type 0 where
  pub told : StillTold g a b
  pub counts : SameCounts g a b
  pub only : IsTrue (g.tells b) → g.tale b ≡ record (g.tale a) { lines = (g.tale b).lines }
  pub said : IsTrue (g.tells_lines b) → (g.tale b).lines ≡ (g.tale a).lines ++ lines
