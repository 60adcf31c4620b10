use Rattle.std.proofs.Common.{◌≡◌, ℕ, ◌+◌, ◌≤◌, length, map, take, Ok, IsTrue}
use Rattle.bt_openings.specs.Objects.{FreshSources, SourcesAre}
use Rattle.bt_openings.specs.Openings.{Opens}
use Rattle.bt_openings.specs.Plan.{opening_of}
use Rattle.bt_openings.proofs.sources.open_files.Given as goal

abbrev pub invariant-files : goal.invariant-files
invariant-files g l = record {
  many : length l.sources.list ≡ l.i;
  room : length l.paths ≤ l.sources.spare + l.i;
  opens : Opens {T = ℕ} g.W.World (map opening_of (take l.i l.paths)) (Ok 0) l.initial.world l.world;
  fresh : FreshSources g.W.S.Source l.sources.list;
  are : IsTrue (g.W.World.tells l.world) → SourcesAre g.W.S.Source (length (g.W.World.tale l.initial.world).calls + 1) (g.W.World.tale l.initial.world).files l.paths l.sources.list;
}
