use Rattle.std.proofs.Common.{◌≡◌, ℕ, ◌+◌, ◌≤◌, length, take, Ok, IsTrue}
use Rattle.bt_openings.specs.Objects.{FreshSinks, SinksPlaced}
use Rattle.bt_openings.specs.Openings.{Opens}
use Rattle.bt_openings.specs.Plan.{sink_openings}
use Rattle.bt_openings.proofs.sinks.open_sinks.Given as goal

abbrev pub invariant-sinks : goal.invariant-sinks
invariant-sinks g l = record {
  many : length l.sinks.list ≡ l.i;
  room : length l.names ≤ l.sinks.spare + l.i;
  opens : Opens {T = ℕ} g.W.World (sink_openings (take l.i l.names) (take l.i l.ends)) (Ok 0) l.initial.world l.world;
  placed : IsTrue (g.W.World.tells l.world) → SinksPlaced g.W.K.Sink (length (g.W.World.tale l.initial.world).calls + 1) l.sinks.list;
  stdin : IsTrue (g.W.World.tells l.world) → (g.W.World.tale l.world).stdin ≡ (g.W.World.tale l.initial.world).stdin;
  fresh : FreshSinks g.W.K.Sink l.sinks.list;
}
