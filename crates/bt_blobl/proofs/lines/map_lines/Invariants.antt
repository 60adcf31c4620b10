use Rattle.std.specs.Prelude.{◌≡◌, ◌+◌, ◌-◌, ◌≤◌, None, IsTrue}
use Rattle.bt_intake.specs.Sources.{fault_count, SourcesKept}
use Rattle.bt_ports.specs.World.{StillTells}
use Rattle.bt_blobl.specs.Inside.{Going, PrintsOnly}
use Rattle.bt_blobl.specs.Meaning.{task_of}
use Rattle.bt_blobl.proofs.lines.map_lines.Given as goal

abbrev pub invariant-lines : goal.invariant-lines
invariant-lines g l = record {
  goes : l.intake.stopped ≡ None;
  told : StillTells (g.W.World.tells l.initial.world) (g.W.World.tells l.world) × StillTells (g.W.World.tells_printed l.initial.world) (g.W.World.tells_printed l.world) × StillTells (g.W.World.tells_lines l.initial.world) (g.W.World.tells_lines l.world);
  steady : (g.W.World.file_faults l.world ≡ g.W.World.file_faults l.initial.world) × (g.W.World.open_faults l.world ≡ g.W.World.open_faults l.initial.world);
  prints : g.W.World.print_faults l.world ≡ g.W.World.print_faults l.initial.world;
  only : IsTrue (g.W.World.tells l.world) → PrintsOnly (g.W.World.tale l.initial.world) (g.W.World.tale l.world);
  faults : fault_count g.W.S.Source l.intake.sources.list ≡ fault_count g.W.S.Source l.initial.intake.sources.list;
  kept : SourcesKept g.W.S.Source l.initial.intake.sources.list l.intake.sources.list;
  bound : l.intake.bound ≡ l.initial.intake.bound;
  room : l.n + (l.intake.bound - l.intake.given) ≤ l.initial.intake.bound;
  going : Going g.W.S.Source (task_of l.ready.mapping l.flags) l.n l.failed l.intake (g.W.World.tells l.world) (g.W.World.tells_printed l.world) (g.W.World.tells_lines l.world) (g.W.World.tale l.initial.world) (g.W.World.tale l.world);
}

abbrev pub decreases-lines : goal.decreases-lines
decreases-lines g l = l.intake.bound - l.intake.given
