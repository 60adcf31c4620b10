-- What stands within such a run: one of a plan over lines, before and behind the openings. Only proofs use it.
use Rattle.std.specs.Prelude.{◌≡◌, ℕ, ◌≤◌, ◌∷◌, ◌⊎◌, Bool, IsTrue, IsSome, IfOk, List, [], map, Option, Result, Ok, Err}
use Rattle.bt_commands.specs.Lines.{no_memory_line}
use Rattle.bt_commands.specs.Outside.{Outside, StillTold}
use Rattle.bt_duties.specs.declared.report.Report.{Report}
use Rattle.bt_openings.specs.Openings.{FailedAt}
use Rattle.bt_openings.specs.declared.stop.Stop.{Stop}
use Rattle.bt_openings.specs.declared.stop.Stop.TheVariants as stops
use Rattle.bt_pipelines.specs.Launched.{HaltTells, RanTells}
use Rattle.bt_plan.specs.declared.fault.CompileFault.{CompileFault}
use Rattle.bt_plan.specs.declared.fault.CompileFault.TheVariants as fault
use Rattle.bt_ports.specs.Contents.{Contents}
use Rattle.bt_ports.specs.World.{Tale}
use Rattle.bt_ports.specs.declared.parts.Ends.{Ends}
use Rattle.bt_ports.specs.declared.parts.Named.{Named}
use Rattle.bt_routing.specs.declared.plan.Plan.{Plan}
use Rattle.bt_schema.specs.Lines.{line}
use Rattle.bt_schema.specs.declared.lints.Lint.{Lint}
use Rattle.bt_configured.specs.Configured.{RoseWhere, Said, as_intake, as_plan, openings_of}
use Rattle.bt_configured.specs.Lines.{files_of}
use Rattle.bt_configured.specs.declared.halted.Halted.{Halted}
use Rattle.bt_configured.specs.declared.halted.Halted.TheVariants as halted
use Rattle.bt_configured.specs.declared.lines.Lines.{Lines}

-- what the world tells of a run of a plan over lines
abbrev pub RunTells : {W S K A C : Type 0} → Outside W S K A C → Plan → Lines → Option (List ℕ) → Result Report Halted → Bool → Tale (Ends S K A C) (Contents (Named S)) → Tale (Ends S K A C) (Contents (Named S)) → Type 0
RunTells o p l answers (Ok report) lines a b = RanTells o.source (as_intake o.source) o.sink o.answerer o.clock as_plan p.sinks.list p.ends.list answers (files_of l) l.cuts p report lines a b
RunTells o p l answers (Err (halted.Lints ls)) lines a b = ⊥
RunTells o p l answers (Err halted.NotBuilt) lines a b = ⊥
RunTells o p l answers (Err halted.Failed) lines a b = FailedAt (openings_of p l answers) lines a b
RunTells o p l answers (Err halted.NoMemory) lines a b = Said (no_memory_line ∷ []) lines a b ⊎ HaltTells stops.NoMemory (openings_of p l answers) lines a b

-- such a run halted for no lint and no input
abbrev pub OpensAtLeast : Result Report Halted → Type 0
OpensAtLeast (Ok report) = Unit {0}
OpensAtLeast (Err (halted.Lints ls)) = ⊥
OpensAtLeast (Err halted.NotBuilt) = ⊥
OpensAtLeast (Err halted.Failed) = Unit {0}
OpensAtLeast (Err halted.NoMemory) = Unit {0}

pub record Runs {W S K A C : Type 0} (o : Outside W S K A C) (p : Plan) (l : Lines) (answers : Option (List ℕ)) (result : Result Report Halted) (a b : W) : Type 0 where
  pub told : StillTold o.world a b
  pub read : o.world.file_faults b ≡ o.world.file_faults a
  pub prints : o.world.print_faults b ≡ o.world.print_faults a
  pub counted : o.world.open_faults a ≤ o.world.open_faults b
  pub rose : RoseWhere result (o.world.open_faults a) (o.world.open_faults b)
  pub opens : OpensAtLeast result
  pub ended : IfOk result (λ report. IsSome report.ending)
  pub tells : IsTrue (o.world.tells b) → RunTells o p l answers result (o.world.tells_lines b) (o.world.tale a) (o.world.tale b)

-- why a configuration was refused, or want of memory, and what was said of it
abbrev pub Refuses : List Lint → Halted → Type 0
Refuses ls (halted.Lints ms) = ms ≡ ls
Refuses ls halted.NotBuilt = ⊥
Refuses ls halted.Failed = ⊥
Refuses ls halted.NoMemory = Unit {0}

abbrev pub refused_lines : Halted → List (List ℕ)
refused_lines (halted.Lints ls) = map line ls
refused_lines halted.NotBuilt = []
refused_lines halted.Failed = []
refused_lines halted.NoMemory = no_memory_line ∷ []

-- a run that stopped at its openings halted so
abbrev pub halted_by : Stop → Halted
halted_by stops.Failed = halted.Failed
halted_by stops.NoMemory = halted.NoMemory

-- what kept a configuration from having a plan is what kept its run from beginning
abbrev pub IsHaltOf : CompileFault → Halted → Type 0
IsHaltOf (fault.Lints ls) h = Refuses ls h
IsHaltOf fault.NoMemory h = h ≡ halted.NoMemory
