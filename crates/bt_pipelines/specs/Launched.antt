-- What a run does to the world, from its openings to its report.
use Rattle.std.specs.Prelude.{◌≡◌, ℕ, ◌++◌, ◌∷◌, ◌⊎◌, ◌≤◌, Bool, IsTrue, List, [], Option, None, Some, IsSome, IfOk, Result, Ok, Err}
use Rattle.bt_commands.specs.Lines.{no_memory_line}
use Rattle.bt_commands.specs.Outside.{StillTold}
use Rattle.bt_commands.specs.declared.limits.TheConstants.{INPUT_BOUND}
use Rattle.bt_demand.specs.declared.derive.Derive as Derive
use Rattle.bt_duties.specs.declared.report.Report.{Report}
use Rattle.bt_pipelines.specs.Finished.{ends_of}
use Rattle.bt_pipelines.specs.declared.launch.Cuts.{Cuts}
use Rattle.bt_floor.specs.declared.making.Parts.{Parts}
use Rattle.bt_intake.specs.Answers.{Standing}
use Rattle.bt_intake.specs.View.{LineView}
use Rattle.bt_openings.specs.Opened.{IsFresh, IsOpened}
use Rattle.bt_openings.specs.Openings.{RoseWhere, StoppedAt}
use Rattle.bt_openings.specs.Plan.{openings}
use Rattle.bt_openings.specs.declared.opening.Opening.{Opening}
use Rattle.bt_openings.specs.declared.stop.Stop.{Stop}
use Rattle.bt_openings.specs.declared.stop.Stop.TheVariants as stop
use Rattle.bt_ports.specs.Contents.{Contents}
use Rattle.bt_ports.specs.World.{Tale, once_more}
use Rattle.bt_ports.specs.declared.outside.Answerer as Answerer
use Rattle.bt_ports.specs.declared.outside.Clock as Clock
use Rattle.bt_ports.specs.declared.outside.Intake as Intake
use Rattle.bt_ports.specs.declared.outside.Sink as Sink
use Rattle.bt_ports.specs.declared.outside.Source as Source
use Rattle.bt_ports.specs.declared.parts.Asked.{Asked}
use Rattle.bt_ports.specs.declared.parts.Ends.{Ends}
use Rattle.bt_ports.specs.declared.parts.Named.{Named}
use Rattle.bt_ports.specs.declared.world.World as World
use Rattle.bt_reports.specs.Report.{report_lines}
use Rattle.bt_runner.specs.Ran.{HasRun}
use Rattle.bt_runner.specs.declared.run.Ran.{Ran}

-- All openings were made and a clock was taken, and then memory was wanting for the run. A line says so.
pub record WantedLate {E I : Type 0} (calls : List Asked) (lines : Bool) (a b : Tale E I) : Type 0 where
  pub only : b ≡ record a { calls = a.calls ++ calls; stdin = b.stdin; clock = []; clocks = once_more a.clocks; lines = b.lines }
  pub said : IsTrue lines → b.lines ≡ a.lines ++ no_memory_line ∷ []

-- a run stopped at an opening, or for want of memory behind all of them
abbrev pub HaltTells : {E I : Type 0} → Stop → List Asked → Bool → Tale E I → Tale E I → Type 0
HaltTells stop.Failed calls lines a b = StoppedAt stop.Failed calls lines a b
HaltTells stop.NoMemory calls lines a b = StoppedAt stop.NoMemory calls lines a b ⊎ WantedLate calls lines a b

-- an intake of these sources, of which nothing was taken: its lines end with the delimiter, and its batches by the policy
abbrev pub intake_over : {S : Type 0} → Cuts → Contents (Named S) → LineView S
intake_over c sources = record { sources = sources; delimiter = c.delimiter; policy = c.policy; bound = INPUT_BOUND; taken = 0; given = 0; items = 0; stopped = None }

-- A run that began is over. What was opened was made of these calls, each by its place; the run is one over these objects, the lines
-- of the sources and the one clock that was taken; all was kept, once; and its lines were said.
pub record RanTells {S K A C D : Type 0} (gs : Source.Ghosts S) (gi : Intake.Ghosts (LineView S)) (gk : Sink.Ghosts K) (ga : Answerer.Ghosts A) (gc : Clock.Ghosts C) (gd : Derive.Ghosts D)
    (names ends : List (List ℕ)) (answers : Option (List ℕ)) (files : Option (List (List ℕ))) (cuts : Cuts) (plan : D) (report : Report) (lines : Bool) (a b : Tale (Ends S K A C) (Contents (Named S))) : Type 0 where
  pub opening : Opening S K A
  pub opened : IsOpened gs gk ga names files a opening
  pub fresh : IsFresh gs gk ga names opening
  pub clock : C
  pub readings : IsTrue (gc.tells clock) → gc.readings clock ≡ a.clock
  pub ran : Ran (LineView S) K A C
  pub is : HasRun gi gk ga gc gd plan (record { intake = intake_over cuts opening.sources; sinks = opening.sinks; answerer = opening.answerer; clock = clock }) ran
  pub standing : Standing gs ran.parts.intake
  pub reported : ran.report ≡ report
  pub only : b ≡ record a { calls = a.calls ++ openings names ends answers files; stdin = b.stdin; clock = []; clocks = once_more a.clocks; keeps = once_more a.keeps; kept = Some (ends_of ran); lines = b.lines }
  pub said : IsTrue lines → b.lines ≡ a.lines ++ report_lines INPUT_BOUND report

-- what the world tells of a run from a to b
abbrev pub LaunchTells : {S K A C D : Type 0} → Source.Ghosts S → Intake.Ghosts (LineView S) → Sink.Ghosts K → Answerer.Ghosts A → Clock.Ghosts C → Derive.Ghosts D
    → (names ends : List (List ℕ)) → Option (List ℕ) → Option (List (List ℕ)) → Cuts → D → Result Report Stop → Bool → Tale (Ends S K A C) (Contents (Named S)) → Tale (Ends S K A C) (Contents (Named S)) → Type 0
LaunchTells gs gi gk ga gc gd names ends answers files cuts plan (Ok report) lines a b = RanTells gs gi gk ga gc gd names ends answers files cuts plan report lines a b
LaunchTells gs gi gk ga gc gd names ends answers files cuts plan (Err s) lines a b = HaltTells s (openings names ends answers files) lines a b

-- a run from a to b
pub record Launches {W S K A C D : Type 0} (g : World.Ghosts W S K A C) (gs : Source.Ghosts S) (gi : Intake.Ghosts (LineView S)) (gk : Sink.Ghosts K) (ga : Answerer.Ghosts A) (gc : Clock.Ghosts C) (gd : Derive.Ghosts D)
    (names ends : List (List ℕ)) (answers : Option (List ℕ)) (files : Option (List (List ℕ))) (cuts : Cuts) (plan : D) (result : Result Report Stop) (a b : W) : Type 0 where
  pub told : StillTold g a b
  pub read : g.file_faults b ≡ g.file_faults a
  pub prints : g.print_faults b ≡ g.print_faults a
  pub counted : g.open_faults a ≤ g.open_faults b
  pub rose : RoseWhere result (g.open_faults a) (g.open_faults b)
  pub tells : IsTrue (g.tells b) → LaunchTells gs gi gk ga gc gd names ends answers files cuts plan result (g.tells_lines b) (g.tale a) (g.tale b)
  pub ended : IfOk result (λ report. IsSome report.ending)
