-- What becomes of a run that began.
use Rattle.std.specs.Prelude.{◌≡◌, ℕ, ◌++◌, IsTrue, Some}
use Rattle.bt_commands.specs.Outside.{SameCounts, StillTold}
use Rattle.bt_demand.specs.declared.derive.Derive as Derive
use Rattle.bt_duties.specs.declared.report.Report.{Report}
use Rattle.bt_floor.specs.declared.making.Parts.{Parts}
use Rattle.bt_intake.specs.Answers.{Standing}
use Rattle.bt_intake.specs.View.{LineView}
use Rattle.bt_ports.specs.World.{once_more}
use Rattle.bt_ports.specs.declared.outside.Answerer as Answerer
use Rattle.bt_ports.specs.declared.outside.Clock as Clock
use Rattle.bt_ports.specs.declared.outside.Intake as Intake
use Rattle.bt_ports.specs.declared.outside.Sink as Sink
use Rattle.bt_ports.specs.declared.outside.Source as Source
use Rattle.bt_ports.specs.declared.parts.Ends.{Ends}
use Rattle.bt_ports.specs.declared.world.World as World
use Rattle.bt_reports.specs.Report.{report_lines}
use Rattle.bt_runner.specs.Ran.{HasRun}
use Rattle.bt_runner.specs.declared.run.Ran.{Ran}

-- what is handed to `keep` after a run: its sources, its sinks, its answerer and its clock
abbrev pub ends_of : {S K A C : Type 0} → Ran (LineView S) K A C → Ends S K A C
ends_of r = record { sources = r.parts.intake.sources; sinks = r.parts.sinks; answerer = r.parts.answerer; clock = r.parts.clock }

-- A run of this plan over these parts is over. All that it was made of was kept, once, with the intake as it stands at its end, and
-- the lines of its report were said; of all else that the world tells nothing changed.
pub record Finishes {W S K A C D : Type 0} (g : World.Ghosts W S K A C) (gs : Source.Ghosts S) (gi : Intake.Ghosts (LineView S)) (gk : Sink.Ghosts K) (ga : Answerer.Ghosts A) (gc : Clock.Ghosts C) (gd : Derive.Ghosts D)
    (bound : ℕ) (plan : D) (p : Parts (LineView S) K A C) (report : Report) (a b : W) : Type 0 where
  pub ran : Ran (LineView S) K A C
  pub is : HasRun gi gk ga gc gd plan p ran
  pub standing : Standing gs ran.parts.intake
  pub reported : ran.report ≡ report
  pub told : StillTold g a b
  pub counts : SameCounts g a b
  pub keeps : IsTrue (g.tells b) → g.tale b ≡ record (g.tale a) { keeps = once_more (g.tale a).keeps; kept = Some (ends_of ran); lines = (g.tale b).lines }
  pub said : IsTrue (g.tells b) → IsTrue (g.tells_lines b) → (g.tale b).lines ≡ (g.tale a).lines ++ report_lines bound report
