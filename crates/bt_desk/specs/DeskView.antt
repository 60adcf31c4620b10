-- What a desk shows.
use Rattle.std.specs.Prelude.{ℕ, ◌-◌, List, drop, Bool}
use Rattle.bt_ports.specs.Contents.{Contents}
use Rattle.bt_ports.specs.declared.parts.Item.{Item}
use Rattle.bt_ports.specs.declared.outside.Intake as Intake
use Rattle.bt_desk.specs.declared.report.Report.{Report}
use Rattle.bt_desk.specs.declared.report.Out.{Out}

-- the objects of the outside, the transactions that are out, which were admitted and aren't delivered yet, the report,
-- and whether the run was finished
pub record DeskView (I K A C : Type 0) : Type 0 where
  pub intake : I
  pub sinks : Contents K
  pub answerer : A
  pub clock : C
  pub out : List Out
  pub report : Report
  pub finished : Bool

-- how many batches the intake had given before the desk was made
abbrev pub given_before : {I K A C : Type 0} → Intake.Ghosts I → DeskView I K A C → ℕ
given_before g d = g.given d.intake - d.report.taken

-- the batches of the run: those that the intake had not given yet when the desk was made
abbrev pub run_of : {I K A C : Type 0} → Intake.Ghosts I → DeskView I K A C → List (List Item)
run_of g d = drop (given_before g d) (g.batches d.intake)
