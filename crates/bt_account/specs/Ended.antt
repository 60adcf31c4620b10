-- How far a run read its input.
use Rattle.std.specs.Prelude.{ℕ, ◌+◌, length}
use Rattle.bt_floor.specs.declared.making.Parts.{Parts}
use Rattle.bt_ports.specs.declared.outside.Intake as Intake
use Rattle.bt_runner.specs.declared.run.Ran.{Ran}
use Rattle.bt_sound.specs.Course.{GaveAll}

-- A run that ended by the input's end, a line that is too long or the bound took each batch of the intake's list that had not
-- been given before.
abbrev pub TookAll : {I K A C : Type 0} → Intake.Ghosts I → Parts I K A C → Ran I K A C → Type 0
TookAll gi p r = GaveAll r.report.ending (gi.given p.intake + r.report.taken) (length (gi.batches p.intake))
