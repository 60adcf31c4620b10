-- What carrying a run does beside its account.
use Rattle.std.specs.Prelude.{◌≡◌, ℕ, ◌+◌, IsTrue, length, Option, Some, None}
use Rattle.bt_demand.specs.declared.derive.Derive as Derive
use Rattle.bt_duties.specs.DeskView.{DeskView}
use Rattle.bt_duties.specs.Duties.{duty_at}
use Rattle.bt_floor.specs.Calls.{EndFaults, SameRun}
use Rattle.bt_ports.specs.declared.outside.Clock as Clock
use Rattle.bt_ports.specs.declared.outside.Intake as Intake
use Rattle.bt_ports.specs.declared.parts.Txn.{Txn}
use Rattle.bt_sound.specs.View.{Outside}
use Rattle.bt_sound.specs.declared.counts.Ending.{Ending}

-- the parts that a plan derives depend on a transaction's number, moment and items alone
abbrev pub ReadsItems : {D : Type 0} → Derive.Ghosts D → D → Type 0
ReadsItems g plan = (t u : Txn) → t.number ≡ u.number → t.moment ≡ u.moment → t.items.list ≡ u.items.list → g.parts plan t ≡ g.parts plan u

-- the clock was read once for each taken transaction
abbrev pub ReadForEach : {I C D : Type 0} → Clock.Ghosts C → Outside I C D → Type 0
ReadForEach gc f = IsTrue (gc.tells f.clock) → gc.made f.clock ≡ f.taken

-- the faults of the intake over a run that ended so: it counted one where a read failed, and none where the run ended by the
-- input's end, a long line or the bound
abbrev pub EndedWith : Option Ending → (before after : ℕ) → Type 0
EndedWith None before after = ⊥
EndedWith (Some e) before after = EndFaults e before after

-- a desk of one duty, which is idle, over this plan
pub record Rests {I K A C D : Type 0} (plan : D) (d : DeskView I K A C D) : Type 0 where
  pub over : d.floor.outside.plan ≡ plan
  pub one : length d.duties ≡ 1
  pub idle : (duty_at d.duties 0).number ≡ 0

-- A transaction was taken and delivered.
pub record Turned {I K A C D : Type 0} (gi : Intake.Ghosts I) (d e : DeskView I K A C D) : Type 0 where
  pub goes : e.floor.outside.ending ≡ None
  pub taken : e.floor.outside.taken ≡ d.floor.outside.taken + 1
  pub faults : gi.faults e.floor.outside.intake ≡ gi.faults d.floor.outside.intake

-- a run went on: it is the same, over the same plan, and its clock was read once for each transaction
pub record GoesOn {I K A C D : Type 0} (gi : Intake.Ghosts I) (gc : Clock.Ghosts C) (d e : DeskView I K A C D) : Type 0 where
  pub run : SameRun gi gc d.floor.outside e.floor.outside
  pub read : ReadForEach gc d.floor.outside → ReadForEach gc e.floor.outside
