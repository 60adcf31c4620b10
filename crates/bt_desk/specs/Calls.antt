use Rattle.std.specs.Prelude.{◌≡◌, ℕ, ◌+◌, ◌-◌, ◌^◌, ◌<◌, ◌≤◌, List, [], ◌∷◌, length, false, IsTrue, Some, None, slice_get, ◌⊎◌}
use Rattle.bt_ports.specs.Faults.{Rose}
use Rattle.bt_ports.specs.Clock.{reading_at}
use Rattle.bt_ports.specs.declared.parts.Txn.{Txn}
use Rattle.bt_ports.specs.declared.outside.Sink as Sink
use Rattle.bt_ports.specs.declared.outside.Intake as Intake
use Rattle.bt_ports.specs.declared.outside.Answerer as Answerer
use Rattle.bt_ports.specs.declared.outside.Clock as Clock
use Rattle.bt_desk.specs.declared.report.Ending.{Ending}
use Rattle.bt_desk.specs.declared.report.Ending.TheVariants as ending
use Rattle.bt_desk.specs.declared.parts.Admit.{Admit}
use Rattle.bt_desk.specs.declared.parts.Admit.TheVariants as admit
use Rattle.bt_desk.specs.declared.parts.Parts.{Parts}
use Rattle.bt_desk.specs.History.{Settled}
use Rattle.bt_desk.specs.DeskView.{DeskView, given_before, run_of}
use Rattle.bt_desk.specs.Settles.{SettlingInFirst}
use Rattle.bt_desk.specs.Stands.{report_of, ending_of}

-- a sink and an answerer with nothing in the lists that they tell
abbrev pub IsUnwritten : {K : Type 0} → Sink.Ghosts K → List K → Type 0
IsUnwritten {K} g sinks = (k : K) → slice_get sinks 0 ≡ Some k → IsTrue (g.tells k) → (g.accepted k ≡ []) × (g.refused k ≡ [])

abbrev pub IsUnanswered : {A : Type 0} → Answerer.Ghosts A → A → Type 0
IsUnanswered g a = IsTrue (g.tells a) → g.calls a ≡ []

-- a clock on which no reading was made
abbrev pub IsUnread : {C : Type 0} → Clock.Ghosts C → C → Type 0
IsUnread g c = IsTrue (g.tells c) → g.made c ≡ 0

-- a desk at its beginning, over these parts
pub record Begins {I K A C : Type 0} (d : DeskView I K A C) (p : Parts I K A C) : Type 0 where
  pub intake : d.intake ≡ p.intake
  pub sinks : d.sinks ≡ p.sinks
  pub answerer : d.answerer ≡ p.answerer
  pub clock : d.clock ≡ p.clock
  pub out : d.out ≡ []
  pub report : d.report ≡ report_of 0 [] None
  pub finished : d.finished ≡ false

-- no call changes the run: its batches, how many were given before it and where they stop, what the intake reads, and
-- the readings of the clock
pub record SameRun {I K A C : Type 0} (g : Intake.Ghosts I) (gc : Clock.Ghosts C) (d e : DeskView I K A C) : Type 0 where
  pub told : IsTrue (g.tells e.intake) → IsTrue (g.tells d.intake)
  pub openings : g.openings e.intake ≡ g.openings d.intake
  pub bounds : g.bounds e.intake ≡ g.bounds d.intake
  pub inputs : IsTrue (g.tells e.intake) → g.inputs e.intake ≡ g.inputs d.intake
  pub batches : IsTrue (g.tells e.intake) → g.batches e.intake ≡ g.batches d.intake
  pub stop : IsTrue (g.tells e.intake) → g.stop e.intake ≡ g.stop d.intake
  pub before : IsTrue (g.tells e.intake) → given_before g e ≡ given_before g d
  pub clock_told : IsTrue (gc.tells e.clock) → IsTrue (gc.tells d.clock)
  pub readings : IsTrue (gc.tells e.clock) → gc.readings e.clock ≡ gc.readings d.clock

-- the transaction that was taken last, with its items, is out
pub record IsOut {I K A C : Type 0} (g : Intake.Ghosts I) (d : DeskView I K A C) (t : Txn) : Type 0 where
  pub out : d.out ≡ record { number = t.number; items = length t.items.list } ∷ []
  pub number : t.number ≡ d.report.taken
  pub few : length t.items.list < 2 ^ 32
  pub batch : IsTrue (g.tells d.intake) → slice_get (run_of g d) (d.report.taken - 1) ≡ Some t.items.list

-- an admission that took transaction t: its moment is the next reading of the clock
pub record Takes {I K A C : Type 0} (gi : Intake.Ghosts I) (gc : Clock.Ghosts C) (t : Txn) (d e : DeskView I K A C) : Type 0 where
  pub out : IsOut gi e t
  pub report : e.report ≡ record d.report { taken = d.report.taken + 1 }
  pub some : 1 ≤ length t.items.list
  pub left : gi.left e.intake + length t.items.list ≤ gi.left d.intake
  pub moment : IsTrue (gc.tells e.clock) → t.moment ≡ reading_at (gc.readings d.clock) d.report.taken

-- an admission that found this ending: nothing is out, and the clock wasn't read
pub record EndsWith {I K A C : Type 0} (gi : Intake.Ghosts I) (n : Ending) (d e : DeskView I K A C) : Type 0 where
  pub stopped : ending_of (gi.stopped e.intake) ≡ Some n
  pub report : e.report ≡ record d.report { ending = Some n }
  pub out : e.out ≡ d.out
  pub clock : e.clock ≡ d.clock

-- what an admission answers at an ending. `Bound` stands for a line past its limit too, which has no answer of its own
abbrev pub answer_to : Ending → Admit
answer_to ending.Ended = admit.Ended
answer_to ending.ReadFault = admit.ReadFault
answer_to (ending.LongLine n) = admit.Bound
answer_to ending.Bound = admit.Bound
answer_to ending.NoMemory = admit.NoMemory

-- what an admission answers and why
abbrev pub Admits : {I K A C : Type 0} → Intake.Ghosts I → Clock.Ghosts C → Admit → DeskView I K A C → DeskView I K A C → Type 0
Admits gi gc (admit.Job t) d e = Takes gi gc t d e
Admits gi gc admit.Ended d e = EndsWith gi ending.Ended d e
Admits gi gc admit.ReadFault d e = EndsWith gi ending.ReadFault d e
Admits gi gc admit.Bound d e = EndsWith gi ending.Bound d e ⊎ ((n : ℕ) × EndsWith gi (ending.LongLine n) d e)
Admits gi gc admit.NoMemory d e = EndsWith gi ending.NoMemory d e

-- an admission finds a read fault only where the intake's count of faults rose. Where it took a transaction, and where it
-- found the end, a line past its limit or the bound, no read failed: the count stands still
abbrev pub AdmitFaults : Admit → ℕ → ℕ → Type 0
AdmitFaults (admit.Job t) before after = after ≡ before
AdmitFaults admit.Ended before after = after ≡ before
AdmitFaults admit.ReadFault before after = Rose before after
AdmitFaults admit.Bound before after = after ≡ before
AdmitFaults admit.NoMemory before after = Unit {0}

-- an admission leaves what was written and answered
pub record OnlyAdmits {I K A C : Type 0} (g : Intake.Ghosts I) (d e : DeskView I K A C) : Type 0 where
  pub counted : g.faults d.intake ≤ g.faults e.intake
  pub sinks : e.sinks ≡ d.sinks
  pub answerer : e.answerer ≡ d.answerer
  pub finished : e.finished ≡ d.finished

-- a delivery: each item is put once, in order, and answered once by what became of its record
pub record Delivers {I K A C : Type 0} (gk : Sink.Ghosts K) (ga : Answerer.Ghosts A) (t : Txn) (d e : DeskView I K A C) (txn : List Settled) : Type 0 where
  pub settles : SettlingInFirst gk ga d.sinks.list e.sinks.list d.answerer e.answerer d.report e.report t.number t.items.list txn
  pub intake : e.intake ≡ d.intake
  pub clock : e.clock ≡ d.clock
  pub out : e.out ≡ []
  pub finished : e.finished ≡ d.finished
