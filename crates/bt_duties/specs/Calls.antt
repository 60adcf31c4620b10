-- What the calls of a desk do.
use Rattle.std.specs.Prelude.{◌≡◌, ◌≢◌, ℕ, ◌+◌, ◌^◌, ◌<◌, ◌≤◌, length, IsTrue, Some, None}
use Rattle.bt_duties.specs.DeskView.{DeskView}
use Rattle.bt_duties.specs.Duties.{duty_at}
use Rattle.bt_duties.specs.declared.admit.Admit.{Admit}
use Rattle.bt_duties.specs.declared.admit.Admit.TheVariants as admit
use Rattle.bt_floor.specs.Calls.{EndFaults, SameRun}
use Rattle.bt_ledger.specs.Ledger.{opened}
use Rattle.bt_moves.specs.Resting.{Emptied, NoneWaitedOut, StaysUnlessPast}
use Rattle.bt_ports.specs.Faults.{last_count, one_more}
use Rattle.bt_ports.specs.declared.outside.Clock as Clock
use Rattle.bt_ports.specs.declared.outside.Intake as Intake
use Rattle.bt_ports.specs.declared.parts.Txn.{Txn}
use Rattle.bt_sound.specs.Transactions.{IsTransaction}
use Rattle.bt_sound.specs.View.{FloorView}
use Rattle.bt_sound.specs.declared.counts.Ending.{Ending}
use Rattle.bt_sound.specs.declared.counts.Ending.TheVariants as ending

-- an admission's answer for an ending
abbrev pub answer_to : Ending → Admit
answer_to ending.Ended = admit.Ended
answer_to ending.ReadFault = admit.ReadFault
answer_to (ending.LongLine n) = admit.LongLine n
answer_to ending.Bound = admit.Bound
answer_to ending.NoMemory = admit.NoMemory

-- nothing was released, put or answered
pub record NothingReleased {I K A C D : Type 0} (f g : FloorView I K A C D) : Type 0 where
  pub chains : g.ledger.chains ≡ f.ledger.chains
  pub sinks : g.sinks ≡ f.sinks
  pub answerer : g.answerer ≡ f.answerer
  pub releases : g.releases ≡ f.releases
  pub counts : g.counts ≡ f.counts

-- no record was put, and nothing was answered
pub record NothingSettled {I K A C D : Type 0} (f g : FloorView I K A C D) : Type 0 where
  pub sinks : g.sinks ≡ f.sinks
  pub answerer : g.answerer ≡ f.answerer

-- Transaction t was taken, and duty k is out with it. It is the next one of the run, with at least one item and fewer than
-- 2^32; the clock was read once, for its moment, and no read failed; the other duties stay. Afterwards no chain waited for
-- its period at that moment. Where a slot was free before, the chains before the first that had waited for it stay, and
-- where none had, nothing was released. Where none was free, all chains are empty.
pub record Took {I K A C D : Type 0} (gi : Intake.Ghosts I) (gc : Clock.Ghosts C) (k : ℕ) (d e : DeskView I K A C D) (t : Txn) : Type 0 where
  pub number : t.number ≡ d.floor.outside.taken + 1
  pub taken : e.floor.outside.taken ≡ d.floor.outside.taken + 1
  pub is : IsTrue (gi.tells e.floor.outside.intake) → IsTrue (gc.tells e.floor.outside.clock) → gc.made e.floor.outside.clock < last_count → IsTransaction gi gc e.floor.outside t
  pub some : 1 ≤ length t.items.list
  pub few : length t.items.list < 2 ^ 32
  pub out_number : (duty_at e.duties k).number ≡ t.number
  pub out_items : (duty_at e.duties k).items ≡ length t.items.list
  pub others : (j : ℕ) → j ≢ k → duty_at e.duties j ≡ duty_at d.duties j
  pub goes : e.floor.outside.ending ≡ None
  pub fault : gi.faults e.floor.outside.intake ≡ gi.faults d.floor.outside.intake
  pub made : IsTrue (gc.tells e.floor.outside.clock) → gc.made e.floor.outside.clock ≡ one_more (gc.made d.floor.outside.clock)
  pub run : SameRun gi gc d.floor.outside e.floor.outside
  pub none : NoneWaitedOut e.floor.ledger t.moment
  pub stays : opened d.floor.ledger < d.window → StaysUnlessPast t.moment d.floor.ledger e.floor.ledger
  pub unless : opened d.floor.ledger < d.window → NoneWaitedOut d.floor.ledger t.moment → NothingReleased d.floor e.floor
  pub flushed : d.window ≤ opened d.floor.ledger → Emptied e.floor.ledger

-- No slot was free and some duty is out. Nothing changed.
pub record WasFull {I K A C D : Type 0} (d e : DeskView I K A C D) : Type 0 where
  pub full : opened d.floor.ledger ≡ d.window
  pub busy : ℕ
  pub out : (duty_at d.duties busy).number ≢ 0
  pub same : e ≡ d

-- The intake gave no batch, and the run ends so. The clock wasn't read, and the duties stay. Where a slot was free before,
-- nothing else changed, and where none was, all chains are empty.
pub record Stopped {I K A C D : Type 0} (gi : Intake.Ghosts I) (gc : Clock.Ghosts C) (d e : DeskView I K A C D) (x : Ending) : Type 0 where
  pub ending : e.floor.outside.ending ≡ Some x
  pub fault : EndFaults x (gi.faults d.floor.outside.intake) (gi.faults e.floor.outside.intake)
  pub taken : e.floor.outside.taken ≡ d.floor.outside.taken
  pub clock : e.floor.outside.clock ≡ d.floor.outside.clock
  pub duties : e.duties ≡ d.duties
  pub run : SameRun gi gc d.floor.outside e.floor.outside
  pub only : opened d.floor.ledger < d.window → e.floor ≡ record d.floor { outside = e.floor.outside }
  pub flushed : d.window ≤ opened d.floor.ledger → Emptied e.floor.ledger

-- what an admission answers, and what then stands
abbrev pub Admits : {I K A C D : Type 0} → Intake.Ghosts I → Clock.Ghosts C → ℕ → Admit → DeskView I K A C D → DeskView I K A C D → Type 0
Admits gi gc k (admit.Job t) d e = Took gi gc k d e t
Admits gi gc k admit.Full d e = WasFull d e
Admits gi gc k admit.Ended d e = Stopped gi gc d e ending.Ended
Admits gi gc k admit.ReadFault d e = Stopped gi gc d e ending.ReadFault
Admits gi gc k (admit.LongLine n) d e = Stopped gi gc d e (ending.LongLine n)
Admits gi gc k admit.Bound d e = Stopped gi gc d e ending.Bound
Admits gi gc k admit.NoMemory d e = Stopped gi gc d e ending.NoMemory
