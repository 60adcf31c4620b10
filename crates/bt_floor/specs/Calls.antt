-- What the calls of a floor do on their own.
use Rattle.std.specs.Prelude.{◌≡◌, ℕ, ◌+◌, ◌-◌, ◌^◌, ◌<◌, ◌≤◌, List, [], length, get_or, replicate, IsTrue, Some, None}
use Rattle.bt_demand.specs.declared.routes.HoldPolicy.{HoldPolicy}
use Rattle.bt_floor.specs.declared.making.Parts.{Parts}
use Rattle.bt_ledger.specs.Kept.{empty_ledger}
use Rattle.bt_ledger.specs.Ledger.{slot_at, with_slot}
use Rattle.bt_ledger.specs.declared.slot.Slot.TheVariants.{Free, Out}
use Rattle.bt_ports.specs.Faults.{Rose, last_count, one_more}
use Rattle.bt_ports.specs.declared.outside.Answerer as Answerer
use Rattle.bt_ports.specs.declared.outside.Clock as Clock
use Rattle.bt_ports.specs.declared.outside.Intake as Intake
use Rattle.bt_ports.specs.declared.outside.Sink as Sink
use Rattle.bt_sound.specs.Counting.{no_counts}
use Rattle.bt_ports.specs.declared.parts.Txn.{Txn}
use Rattle.bt_sound.specs.Transactions.{IsTransaction}
use Rattle.bt_sound.specs.View.{FloorView, Outside}
use Rattle.bt_sound.specs.declared.counts.Ending.{Ending}
use Rattle.bt_sound.specs.declared.counts.Ending.TheVariants as ending

-- What no call changes of a run: the plan, the intake's batches and their stop, what it reads and where that was opened, how
-- many batches it gave before, and the readings of the clock.
pub record SameRun {I C D : Type 0} (gi : Intake.Ghosts I) (gc : Clock.Ghosts C) (f g : Outside I C D) : Type 0 where
  pub plan : g.plan ≡ f.plan
  pub told : IsTrue (gi.tells g.intake) → IsTrue (gi.tells f.intake)
  pub openings : gi.openings g.intake ≡ gi.openings f.intake
  pub bounds : gi.bounds g.intake ≡ gi.bounds f.intake
  pub batches : IsTrue (gi.tells g.intake) → gi.batches g.intake ≡ gi.batches f.intake
  pub inputs : IsTrue (gi.tells g.intake) → gi.inputs g.intake ≡ gi.inputs f.intake
  pub stop : IsTrue (gi.tells g.intake) → gi.stop g.intake ≡ gi.stop f.intake
  pub before : IsTrue (gi.tells g.intake) → gi.given g.intake - g.taken ≡ gi.given f.intake - f.taken
  pub clock_told : IsTrue (gc.tells g.clock) → IsTrue (gc.tells f.clock)
  pub readings : IsTrue (gc.tells g.clock) → gc.readings g.clock ≡ gc.readings f.clock

-- A transaction was taken, and is out in slot s, which was free. It is the next one of the run, with at least one item and
-- fewer than 2^32. Nothing else changed but the intake and the clock.
pub record Takes {I K A C D : Type 0} (gi : Intake.Ghosts I) (gc : Clock.Ghosts C) (f g : FloorView I K A C D) (s : ℕ) (t : Txn) : Type 0 where
  pub within : s < length f.ledger.slots
  pub free : slot_at f.ledger s ≡ Free
  pub ledger : g.ledger ≡ with_slot f.ledger s (Out t.number t.moment (length t.items.list))
  pub number : t.number ≡ f.outside.taken + 1
  pub taken : g.outside.taken ≡ f.outside.taken + 1
  pub is : IsTrue (gi.tells g.outside.intake) → IsTrue (gc.tells g.outside.clock) → gc.made g.outside.clock < last_count → IsTransaction gi gc g.outside t
  pub some : 1 ≤ length t.items.list
  pub few : length t.items.list < 2 ^ 32
  pub fault : gi.faults g.outside.intake ≡ gi.faults f.outside.intake
  pub made : IsTrue (gc.tells g.outside.clock) → gc.made g.outside.clock ≡ one_more (gc.made f.outside.clock)
  pub goes : g.outside.ending ≡ None
  pub run : SameRun gi gc f.outside g.outside
  pub sinks : g.sinks ≡ f.sinks
  pub answerer : g.answerer ≡ f.answerer
  pub releases : g.releases ≡ f.releases
  pub counts : g.counts ≡ f.counts

-- which faults of the intake an ending comes with: a read fault only where one was counted, and of the others but want of
-- memory none was
abbrev pub EndFaults : Ending → ℕ → ℕ → Type 0
EndFaults ending.Ended before after = after ≡ before
EndFaults ending.ReadFault before after = Rose before after
EndFaults (ending.LongLine n) before after = after ≡ before
EndFaults ending.Bound before after = after ≡ before
EndFaults ending.NoMemory before after = Unit {0}

-- The intake gave no batch, and the run ends so. Nothing else changed.
pub record Ends {I K A C D : Type 0} (gi : Intake.Ghosts I) (gc : Clock.Ghosts C) (f g : FloorView I K A C D) (e : Ending) : Type 0 where
  pub ending : g.outside.ending ≡ Some e
  pub fault : EndFaults e (gi.faults f.outside.intake) (gi.faults g.outside.intake)
  pub taken : g.outside.taken ≡ f.outside.taken
  pub clock : g.outside.clock ≡ f.outside.clock
  pub run : SameRun gi gc f.outside g.outside
  pub only : g ≡ record f { outside = g.outside }

-- no sink that tells has a record
abbrev pub NothingPut : {K : Type 0} → Sink.Ghosts K → List K → Type 0
NothingPut {K} g ks = (d : K) (k : ℕ) → k < length ks → IsTrue (g.tells (get_or ks k d)) → (g.accepted (get_or ks k d) ≡ []) × (g.refused (get_or ks k d) ≡ [])

-- the answerer, where it tells, was not called
abbrev pub NothingAnswered : {A : Type 0} → Answerer.Ghosts A → A → Type 0
NothingAnswered g a = IsTrue (g.tells a) → g.calls a ≡ []

-- a floor at its beginning: all slots are free, all chains empty, and nothing was counted
pub record Begins {I K A C D : Type 0} (f : FloorView I K A C D) (plan : D) (policies : List HoldPolicy) (p : Parts I K A C) (window entries : ℕ) : Type 0 where
  pub ledger : f.ledger ≡ empty_ledger window policies entries
  pub sinks : f.sinks ≡ p.sinks.list
  pub answerer : f.answerer ≡ p.answerer
  pub releases : f.releases ≡ replicate (length policies) 0
  pub counts : f.counts ≡ no_counts
  pub outside : f.outside ≡ record { plan = plan; intake = p.intake; clock = p.clock; taken = 0; ending = None; refused_memory = 0 }
