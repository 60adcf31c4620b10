-- The transactions of a run, and what their parts are by the plan.
use Rattle.std.specs.Prelude.{◌≡◌, ℕ, ◌+◌, ◌-◌, ◌<◌, ◌≤◌, true, false, List, [], ◌∷◌, length, IsTrue, Some, slice_get, replicate}
use Rattle.bt_demand.specs.Parts.{Part, PartsFit}
use Rattle.bt_demand.specs.Recorded.{untried}
use Rattle.bt_demand.specs.declared.derive.Derive as Derive
use Rattle.bt_ledger.specs.Ledger.{number_in, moment_in, items_in}
use Rattle.bt_ledger.specs.Open.{Open}
use Rattle.bt_ledger.specs.declared.slot.Slot.{Slot}
use Rattle.bt_ports.specs.Clock.{reading_at}
use Rattle.bt_ports.specs.Faults.{last_count}
use Rattle.bt_ports.specs.declared.outside.Clock as Clock
use Rattle.bt_ports.specs.declared.outside.Intake as Intake
use Rattle.bt_ports.specs.declared.parts.Txn.{Txn}
use Rattle.bt_sound.specs.View.{Outside, Past}

-- Transaction n of a run has the n-th of the batches that the intake gave since the desk was made, and as its moment the
-- n-th of the clock's readings since then.
pub record IsTransaction {I C D : Type 0} (gi : Intake.Ghosts I) (gc : Clock.Ghosts C) (f : Outside I C D) (t : Txn) : Type 0 where
  pub some : 1 ≤ t.number
  pub taken : t.number ≤ f.taken
  pub batch : slice_get (gi.batches f.intake) (gi.given f.intake - f.taken + (t.number - 1)) ≡ Some t.items.list
  pub moment : t.moment ≡ reading_at (gc.readings f.clock) (gc.made f.clock - f.taken + (t.number - 1))

-- a transaction of the run has this number, this moment and so many items
pub record IsTaken {I C D : Type 0} (gi : Intake.Ghosts I) (gc : Clock.Ghosts C) (f : Outside I C D) (n m k : ℕ) (t : Txn) : Type 0 where
  pub is : IsTransaction gi gc f t
  pub number : t.number ≡ n
  pub moment : t.moment ≡ m
  pub items : length t.items.list ≡ k

-- where intake and clock tell, and the clock's count of readings isn't at its last value, there is such a transaction
abbrev pub Taken : {I C D : Type 0} → Intake.Ghosts I → Clock.Ghosts C → Outside I C D → ℕ → ℕ → ℕ → Type 0
Taken gi gc f n m k = IsTrue (gi.tells f.intake) → IsTrue (gc.tells f.clock) → gc.made f.clock < last_count → (t : Txn) × IsTaken gi gc f n m k t

-- the parts as they were before anything was tried
abbrev pub untried_parts : List Part → List Part
untried_parts [] = []
untried_parts (p ∷ ps) = record { from = p.from; demand = untried p.demand } ∷ untried_parts ps

-- a transaction of the run, whose parts the plan derives but for states and stages
pub record IsPlanned {I C D : Type 0} (gi : Intake.Ghosts I) (gc : Clock.Ghosts C) (gd : Derive.Ghosts D) (f : Outside I C D) (o : Open) (t : Txn) : Type 0 where
  pub taken : IsTaken gi gc f o.number o.moment (length o.answered) t
  pub parts : untried_parts o.parts ≡ gd.parts f.plan t

-- where intake and clock tell, and the clock's count of readings isn't at its last value, it is one
abbrev pub Planned : {I C D : Type 0} → Intake.Ghosts I → Clock.Ghosts C → Derive.Ghosts D → Outside I C D → Open → Type 0
Planned gi gc gd f o = IsTrue (gi.tells f.intake) → IsTrue (gc.tells f.clock) → gc.made f.clock < last_count → (t : Txn) × IsPlanned gi gc gd f o t

-- these are the parts that the plan derives for transaction n, where intake and clock tell
abbrev pub Derived : {I C D : Type 0} → Intake.Ghosts I → Clock.Ghosts C → Derive.Ghosts D → Outside I C D → ℕ → List Part → Type 0
Derived gi gc gd f n ps = IsTrue (gi.tells f.intake) → IsTrue (gc.tells f.clock) → gc.made f.clock < last_count → (t : Txn) → IsTransaction gi gc f t → t.number ≡ n → ps ≡ gd.parts f.plan t

-- its demands were well formed, and its parts come from its items
abbrev pub Shaped : {I C D : Type 0} → Derive.Ghosts D → Outside I C D → Open → Type 0
Shaped gd f o = PartsFit (gd.sinks f.plan) (length (gd.policies f.plan)) (length o.answered) (untried_parts o.parts)

-- a closed transaction: its parts were the plan's, or it was refused for want of memory and has none
pub record WasTaken {I C D : Type 0} (gi : Intake.Ghosts I) (gc : Clock.Ghosts C) (gd : Derive.Ghosts D) (f : Outside I C D) (p : Past) : Type 0 where
  pub planned : p.memory ≡ false → Planned gi gc gd f p.state
  pub shaped : p.memory ≡ false → Shaped gd f p.state
  pub refused : p.memory ≡ true → Taken gi gc f p.state.number p.state.moment (length p.state.answered)
  pub without : p.memory ≡ true → p.state.parts ≡ []

-- the transaction in a slot, once these parts were given to it
abbrev pub given_open : Slot → List Part → Open
given_open x ps = record { number = number_in x; moment = moment_in x; parts = ps; answered = replicate (items_in x) false }

-- the transaction in a slot, once all its items were refused for want of memory
abbrev pub refused_open : Slot → Open
refused_open x = record { number = number_in x; moment = moment_in x; parts = []; answered = replicate (items_in x) true }
