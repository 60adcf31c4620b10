-- A ledger as contracts see it: slots, policies, and chains of entries.
use Rattle.std.specs.Prelude.{◌≡◌, ℕ, ◌+◌, ◌<◌, ◌≤◌, Bool, true, false, cond, eqb, ◌&&◌, List, [], ◌∷◌, length, get_or, set, IsTrue}
use Rattle.bt_chains.specs.declared.Entry.{Entry}
use Rattle.bt_demand.specs.Find.{begun}
use Rattle.bt_demand.specs.Holding.{booked_in}
use Rattle.bt_demand.specs.Holds.{holds}
use Rattle.bt_demand.specs.Parts.{Part}
use Rattle.bt_demand.specs.Tree.{Tree}
use Rattle.bt_demand.specs.declared.routes.HoldPolicy.{HoldPolicy}
use Rattle.bt_ledger.specs.Open.{Open, tree_of, with_tree}
use Rattle.bt_steps.specs.Stepped.{stepped}
use Rattle.bt_ledger.specs.declared.slot.Slot.{Slot}
use Rattle.bt_steps.specs.declared.step.Step.{Step}
use Rattle.bt_ledger.specs.declared.slot.Slot.TheVariants.{Free, Out, Given}

-- the chains are lists of entries by hold, and `entries` is how many they may have together
pub record Ledger : Type 0 where
  pub slots : List Slot
  pub policies : List HoldPolicy
  pub entries : ℕ
  pub chains : List (List Entry)

abbrev pub slot_at : Ledger → ℕ → Slot
slot_at l s = get_or l.slots s Free

-- What a slot has. Of a free one and of one that is out these are 0 and empty.
abbrev pub parts_in : Slot → List Part
parts_in Free = []
parts_in (Out n m i) = []
parts_in (Given o) = o.parts

abbrev pub is_free : Slot → Bool
is_free Free = true
is_free (Out n m i) = false
is_free (Given o) = false

abbrev pub is_given : Slot → Bool
is_given Free = false
is_given (Out n m i) = false
is_given (Given o) = true

abbrev pub number_in : Slot → ℕ
number_in Free = 0
number_in (Out n m i) = n
number_in (Given o) = o.number

abbrev pub moment_in : Slot → ℕ
moment_in Free = 0
moment_in (Out n m i) = m
moment_in (Given o) = o.moment

abbrev pub items_in : Slot → ℕ
items_in Free = 0
items_in (Out n m i) = i
items_in (Given o) = length o.answered

abbrev pub answered_in : Slot → List Bool
answered_in Free = []
answered_in (Out n m i) = []
answered_in (Given o) = o.answered

abbrev pub open_in : Slot → Open
open_in s = record { number = number_in s; moment = moment_in s; parts = parts_in s; answered = answered_in s }

-- the tree of a part, and Drop where there is no such part
abbrev pub part_tree : Ledger → ℕ → ℕ → Tree
part_tree l s p = tree_of (parts_in (slot_at l s)) p

abbrev pub IsTaken : Ledger → ℕ → Type 0
IsTaken l s = (s < length l.slots) × (is_free (slot_at l s) ≡ false)

abbrev pub IsGiven : Ledger → ℕ → Type 0
IsGiven l s = (s < length l.slots) × IsTrue (is_given (slot_at l s))

abbrev pub IsPart : Ledger → ℕ → ℕ → Type 0
IsPart l s p = (s < length l.slots) × (p < length (parts_in (slot_at l s)))

abbrev pub with_slot : Ledger → ℕ → Slot → Ledger
with_slot l s x = record l { slots = set l.slots s x }

abbrev pub with_part : Ledger → ℕ → ℕ → Tree → Ledger
with_part l s p t = with_slot l s (Given (record (open_in (slot_at l s)) { parts = with_tree (parts_in (slot_at l s)) p t }))

abbrev pub chain_at : Ledger → ℕ → List Entry
chain_at l n = get_or l.chains n []

abbrev pub with_chain : Ledger → ℕ → List Entry → Ledger
with_chain l n es = record l { chains = set l.chains n es }

abbrev pub taken_slots : List Slot → ℕ
taken_slots [] = 0
taken_slots (s ∷ ss) = cond (is_free s) 0 1 + taken_slots ss

-- the transactions that are out and those that are open
abbrev pub opened : Ledger → ℕ
opened l = taken_slots l.slots

abbrev pub over_parts : (Tree → ℕ) → List Part → ℕ
over_parts f [] = 0
over_parts f (p ∷ ps) = f p.demand + over_parts f ps

abbrev pub over_slots : (Tree → ℕ) → List Slot → ℕ
over_slots f [] = 0
over_slots f (s ∷ ss) = over_parts f (parts_in s) + over_slots f ss

-- the holds that are untried or wait, in parts that have begun and aren't settled
abbrev pub booked : Ledger → ℕ
booked l = over_slots booked_in l.slots

abbrev pub held_in : List (List Entry) → ℕ
held_in [] = 0
held_in (c ∷ cs) = length c + held_in cs

-- all entries of all chains
abbrev pub held : Ledger → ℕ
held l = held_in l.chains

abbrev pub sizes : List Entry → ℕ
sizes [] = 0
sizes (e ∷ es) = e.size + sizes es

-- the entries of a part in a chain
abbrev pub entries_of : ℕ → ℕ → List Entry → ℕ
entries_of s p [] = 0
entries_of s p (e ∷ es) = cond (eqb e.slot s && eqb e.part p) 1 0 + entries_of s p es

-- a part that has not begun has room for each of its holds
abbrev pub Roomy : Ledger → ℕ → ℕ → Type 0
Roomy l s p = begun (part_tree l s p) ≡ false → booked l + holds (part_tree l s p) ≤ l.entries

-- a slot and a table after a step of a part
abbrev pub stepped_slot : Step → ℕ → Slot → Slot
stepped_slot st p x = Given (record (open_in x) { parts = with_tree (parts_in x) p (stepped st (tree_of (parts_in x) p)) })

abbrev pub stepped_slots : Step → ℕ → ℕ → List Slot → List Slot
stepped_slots st s p xs = set xs s (stepped_slot st p (get_or xs s Free))
