-- What moves leave as it was: relations of the ledger before to the ledger after.
use Rattle.std.specs.Prelude.{◌≡◌, ◌≢◌, ℕ, ◌+◌, ◌*◌, ◌<◌, ◌≤◌, Bool, true, false, not, ◌&&◌, ◌⊎◌, [], length, Option, Some, None}
use Rattle.bt_chains.specs.declared.Entry.{Entry}
use Rattle.bt_demand.specs.Find.{begun}
use Rattle.bt_demand.specs.Flushing.{Still, Late}
use Rattle.bt_demand.specs.Next.{todo}
use Rattle.bt_demand.specs.Work.{work}
use Rattle.bt_ledger.specs.Ledger.{Ledger, slot_at, number_in, parts_in, part_tree, is_free, is_given, over_slots, held, IsPart, chain_at}
use Rattle.bt_ledger.specs.declared.slot.Slot.{Slot}
use Rattle.bt_moves.specs.Resting.{AtRest, Unripe}

-- How much is left to do: each record, wait and release lowers it.
abbrev pub left_to_do : Ledger → ℕ
left_to_do l = 2 * over_slots work l.slots + held l

-- Of a slot that is given afterwards: it was given before, with as many parts, and what had begun has begun.
abbrev pub SlotStays : Ledger → Ledger → ℕ → Type 0
SlotStays l m s = is_given (slot_at m s) ≡ true → (is_given (slot_at l s) ≡ true) × (length (parts_in (slot_at m s)) ≡ length (parts_in (slot_at l s))) × ((p : ℕ) → begun (part_tree l s p) ≡ true → begun (part_tree m s p) ≡ true)

-- A step of one part, after which it has begun: the other parts and the other slots stay as they were.
pub record StepAt (s p : ℕ) (l m : Ledger) : Type 0 where
  pub slots : length m.slots ≡ length l.slots
  pub policies : m.policies ≡ l.policies
  pub trees : (a b : ℕ) → (a ≡ s → b ≡ p → ⊥) → part_tree m a b ≡ part_tree l a b
  pub others : (a : ℕ) → a ≢ s → slot_at m a ≡ slot_at l a
  pub given : is_given (slot_at m s) ≡ true
  pub stays : (a : ℕ) → SlotStays l m a
  pub begins : begun (part_tree m s p) ≡ true

-- Parts that could not go on still can't, and slots that were at rest still are. What is closed meanwhile is both.
pub record Keeps (l m : Ledger) : Type 0 where
  pub slots : length m.slots ≡ length l.slots
  pub policies : m.policies ≡ l.policies
  pub quiet : (a b : ℕ) → Still (todo (part_tree l a b)) → Still (todo (part_tree m a b))
  pub rest : (a : ℕ) → AtRest l a → AtRest m a
  pub stays : (a : ℕ) → SlotStays l m a

-- The same of every part but one, and of every slot but that part's.
pub record KeepsBut (s p : ℕ) (l m : Ledger) : Type 0 where
  pub slots : length m.slots ≡ length l.slots
  pub policies : m.policies ≡ l.policies
  pub quiet : (a b : ℕ) → (a ≡ s → b ≡ p → ⊥) → Still (todo (part_tree l a b)) → Still (todo (part_tree m a b))
  pub rest : (a : ℕ) → a ≢ s → AtRest l a → AtRest m a
  pub stays : (a : ℕ) → SlotStays l m a

-- Items of a slot were answered, and nothing else changed.
pub record Answering (s : ℕ) (l m : Ledger) : Type 0 where
  pub slots : length m.slots ≡ length l.slots
  pub policies : m.policies ≡ l.policies
  pub chains : m.chains ≡ l.chains
  pub others : (a : ℕ) → a ≢ s → slot_at m a ≡ slot_at l a
  pub parts : parts_in (slot_at m s) ≡ parts_in (slot_at l s)
  pub number : number_in (slot_at m s) ≡ number_in (slot_at l s)
  pub given : is_given (slot_at m s) ≡ true
  pub work : over_slots work m.slots ≡ over_slots work l.slots

-- The front of a chain left it, a step of its part; or there was none and nothing changed.
abbrev pub Popped : Ledger → Ledger → Option Entry → Type 0
Popped l m None = m ≡ l
Popped l m (Some e) = StepAt e.slot e.part l m × (IsPart m e.slot e.part × (left_to_do m < left_to_do l))

-- In each part that has begun, each hold that can still begin to wait while those from n on are released has a number
-- above n.
abbrev pub AllLate : ℕ → Ledger → Type 0
AllLate n l = (s p : ℕ) → begun (part_tree l s p) ≡ true → Late n (part_tree l s p)

-- Where all that has begun is late, it stays so, and the chains up to n stay as they were.
abbrev pub LateKeeps : ℕ → Ledger → Ledger → Type 0
LateKeeps n l m = AllLate n l → AllLate n m × ((j : ℕ) → j ≤ n → chain_at m j ≡ chain_at l j)

-- The same but for chain k.
abbrev pub LateKeepsBut : ℕ → ℕ → Ledger → Ledger → Type 0
LateKeepsBut k n l m = AllLate n l → AllLate n m × ((j : ℕ) → j ≤ n → j ≢ k → chain_at m j ≡ chain_at l j)

-- The front of chain k left, which keeps what is late; or chain k was empty.
abbrev pub PopKeepsLate : ℕ → Ledger → Ledger → Option Entry → Type 0
PopKeepsLate k l m None = chain_at l k ≡ []
PopKeepsLate k l m (Some e) = (n : ℕ) → n ≤ k → LateKeepsBut k n l m

-- No chain becomes ripe by Count, Bytes or Check.
abbrev pub RipensNone : Ledger → Ledger → Type 0
RipensNone l m = (n : ℕ) → Unripe l n → Unripe m n

-- No chain but k becomes ripe so.
abbrev pub RipensBut : ℕ → Ledger → Ledger → Type 0
RipensBut k l m = (n : ℕ) → n ≢ k → Unripe l n → Unripe m n

-- No part begins.
abbrev pub BeginsNone : Ledger → Ledger → Type 0
BeginsNone l m = (a b : ℕ) → begun (part_tree l a b) ≡ false → begun (part_tree m a b) ≡ false

-- No part but this one begins.
abbrev pub BeginsBut : ℕ → ℕ → Ledger → Ledger → Type 0
BeginsBut s p l m = (a b : ℕ) → (a ≡ s → b ≡ p → ⊥) → begun (part_tree l a b) ≡ false → begun (part_tree m a b) ≡ false

-- a slot is out: taken, and nothing was given to it
abbrev pub is_out : Slot → Bool
is_out x = not (is_free x) && not (is_given x)

-- What was given isn't out afterwards, and every other slot stays as it was.
abbrev pub OutStays : Ledger → Ledger → Type 0
OutStays l m = (a : ℕ) → ((is_given (slot_at l a) ≡ true) × (is_out (slot_at m a) ≡ false)) ⊎ (slot_at m a ≡ slot_at l a)

-- The transaction of slot s isn't out any more. Of the other slots, what was given isn't out, and the rest stay as they
-- were.
abbrev pub Delivered : ℕ → Ledger → Ledger → Type 0
Delivered s l m = (is_out (slot_at m s) ≡ false) × ((a : ℕ) → a ≢ s → ((is_given (slot_at l a) ≡ true) × (is_out (slot_at m a) ≡ false)) ⊎ (slot_at m a ≡ slot_at l a))
