-- A ledger at rest, and one while the parts of a transaction are delivered.
use Rattle.std.specs.Prelude.{◌≡◌, ℕ, ◌<◌, ◌≤◌, Bool, true, false, List, [], Option, Some, None}
use Rattle.bt_chains.specs.declared.Entry.{Entry}
use Rattle.bt_demand.specs.Find.{begun}
use Rattle.bt_demand.specs.Flushing.{Still}
use Rattle.bt_demand.specs.Next.{todo}
use Rattle.bt_leaves.specs.Released.{ReleasedSettled, ReleasedSettledBut}
use Rattle.bt_ledger.specs.Calls.{reason, is_past, policy_at, front_moment}
use Rattle.bt_ledger.specs.Due.{LeastDue, unanswered}
use Rattle.bt_ledger.specs.Ledger.{Ledger, slot_at, part_tree, open_in, answered_in, is_given, chain_at}

-- an open transaction has an item without its answer
abbrev pub Unfinished : Bool → List Bool → Type 0
Unfinished true bs = 0 < unanswered bs
Unfinished false bs = Unit {0}

-- Of a slot: no item is due, and an open transaction has an item without its answer. So whatever isn't open is at rest.
abbrev pub AtRest : Ledger → ℕ → Type 0
AtRest l s = LeastDue (open_in (slot_at l s)) None × Unfinished (is_given (slot_at l s)) (answered_in (slot_at l s))

-- a chain isn't ripe by Count, Bytes or Check
abbrev pub Unripe : Ledger → ℕ → Type 0
Unripe l n = reason l n None ≡ None

-- the period of hold n is on, and its chain's oldest entry waited for it at that moment
abbrev pub waited_out : Ledger → (n moment : ℕ) → Bool
waited_out l n moment = is_past (Some moment) (policy_at l n).period (front_moment (chain_at l n))

-- no chain waited for its period at that moment
abbrev pub NoneWaitedOut : Ledger → (moment : ℕ) → Type 0
NoneWaitedOut l moment = (n : ℕ) → waited_out l n moment ≡ false

-- where no chain up to n waited for its period at that moment, chain n stays as it was
abbrev pub StaysUnlessPast : (moment : ℕ) → Ledger → Ledger → Type 0
StaysUnlessPast moment l m = (n : ℕ) → ((j : ℕ) → j ≤ n → waited_out l j moment ≡ false) → chain_at m n ≡ chain_at l n

-- no part that has begun can go on
abbrev pub BegunStill : Ledger → Type 0
BegunStill l = (s p : ℕ) → begun (part_tree l s p) ≡ true → Still (todo (part_tree l s p))

-- no chain holds anything
abbrev pub Emptied : Ledger → Type 0
Emptied l = (n : ℕ) → chain_at l n ≡ []

-- in each part the child of each released hold is met or lost
abbrev pub AllSettled : Ledger → Type 0
AllSettled l = (s p : ℕ) → ReleasedSettled (part_tree l s p)

-- the same but for the holds of number n in one part
pub record AllSettledBut (n s p : ℕ) (l : Ledger) : Type 0 where
  pub others : (a b : ℕ) → (a ≡ s → b ≡ p → ⊥) → ReleasedSettled (part_tree l a b)
  pub here : ReleasedSettledBut n (part_tree l s p)

-- after the front of chain n left it, or nothing did
abbrev pub PopSettles : ℕ → Ledger → Option Entry → Type 0
PopSettles n m None = AllSettled m
PopSettles n m (Some e) = AllSettledBut n e.slot e.part m

-- between two calls of a desk: no part can go on, the child of each released hold is met or lost, each slot is at rest, and
-- no chain is ripe
pub record Resting (l : Ledger) : Type 0 where
  pub quiet : (s p : ℕ) → Still (todo (part_tree l s p))
  pub settled : AllSettled l
  pub rest : (s : ℕ) → AtRest l s
  pub calm : (n : ℕ) → Unripe l n

-- while the parts of a slot are delivered: those from number i on haven't begun, no other part can go on, and the child of
-- each released hold is met or lost
pub record Delivering (s i : ℕ) (l : Ledger) : Type 0 where
  pub quiet : (a b : ℕ) → (a ≡ s → i ≤ b → ⊥) → Still (todo (part_tree l a b))
  pub settled : AllSettled l
  pub fresh : (b : ℕ) → i ≤ b → begun (part_tree l s b) ≡ false
  pub rest : (a : ℕ) → AtRest l a
  pub calm : (n : ℕ) → Unripe l n
