-- What the calls of a ledger do.
use Rattle.std.specs.Prelude.{◌≡◌, ℕ, ◌-◌, ◌<◌, Bool, false, cond, ltb, leb, ◌&&◌, List, [], ◌∷◌, ◌++◌, length, Option, Some, None, get_or}
use Rattle.bt_chains.specs.declared.Entry.{Entry}
use Rattle.bt_demand.specs.Holding.{held_by}
use Rattle.bt_demand.specs.Parts.{Part, PartFits}
use Rattle.bt_demand.specs.Steps.{release, wait}
use Rattle.bt_demand.specs.declared.holding.Held.{Held}
use Rattle.bt_demand.specs.declared.routes.HoldPolicy.{HoldPolicy}
use Rattle.bt_demand.specs.declared.todo.Todo.{Todo}
use Rattle.bt_demand.specs.declared.todo.Todo.TheVariants.{Put, Wait, Settled}
use Rattle.bt_ledger.specs.Ledger.{Ledger, slot_at, with_slot, with_part, with_chain, chain_at, part_tree, opened, sizes, moment_in}
use Rattle.bt_ledger.specs.declared.reason.Reason.{Reason}
use Rattle.bt_ledger.specs.declared.reason.Reason.TheVariants.{Count, Bytes, Check, Period}
use Rattle.bt_ledger.specs.declared.slot.Slot.{Slot}
use Rattle.bt_ledger.specs.declared.slot.Slot.TheVariants.{Free, Out, Given}

-- a slot that was free is out with the transaction, or none was free
abbrev pub Admitted : Ledger → ℕ → ℕ → ℕ → Option ℕ → Ledger → Type 0
Admitted l n m i None k = (opened l ≡ length l.slots) × (k ≡ l)
Admitted l n m i (Some s) k = (s < length l.slots) × (slot_at l s ≡ Free) × (k ≡ with_slot l s (Out n m i))

abbrev pub IsOut : Slot → Type 0
IsOut Free = ⊥
IsOut (Out n m i) = Unit {0}
IsOut (Given o) = ⊥

-- demands that are well formed, whatever their sinks, and origins below the number of items
abbrev pub Fits : ℕ → ℕ → List Part → Type 0
Fits hold_count items [] = Unit {0}
Fits hold_count items (p ∷ ps) = ((sinks : ℕ) × PartFits sinks hold_count items p) × Fits hold_count items ps

abbrev pub size_or : Option Held → ℕ
size_or None = 0
size_or (Some h) = h.size

abbrev pub ends_or : Option Held → Bool
ends_or None = false
ends_or (Some h) = h.ends

-- the entry of a hold: its slot, part and number, the size of its message, and its transaction's moment
abbrev pub entry_of : Ledger → ℕ → ℕ → ℕ → Entry
entry_of l s p n = record { slot = s; part = p; node = n; size = size_or (held_by n (part_tree l s p)); moment = moment_in (slot_at l s) }

-- the hold waits, with an entry at the end of its chain
abbrev pub waited : Ledger → ℕ → ℕ → ℕ → Ledger
waited l s p n = with_chain (with_part l s p (wait n (part_tree l s p))) n (chain_at l n ++ entry_of l s p n ∷ [])

-- the front of a chain leaves, and its hold is released
abbrev pub FrontReleased : List Entry → Ledger → ℕ → Option Entry → Ledger → Type 0
FrontReleased [] l n r k = (r ≡ None) × (k ≡ l)
FrontReleased (e ∷ es) l n r k = (r ≡ Some e) × (k ≡ with_chain (with_part l e.slot e.part (release n (part_tree l e.slot e.part))) n es)

abbrev pub Released : Ledger → ℕ → Option Entry → Ledger → Type 0
Released l n r k = FrontReleased (chain_at l n) l n r k

-- a limit that is on and met
abbrev pub is_met : ℕ → ℕ → Bool
is_met limit n = ltb 0 limit && leb limit n

abbrev pub front_moment : List Entry → Option ℕ
front_moment [] = None
front_moment (e ∷ es) = Some e.moment

abbrev pub is_past : Option ℕ → ℕ → Option ℕ → Bool
is_past None period front = false
is_past (Some m) period None = false
is_past (Some m) period (Some m0) = is_met period (m - m0)

-- the hold of the last entry ends the batch
abbrev pub last_ends : Ledger → List Entry → Bool
last_ends l [] = false
last_ends l (e ∷ []) = ends_or (held_by e.node (part_tree l e.slot e.part))
last_ends l (e ∷ (f ∷ es)) = last_ends l (f ∷ es)

abbrev pub no_policy : HoldPolicy
no_policy = record { count = 0; byte_size = 0; period = 0 }

abbrev pub policy_at : Ledger → ℕ → HoldPolicy
policy_at l n = get_or l.policies n no_policy

-- the reason of a chain of so many entries, with this sum of sizes and this moment of its front, apart from those of a flush
abbrev pub reason_at : HoldPolicy → ℕ → ℕ → Bool → Option ℕ → Option ℕ → Option Reason
reason_at p count bytes ends front m =
    cond (is_met p.count count) (Some Count)
    (cond (is_met p.byte_size bytes) (Some Bytes)
    (cond ends (Some Check)
    (cond (is_past m p.period front) (Some Period) None)))

abbrev pub reason : Ledger → ℕ → Option ℕ → Option Reason
reason l n m = reason_at (policy_at l n) (length (chain_at l n)) (sizes (chain_at l n)) (last_ends l (chain_at l n)) (front_moment (chain_at l n)) m

-- a hold to wait in is one of so many
abbrev pub TodoFits : ℕ → Option Todo → Type 0
TodoFits hold_count None = Unit {0}
TodoFits hold_count (Some (Put l k)) = Unit {0}
TodoFits hold_count (Some (Wait n)) = n < hold_count
TodoFits hold_count (Some (Settled b)) = Unit {0}
