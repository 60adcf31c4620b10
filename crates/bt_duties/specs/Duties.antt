-- Which duty is out with which transaction.
use Rattle.std.specs.Prelude.{◌≡◌, ◌≢◌, ℕ, ◌+◌, true, cond, eqb, not, ◌&&◌, List, [], ◌∷◌, get_or, Option, Some, None}
use Rattle.bt_demand.specs.Holding.{one_if}
use Rattle.bt_duties.specs.declared.duty.Duty.{Duty}
use Rattle.bt_ledger.specs.Ledger.{Ledger, slot_at, number_in, items_in}
use Rattle.bt_moves.specs.Moves.{is_out}

abbrev pub idle : Duty
idle = record { number = 0; items = 0; slot = 0 }

abbrev pub duty_at : List Duty → ℕ → Duty
duty_at ds d = get_or ds d idle

-- whether a duty that isn't idle names this slot, number and number of items, as a count
abbrev pub names : ℕ → ℕ → ℕ → Duty → ℕ
names s n i d = one_if (not (eqb d.number 0) && (eqb d.slot s && (eqb d.number n && eqb d.items i)))

-- how many duties do
abbrev pub named : ℕ → ℕ → ℕ → List Duty → ℕ
named s n i [] = 0
named s n i (d ∷ ds) = names s n i d + named s n i ds

-- a duty names a transaction that is out
pub record Names (l : Ledger) (d : Duty) : Type 0 where
  pub out : is_out (slot_at l d.slot) ≡ true
  pub number : number_in (slot_at l d.slot) ≡ d.number
  pub items : items_in (slot_at l d.slot) ≡ d.items

-- Each transaction that is out is named by one duty, and each duty is idle or names one. So no two name the same.
pub record Dutiful (l : Ledger) (ds : List Duty) : Type 0 where
  pub each : (s : ℕ) → is_out (slot_at l s) ≡ true → named s (number_in (slot_at l s)) (items_in (slot_at l s)) ds ≡ 1
  pub known : (d : ℕ) → (duty_at ds d).number ≢ 0 → Names l (duty_at ds d)

-- no duty is out
abbrev pub AllIdle : List Duty → Type 0
AllIdle ds = (d : ℕ) → (duty_at ds d).number ≡ 0

-- the transaction that a duty is out with, and how many items that has
abbrev pub number_out : Duty → Option ℕ
number_out d = cond (eqb d.number 0) None (Some d.number)

abbrev pub items_out : Duty → Option ℕ
items_out d = cond (eqb d.number 0) None (Some d.items)
