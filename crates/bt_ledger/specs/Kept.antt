-- What a ledger keeps beside its value: counts, sums and the list of free slots.
use Rattle.std.specs.Prelude.{◌≡◌, ◌≢◌, ℕ, ◌+◌, ◌<◌, ◌≤◌, ◌^◌, false, List, [], length, get_or, replicate}
use Rattle.std.specs.List.{AllByRecursion}
use Rattle.bt_demand.specs.Holding.{one_if}
use Rattle.bt_demand.specs.declared.routes.HoldPolicy.{HoldPolicy}
use Rattle.bt_ledger.specs.Book.{Booked}
use Rattle.bt_ledger.specs.Calls.{last_ends}
use Rattle.bt_ledger.specs.Due.{times}
use Rattle.bt_ledger.specs.Ledger.{Ledger, chain_at, booked, opened, sizes, is_free}
use Rattle.bt_ledger.specs.declared.slot.Slot.{Slot}
use Rattle.bt_ledger.specs.declared.slot.Slot.TheVariants.{Free, Out}
use Rattle.bt_ledger.specs.declared.tally.Tally.{Tally}

abbrev pub taken_slot : Slot
taken_slot = Out 0 0 0

-- the free slots are listed, each once
pub record Vacant (slots : List Slot) (vacant : List ℕ) : Type 0 where
  pub each : (x : ℕ) → times x vacant ≡ one_if (is_free (get_or slots x taken_slot))

abbrev pub no_tally : Tally
no_tally = record { bytes = 0; ends = false }

-- the sum of a chain's sizes, and whether its last entry's hold ends the batch
pub record Tallied (l : Ledger) (tallies : List Tally) : Type 0 where
  pub each : length tallies ≡ length l.chains
  pub bytes : (n : ℕ) → (get_or tallies n no_tally).bytes ≡ sizes (chain_at l n)
  pub wide : (n : ℕ) → AllByRecursion (λ e. e.size < 2 ^ 64) (chain_at l n)
  pub ends : (n : ℕ) → chain_at l n ≢ [] → (get_or tallies n no_tally).ends ≡ last_ends l (chain_at l n)

pub record Kept (l : Ledger) (booked_now : ℕ) (vacant : List ℕ) (tallies : List Tally) (capacity : ℕ) : Type 0 where
  pub book : Booked l
  pub number : booked_now ≡ booked l
  pub vacancy : Vacant l.slots vacant
  pub counted : length vacant + opened l ≡ length l.slots
  pub tallied : Tallied l tallies
  pub room : length l.slots ≤ capacity
  pub small : (length l.slots < 2 ^ 32) × (l.entries < 2 ^ 32)

-- all slots free, and all chains empty
abbrev pub empty_ledger : ℕ → List HoldPolicy → ℕ → Ledger
empty_ledger window policies entries = record { slots = replicate window Free; policies = policies; entries = entries; chains = replicate (length policies) [] }
