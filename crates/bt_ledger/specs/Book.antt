-- How entries and waiting holds stand to each other.
use Rattle.std.specs.Prelude.{◌≡◌, ℕ, ◌≤◌, length}
use Rattle.std.specs.List.{AllByRecursion}
use Rattle.bt_demand.specs.Holding.{waits_at, waiting, holds_at, Tidy, OneEach, every_hold}
use Rattle.bt_ledger.specs.Calls.{entry_of}
use Rattle.bt_ledger.specs.Ledger.{Ledger, chain_at, part_tree, booked, held, entries_of, over_slots, IsPart}
use Rattle.bt_chains.specs.declared.Entry.{Entry}

-- each waiting hold has one entry, in its own chain, and no other entry is there
pub record Booked (l : Ledger) : Type 0 where
  pub own : (n s p : ℕ) → entries_of s p (chain_at l n) ≡ waits_at n (part_tree l s p)
  pub filled : (n : ℕ) → AllByRecursion (λ e. e ≡ entry_of l e.slot e.part n) (chain_at l n)
  pub total : held l ≡ over_slots waiting l.slots
  pub bound : booked l ≤ l.entries
  pub tidy : (s p : ℕ) → Tidy (part_tree l s p)
  pub single : (s p : ℕ) → OneEach (part_tree l s p)
  pub few : (s p : ℕ) → every_hold (part_tree l s p) ≤ 64
  pub known : (s p n : ℕ) → length l.policies ≤ n → holds_at n (part_tree l s p) ≡ 0
  pub chains : length l.chains ≡ length l.policies

-- the front entry of a chain: its part is there, in which that hold waits, and it says what the hold and its transaction say
pub record IsFront (l : Ledger) (n : ℕ) (e : Entry) : Type 0 where
  pub part : IsPart l e.slot e.part
  pub waits : waits_at n (part_tree l e.slot e.part) ≡ 1
  pub says : e ≡ entry_of l e.slot e.part n
