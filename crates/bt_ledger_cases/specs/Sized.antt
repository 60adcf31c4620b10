-- How large a ledger of the cases is. It has three holds.
use Rattle.std.specs.Prelude.{◌≡◌, ℕ, length}
use Rattle.bt_ledger.specs.Ledger.{Ledger}

pub record Sized (window entries : ℕ) (l : Ledger) : Type 0 where
  pub slots : length l.slots ≡ window
  pub places : l.entries ≡ entries
  pub holds : length l.policies ≡ 3
