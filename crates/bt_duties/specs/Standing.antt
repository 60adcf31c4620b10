-- What holds of a desk between two calls, beside what is true of its floor.
use Rattle.std.specs.Prelude.{◌≡◌, ℕ, ◌≤◌, true, length, IsSome}
use Rattle.bt_duties.specs.DeskView.{DeskView}
use Rattle.bt_duties.specs.Duties.{Dutiful}
use Rattle.bt_ledger.specs.Ledger.{slot_at, is_free}
use Rattle.bt_moves.specs.Resting.{Emptied, Resting}

pub record Standing {I K A C D : Type 0} (d : DeskView I K A C D) : Type 0 where
  -- no part can go on, the child of each released hold is met or lost, nothing is due, each open transaction has an item
  -- without its answer, and no chain is ripe
  pub resting : Resting d.floor.ledger
  -- each transaction that is out is named by one duty, and no duty names another
  pub dutiful : Dutiful d.floor.ledger d.duties
  -- there are as many slots as the window, at least one
  pub window : length d.floor.ledger.slots ≡ d.window
  pub some : 1 ≤ d.window
  -- after the run was finished, nothing is out or open, and no chain holds anything
  pub finished : d.finished ≡ true → IsSome d.floor.outside.ending
  pub free : d.finished ≡ true → (s : ℕ) → is_free (slot_at d.floor.ledger s) ≡ true
  pub empty : d.finished ≡ true → Emptied d.floor.ledger
