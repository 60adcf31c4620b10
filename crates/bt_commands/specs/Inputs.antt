-- What an input of lines says by its answers, and what holds of it between two calls.
use Rattle.std.specs.Prelude.{◌≡◌, ℕ, ◌<◌, ◌≤◌, List, length, Bool, IsTrue, Option, Some, None}
use Rattle.bt_ports.specs.declared.outside.Source as Source
use Rattle.bt_ports.specs.declared.parts.Next.{Next}
use Rattle.bt_ports.specs.declared.parts.Next.TheVariants as next
use Rattle.bt_ports.specs.Intake.{input_end, bound_met, line_too_long}
use Rattle.bt_lines.specs.Lines.{SourceBytes}
use Rattle.bt_intake.specs.Sources.{all_tell, told, taken_count}
use Rattle.bt_commands.specs.Input.{batches, closed, stop}
use Rattle.bt_commands.specs.View.{InputView}

-- what an answer other than a batch says, where `taken` bytes were taken and `given` lines given. What it says of the
-- sources' bytes it says where they tell them.
--
-- End: fewer bytes than the bound were taken, the input stops so, and all lines were given.
-- LongLine: the input stops at the long line of this number, and all lines before it were given.
-- Bound: as many bytes as the bound were taken, the input stops so, and all lines were given.
-- Failed: each line that is closed in the bytes taken was given.
-- NoMemory says nothing.
abbrev pub Says : Next → (bound taken given : ℕ) → Bool → List SourceBytes → Type 0
Says (next.Batch items) bound taken given tells ss = ⊥
Says next.End bound taken given tells ss = (taken < bound) × (IsTrue tells → stop bound ss ≡ input_end) × (IsTrue tells → length (batches bound ss) ≡ given)
Says next.Failed bound taken given tells ss = IsTrue tells → length (closed taken ss) ≤ given
Says (next.LongLine n) bound taken given tells ss = (IsTrue tells → stop bound ss ≡ line_too_long n) × (IsTrue tells → length (batches bound ss) ≡ given)
Says next.Bound bound taken given tells ss = (taken ≡ bound) × (IsTrue tells → stop bound ss ≡ bound_met bound) × (IsTrue tells → length (batches bound ss) ≡ given)
Says next.NoMemory bound taken given tells ss = Unit {0}

-- the answer other than a batch is true, where there is one
abbrev pub StopSays : Option Next → (bound taken given : ℕ) → Bool → List SourceBytes → Type 0
StopSays None bound taken given tells ss = Unit {0}
StopSays (Some answer) bound taken given tells ss = Says answer bound taken given tells ss

-- what holds of an input of lines at any time
pub record Standing {S : Type 0} (g : Source.Ghosts S) (i : InputView S) : Type 0 where
  -- it took no more bytes than the bound, and each line took a byte at least
  pub within_bound : i.taken ≤ i.bound
  pub given_taken : i.given ≤ i.taken
  -- its count of the bytes taken is its sources' own
  pub counted : IsTrue (all_tell g i.sources.list) → taken_count g i.sources.list ≡ i.taken
  -- it gave no more lines than there are
  pub in_list : IsTrue (all_tell g i.sources.list) → i.given ≤ length (batches i.bound (told g i.sources.list))
  -- its answer other than a batch was true
  pub stop_says : StopSays i.stopped i.bound i.taken i.given (all_tell g i.sources.list) (told g i.sources.list)
