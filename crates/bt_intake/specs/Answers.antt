-- What an intake of lines says by its answers, and what holds of it between two calls.
use Rattle.std.specs.Prelude.{◌≡◌, ℕ, ◌+◌, ◌-◌, ◌<◌, ◌≤◌, List, length, Bool, true, IsTrue, Option, Some, None, slice_get}
use Rattle.bt_ports.specs.declared.outside.Source as Source
use Rattle.bt_ports.specs.declared.parts.Named.{Named}
use Rattle.bt_ports.specs.declared.parts.Next.{Next}
use Rattle.bt_ports.specs.declared.parts.Next.TheVariants as next
use Rattle.bt_ports.specs.Intake.{input_end, bound_met, line_too_long}
use Rattle.bt_lines.specs.Lines.{SourceBytes, Line, lines, first_long, stop}
use Rattle.bt_intake.specs.declared.policy.Policy.{Policy}
use Rattle.bt_intake.specs.Batches.{batches, closed, is_off}
use Rattle.bt_intake.specs.Ending.{MayEnd}
use Rattle.bt_intake.specs.Sources.{all_tell, told, taken_count, OneRose}
use Rattle.bt_intake.specs.View.{LineView}

-- what an answer other than a batch says, where `taken` bytes were taken and `given` batches given. What it says of the
-- sources' bytes it says where they tell them.
--
-- End: fewer bytes than the bound were taken, the list ends so, and all of it was given.
-- LongLine: the list ends before the long line of this number, and all of it was given.
-- Bound: as many bytes as the bound were taken, the list ends so, and all of it was given.
-- Failed: each batch that is closed in the bytes taken was given.
-- NoMemory says nothing.
abbrev pub Says : Next → List ℕ → Policy → (bound taken given : ℕ) → Bool → List SourceBytes → Type 0
Says (next.Batch items) d p bound taken given tells ss = ⊥
Says next.End d p bound taken given tells ss = (taken < bound) × (IsTrue tells → stop d bound ss ≡ input_end) × (IsTrue tells → length (batches d p bound ss) ≡ given)
Says next.Failed d p bound taken given tells ss = IsTrue tells → length (closed d p taken ss) ≤ given
Says (next.LongLine n) d p bound taken given tells ss = (IsTrue tells → stop d bound ss ≡ line_too_long n) × (IsTrue tells → length (batches d p bound ss) ≡ given)
Says next.Bound d p bound taken given tells ss = (taken ≡ bound) × (IsTrue tells → stop d bound ss ≡ bound_met bound) × (IsTrue tells → length (batches d p bound ss) ≡ given)
Says next.NoMemory d p bound taken given tells ss = Unit {0}

-- the answer other than a batch is true, where there is one
abbrev pub StopSays : Option Next → List ℕ → Policy → (bound taken given : ℕ) → Bool → List SourceBytes → Type 0
StopSays None d p bound taken given tells ss = Unit {0}
StopSays (Some answer) d p bound taken given tells ss = Says answer d p bound taken given tells ss

-- what holds of an intake of lines at any time
pub record Standing {S : Type 0} (g : Source.Ghosts S) (i : LineView S) : Type 0 where
  -- it took no more bytes than the bound, and each item took a byte at least
  pub within_bound : i.taken ≤ i.bound
  pub items_taken : i.items ≤ i.taken
  -- where every item is a batch, it gave as many of both
  pub one_each : is_off i.policy ≡ true → i.items ≡ i.given
  -- its count of the bytes taken is its sources' own
  pub counted : IsTrue (all_tell g i.sources.list) → taken_count g i.sources.list ≡ i.taken
  -- it gave no more batches than there are
  pub in_list : IsTrue (all_tell g i.sources.list) → i.given ≤ length (batches i.delimiter i.policy i.bound (told g i.sources.list))
  -- its answer other than a batch was true
  pub stop_says : StopSays i.stopped i.delimiter i.policy i.bound i.taken i.given (all_tell g i.sources.list) (told g i.sources.list)

-- a failure comes only where the count of faults of one of the sources rose
abbrev pub FailsWhereOneRose : {S : Type 0} → Source.Ghosts S → Next → List (Named S) → List (Named S) → Type 0
FailsWhereOneRose g (next.Batch items) old new = Unit {0}
FailsWhereOneRose g next.End old new = Unit {0}
FailsWhereOneRose g next.Failed old new = OneRose g old new
FailsWhereOneRose g (next.LongLine n) old new = Unit {0}
FailsWhereOneRose g next.Bound old new = Unit {0}
FailsWhereOneRose g next.NoMemory old new = Unit {0}

-- a batch of one item
abbrev pub HasOneItem : Next → Type 0
HasOneItem (next.Batch items) = length items.list ≡ 1
HasOneItem next.End = Unit {0}
HasOneItem next.Failed = Unit {0}
HasOneItem (next.LongLine n) = Unit {0}
HasOneItem next.Bound = Unit {0}
HasOneItem next.NoMemory = Unit {0}

-- the first m bytes show no long line: where one of their lines is too long so far, it is one that the delimiter may still end in time
abbrev pub ShowsNoLong : List ℕ → ℕ → List SourceBytes → Type 0
ShowsNoLong d m ss = (n : ℕ) → first_long 1 (lines d m ss) ≡ Some n → (l : Line) × (slice_get (lines d m ss) (n - 1) ≡ Some l) × MayEnd d l.bytes

-- where bytes were taken, of which `before` were taken before the call and `taken` after it, with `given` batches given
-- before it: its last read began behind m bytes, took at most 4,096, each batch that is closed in these m was given, and they show no
-- long line
pub record ReadsLate (d : List ℕ) (p : Policy) (before taken given : ℕ) (ss : List SourceBytes) : Type 0 where
  pub m : ℕ
  pub from : before ≤ m
  pub to : taken ≤ m + 4096
  pub rises : m < taken
  pub closed_given : length (closed d p m ss) ≤ given
  pub no_long : ShowsNoLong d m ss
