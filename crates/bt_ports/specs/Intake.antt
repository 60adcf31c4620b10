-- What a call of an intake gives.
use Rattle.std.specs.Prelude.{◌≡◌, ℕ, ◌+◌, ◌^◌, ◌<◌, ◌≤◌, List, length, slice_get, Option, Some, None, Contains}
use Rattle.bt_ports.specs.declared.parts.Item.{Item}
use Rattle.bt_ports.specs.declared.parts.Next.{Next}
use Rattle.bt_ports.specs.declared.parts.Next.TheVariants.{Batch, End, Failed, LongLine, Bound, NoMemory}
use Rattle.bt_ports.specs.Faults.{Rose}

-- why a list of batches ends: at the input's end, before the line of a number that is too long, or at a bound
pub data InputStop : Type 0 where
  input_end : InputStop
  line_too_long : (number : ℕ) → InputStop
  bound_met : (bound : ℕ) → InputStop

-- the answer, where it is another than a batch
abbrev pub stop_of : Next → Option Next
stop_of (Batch items) = None
stop_of End = Some End
stop_of Failed = Some Failed
stop_of (LongLine n) = Some (LongLine n)
stop_of Bound = Some Bound
stop_of NoMemory = Some NoMemory

-- a call fails only where the count of faults rose. A batch, the end, a long line and the bound come only where no read
-- of the call failed: the count stands still
abbrev pub NextFaults : Next → ℕ → ℕ → Type 0
NextFaults (Batch items) before after = after ≡ before
NextFaults End before after = after ≡ before
NextFaults Failed before after = Rose before after
NextFaults (LongLine n) before after = after ≡ before
NextFaults Bound before after = after ≡ before
NextFaults NoMemory before after = Unit {0}

-- a batch has at least one item and fewer than 2^32, and lowers the number of items that can still be given by at
-- least its length. No other answer raises that number
abbrev pub NextLowers : Next → ℕ → ℕ → Type 0
NextLowers (Batch items) before after = (1 ≤ length items.list) × (length items.list < 2 ^ 32) × (after + length items.list ≤ before)
NextLowers End before after = after ≤ before
NextLowers Failed before after = after ≤ before
NextLowers (LongLine n) before after = after ≤ before
NextLowers Bound before after = after ≤ before
NextLowers NoMemory before after = after ≤ before

-- which of the batches were given, `old` of them before the call and `new` after it: a batch is the next one, the end,
-- a long line and the bound come only where all were given, and no answer but a batch gives one
abbrev pub NextGives : Next → List (List Item) → ℕ → ℕ → Type 0
NextGives (Batch items) batches old new = (new ≡ old + 1) × (slice_get batches old ≡ Some items.list)
NextGives End batches old new = (new ≡ old) × (length batches ≡ old)
NextGives Failed batches old new = new ≡ old
NextGives (LongLine n) batches old new = (new ≡ old) × (length batches ≡ old)
NextGives Bound batches old new = (new ≡ old) × (length batches ≡ old)
NextGives NoMemory batches old new = new ≡ old

-- which stop an answer comes at, where `bound` is the bound that was met: the end, a long line and the bound come only
-- where the list of batches ends so
abbrev pub NextStops : Next → InputStop → ℕ → Type 0
NextStops (Batch items) stop bound = Unit {0}
NextStops End stop bound = stop ≡ input_end
NextStops Failed stop bound = Unit {0}
NextStops (LongLine n) stop bound = stop ≡ line_too_long n
NextStops Bound stop bound = stop ≡ bound_met bound
NextStops NoMemory stop bound = Unit {0}

-- which bound was met: the answer at a bound tells one of the parts' bounds, and every other one leaves it
abbrev pub NextMeets : Next → List ℕ → ℕ → ℕ → Type 0
NextMeets (Batch items) bounds before after = after ≡ before
NextMeets End bounds before after = after ≡ before
NextMeets Failed bounds before after = after ≡ before
NextMeets (LongLine n) bounds before after = after ≡ before
NextMeets Bound bounds before after = Contains bounds after
NextMeets NoMemory bounds before after = after ≡ before
