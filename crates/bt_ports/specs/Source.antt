-- What a read of a source gives and takes.
use Rattle.std.specs.Prelude.{◌≡◌, ℕ, ◌+◌, ◌≤◌, Bool, false, true, List, length, take, drop}
use Rattle.bt_ports.specs.declared.parts.Read.{Read}
use Rattle.bt_ports.specs.declared.parts.Read.TheVariants.{Count, End, Failed}
use Rattle.bt_ports.specs.Faults.{Rose}

-- a count is at least 1 and within the buffer's length
abbrev pub ReadFits : Read → ℕ → Type 0
ReadFits (Count n) room = (1 ≤ n) × (n ≤ room)
ReadFits End room = Unit {0}
ReadFits Failed room = Unit {0}

-- a read fails only where the count of faults rose, and one that doesn't fail leaves the count as it was
abbrev pub ReadFaults : Read → ℕ → ℕ → Type 0
ReadFaults (Count n) before after = after ≡ before
ReadFaults End before after = after ≡ before
ReadFaults Failed before after = Rose before after

-- what a read takes of the bytes, of which `old` were taken before it and `new` after it: a count gives the next
-- bytes at the beginning of the buffer, the end comes only where none is left, and neither it nor a failure takes any
abbrev pub ReadTakes : Read → List ℕ → ℕ → ℕ → List ℕ → Type 0
ReadTakes (Count n) bytes old new buffer = (new ≡ old + n) × (old + n ≤ length bytes) × (take n buffer ≡ take n (drop old bytes))
ReadTakes End bytes old new buffer = (new ≡ old) × (length bytes ≤ old)
ReadTakes Failed bytes old new buffer = new ≡ old

-- whether a read failed
abbrev pub read_failed : Read → Bool
read_failed (Count n) = false
read_failed End = false
read_failed Failed = true

-- a fact for the count, where a read gave one
abbrev pub IfCount : Read → (ℕ → Type 0) → Type 0
IfCount (Count n) P = P n
IfCount End P = Unit {0}
IfCount Failed P = Unit {0}
