-- How far the bytes of some sources are cut into lines. Only proofs use it.
use Rattle.std.specs.Prelude.{◌≡◌, ℕ, ◌+◌, List, length, drop, Option}
use Rattle.bt_lines.specs.Lines.{SourceBytes, byte_count, lines, items, first_long}

abbrev pub source : Option (List ℕ) → List ℕ → SourceBytes
source path bytes = record { path = path; bytes = bytes }

-- `taken` bytes were taken of `all`, of which `uncut` aren't cut yet, and `given` lines were given, none of them long. What is still
-- to be cut is `rest`: the bytes `uncut` and all that weren't taken. Then for every bound that isn't passed yet the lines and the
-- items still to come are those of the rest, and the first long line is the rest's.
pub record Follows (d : List ℕ) (all : List SourceBytes) (given taken : ℕ) (uncut : List ℕ) (rest : List SourceBytes) : Type 0 where
  pub lines_come : (room : ℕ) → drop given (lines d (taken + room) all) ≡ lines d (length uncut + room) rest
  pub to_come : (room : ℕ) → drop given (items d (lines d (taken + room) all)) ≡ items d (lines d (length uncut + room) rest)
  pub long_comes : (room : ℕ) → first_long 1 (lines d (taken + room) all) ≡ first_long (given + 1) (lines d (length uncut + room) rest)
  pub totals : byte_count all + length uncut ≡ taken + byte_count rest
