-- Whether bytes without a delimiter may still be the begin of a line that isn't too long.
use Rattle.std.specs.Prelude.{◌≡◌, ℕ, ◌+◌, ◌<◌, ◌≤◌, true, false, List, length, drop}
use Rattle.bt_lines.specs.Pieces.{begins}
use Rattle.bt_lines.specs.declared.TheConstants.{LONGEST}

-- the bytes from some place on, which a line may have before it, are the front of the delimiter: of no bytes it is one
pub record MayEnd (d bytes : List ℕ) : Type 0 where
  pub place : ℕ
  pub early : place ≤ LONGEST
  pub inside : place ≤ length bytes
  pub front : begins (drop place bytes) d ≡ true

-- there are too many, and at no such place do they go over into the delimiter
pub record IsTooLong (d bytes : List ℕ) : Type 0 where
  pub many : LONGEST < length bytes
  pub no_front : (place : ℕ) → place ≤ LONGEST → length bytes < place + length d → begins (drop place bytes) d ≡ false
