-- The lines of some sources, and where they stop: lines and cuts, but for the cuts.
use Rattle.std.specs.Prelude.{ℕ, suc, ◌+◌, ◌-◌, ◌==◌, nat_le, nat_lt, Bool, true, not, ◌&&◌, if◌then◌else◌, List, [], ◌∷◌, ◌++◌, length, take, Option, Some, None}
use Rattle.std.specs.Io.BufRead.{strip_last}
use Rattle.std.specs.Str.{bytes_eq}
use Rattle.bt_ports.specs.declared.parts.Item.{Item}
use Rattle.bt_ports.specs.Intake.{InputStop, input_end, bound_met, line_too_long}
use Rattle.bt_lines.specs.Pieces.{pieces}
use Rattle.bt_lines.specs.declared.TheConstants.{LONGEST}

-- one source: the path that its items carry, and all its bytes
pub record SourceBytes : Type 0 where
  pub path : Option (List ℕ)
  pub bytes : List ℕ

-- how many bytes the sources have together
abbrev pub byte_count : List SourceBytes → ℕ
byte_count [] = 0
byte_count (s ∷ ss) = length s.bytes + byte_count ss

-- the sources' bytes in order, and no more than the first `bound` of them; each byte stays in its source
abbrev pub within : ℕ → List SourceBytes → List SourceBytes
within bound [] = []
within bound (s ∷ ss) = record { path = s.path; bytes = take bound s.bytes } ∷ within (bound - length s.bytes) ss

-- whether there are at least `bound` bytes
abbrev pub reaches : ℕ → List SourceBytes → Bool
reaches bound ss = nat_le bound (byte_count ss)

-- a line of a source, without its delimiter, and whether it is whole: a line isn't that the bound cuts off
pub record Line : Type 0 where
  pub path : Option (List ℕ)
  pub bytes : List ℕ
  pub whole : Bool

-- the lines among the pieces of a source. The last piece, which no delimiter ends, is a line where it isn't empty
abbrev pub lines_among : Option (List ℕ) → (cut_off : Bool) → List (List ℕ) → List Line
lines_among path cut_off [] = []
lines_among path cut_off (piece ∷ []) = (if length piece == 0 then [] else record { path = path; bytes = piece; whole = not cut_off } ∷ [])
lines_among path cut_off (piece ∷ next ∷ later) = record { path = path; bytes = piece; whole = true } ∷ lines_among path cut_off (next ∷ later)

-- the lines of the sources. Where the input stops at the bound, the last piece of a source is cut off unless bytes of another
-- source follow it
abbrev pub lines_of : List ℕ → (at_bound : Bool) → List SourceBytes → List Line
lines_of d at_bound [] = []
lines_of d at_bound (s ∷ ss) = lines_among s.path (at_bound && (byte_count ss == 0)) (pieces d s.bytes) ++ lines_of d at_bound ss

-- the lines of the first `bound` bytes, with this delimiter
abbrev pub lines : List ℕ → ℕ → List SourceBytes → List Line
lines d bound ss = lines_of d (reaches bound ss) (within bound ss)

-- a line that is longer than lines may be
abbrev pub is_long : Line → Bool
is_long l = nat_lt LONGEST (length l.bytes)

-- a line as an item: where the delimiter is a line feed, one carriage return at its end is dropped
abbrev pub item : List ℕ → Option (List ℕ) → List ℕ → Item
item d path bytes = record { bytes = (if bytes_eq d (10 ∷ []) then strip_last 13 bytes else bytes); path = path }

-- what a line gives: its item, where it is whole
abbrev pub item_of : List ℕ → Line → List Item
item_of d l = if l.whole then item d l.path l.bytes ∷ [] else []

-- the items: the whole lines before the first long one
abbrev pub items : List ℕ → List Line → List Item
items d [] = []
items d (l ∷ ls) = if is_long l then [] else item_of d l ++ items d ls

-- the number of the first long line, where the first of these has the number n
abbrev pub first_long : ℕ → List Line → Option ℕ
first_long n [] = None
first_long n (l ∷ ls) = if is_long l then Some n else first_long (suc n) ls

abbrev stop_at : Option ℕ → Bool → ℕ → InputStop
stop_at (Some n) at_bound bound = line_too_long n
stop_at None at_bound bound = (if at_bound then bound_met bound else input_end)

-- why the input stops: at its first long line, counted from 1 over all sources, at the bound, or at its end
abbrev pub stop : List ℕ → ℕ → List SourceBytes → InputStop
stop d bound ss = stop_at (first_long 1 (lines d bound ss)) (reaches bound ss) bound
