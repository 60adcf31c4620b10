-- How an interpolated text is cut into literal spans and query spans.
use Rattle.std.specs.Prelude.{ℕ, ◌+◌, true, false, if◌then◌else◌, ◌==◌, List, [], ◌∷◌, ◌++◌, codes, length, Option, Some, None}
use Rattle.memchr.specs.Find.{IsFirst, OccursAt, Passes, is_byte}
use Rattle.bt_pieces.specs.declared.cut.Span.{Span}

-- the first `${!` from a place on, or none
abbrev pub FirstMark : List ℕ → ℕ → Option ℕ → Type 0
FirstMark s from r = IsFirst (OccursAt s (codes "${!")) from (length s + 1) r

-- the first `}` from a place on, or none
abbrev pub FirstClose : List ℕ → ℕ → Option ℕ → Type 0
FirstClose s from r = IsFirst (Passes (is_byte 125) s) from (length s) r

-- a literal span, unless it were empty
abbrev pub literal : ℕ → ℕ → List Span
literal from to = if from == to then [] else record { query = false; from = from; to = to } ∷ []

-- The text is cut so from a place on. A query stands between a `${!` and the next `}`. Where no `${!` follows, or no `}` after
-- the next one, all that is left is a literal.
pub data CutFrom (s : List ℕ) : ℕ → List Span → Type 0 where
  no_mark : {from : ℕ} → FirstMark s from None → CutFrom s from (literal from (length s))
  no_close : {from : ℕ} (mark : ℕ) → FirstMark s from (Some mark) → FirstClose s (mark + 3) None → CutFrom s from (literal from (length s))
  query : {from : ℕ} {spans : List Span} (mark close : ℕ) → FirstMark s from (Some mark) → FirstClose s (mark + 3) (Some close) →
      CutFrom s (close + 1) spans → CutFrom s from (literal from mark ++ record { query = true; from = mark + 3; to = close } ∷ spans)

-- the spans of the whole text
abbrev pub IsCut : List ℕ → List Span → Type 0
IsCut s spans = CutFrom s 0 spans
