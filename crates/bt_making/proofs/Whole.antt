-- The spans that a text is cut into lie between places where characters begin.
use Rattle.std.proofs.Common.{◌≡◌, ℕ, ◌+◌, ◌<◌, ◌≤◌, ◌==◌, Bool, true, false, List, [], ◌∷◌, ◌++◌, Some, length, get_or, subst, arith, append-nil, if◌then◌else◌}
use Rattle.std.specs.Prelude.{IsUtf8}
use Rattle.std.specs.Str.{IsCharBoundary}
use Rattle.std.proofs.lemmas.Str.{IsCharBoundary-after_ascii, IsCharBoundary-before_ascii, IsCharBoundary-end, IsCharBoundary-start}
use Rattle.std.proofs.lemmas.Bool.Decides.{nat_tests}
use Rattle.bt_pieces.specs.declared.cut.Span.{Span}
use Rattle.bt_pieces.specs.Pieces as pieces
use Rattle.bt_pieces.specs.Pieces.{CutFrom, FirstMark, FirstClose, IsCut, literal}
use Rattle.bt_making.specs.Inside.{AreWhole, IsWhole}

literal_whole : (s : List ℕ) (empty : Bool) (from to : ℕ) (rest : List Span) → from ≤ to → IsCharBoundary s from → IsCharBoundary s to → AreWhole s rest →
    AreWhole s ((if empty then [] else record { query = false; from = from; to = to } ∷ []) ++ rest)
literal_whole s true from to rest order begins ends h = h
literal_whole s false from to rest order begins ends h = (record { order = order; from = begins; to = ends }, h)

last_whole : (s : List ℕ) (from : ℕ) → from ≤ length s → IsCharBoundary s from → AreWhole s (literal from (length s))
last_whole s from inside begins =
    subst (AreWhole s) (append-nil (literal from (length s))) (literal_whole s (from == length s) from (length s) [] inside begins (IsCharBoundary-end s) tt)

mark_begins : (s : List ℕ) (from mark : ℕ) → FirstMark s from (Some mark) → IsCharBoundary s mark
mark_begins s from mark m =
    let there : get_or s (mark + 0) 0 ≡ 36 = m.1.reads 0 (omega arith) in
    let fits : mark + 3 ≤ length s = m.1.fits in
    IsCharBoundary-before_ascii s mark (omega arith) (grind arith)

query_whole : (s : List ℕ) (from mark close : ℕ) → IsUtf8 s → FirstMark s from (Some mark) → FirstClose s (mark + 3) (Some close) →
    IsWhole s (record { query = true; from = mark + 3; to = close })
query_whole s from mark close utf8 m c =
    let there : get_or s (mark + 2) 0 ≡ 33 = m.1.reads 2 (omega arith) in
    let fits : mark + 3 ≤ length s = m.1.fits in
    let begins = IsCharBoundary-after_ascii s (mark + 2) utf8 (omega arith) (omega arith) in
    let last : get_or s close 0 ≡ 125 = grind (arith, nat_tests) in
    record {
      order = c.0.low;
      from = subst (IsCharBoundary s) (omega arith) begins;
      to = IsCharBoundary-before_ascii s close c.0.high (omega arith);
    }

past_close : (s : List ℕ) (mark close : ℕ) → IsUtf8 s → FirstClose s (mark + 3) (Some close) → IsCharBoundary s (close + 1)
past_close s mark close utf8 c =
    let last : get_or s close 0 ≡ 125 = grind (arith, nat_tests) in
    IsCharBoundary-after_ascii s close utf8 c.0.high (omega arith)

spans_whole : (s : List ℕ) (from : ℕ) (spans : List Span) → IsUtf8 s → from ≤ length s → IsCharBoundary s from → CutFrom s from spans → AreWhole s spans
spans_whole s from _ utf8 inside begins (pieces.no_mark m) = last_whole s from inside begins
spans_whole s from _ utf8 inside begins (pieces.no_close mark m c) = last_whole s from inside begins
spans_whole s from _ utf8 inside begins (pieces.query {spans} mark close m c rest) =
    let high : close < length s = c.0.high in
    literal_whole s (from == mark) from mark (record { query = true; from = mark + 3; to = close } ∷ spans) m.0.low begins (mark_begins s from mark m)
    (query_whole s from mark close utf8 m c, spans_whole s (close + 1) spans utf8 (omega arith) (past_close s mark close utf8 c) rest)

pub cut_whole : (s : List ℕ) (spans : List Span) → IsUtf8 s → IsCut s spans → AreWhole s spans
cut_whole s spans utf8 cut = spans_whole s 0 spans utf8 (omega arith) (IsCharBoundary-start s utf8) cut
