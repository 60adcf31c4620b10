-- Where the queries of an interpolated text stand.
use Rattle.std.proofs.Common.{◌≡◌, slice_range, ℕ, ◌+◌, ◌<◌, ◌≤◌, ◌==◌, Bool, true, false, List, [], ◌∷◌, ◌++◌, Some, length, take, get_or, ap, ◌∙◌, subst, sym, arith, append-nil, if◌then◌else◌, zero, suc}
use Rattle.std.specs.Prelude.{IsUtf8}
use Rattle.std.specs.Str.{IsCharBoundary}
use Rattle.std.proofs.lemmas.List.{take_more}
use Rattle.std.proofs.lemmas.Str.{IsCharBoundary-after_ascii, IsCharBoundary-before_ascii}
use Rattle.std.proofs.lemmas.Grind.{flat_map-append}
use Rattle.std.proofs.lemmas.Bool.Decides.{nat_tests}
use Rattle.bt_pieces.specs.declared.cut.Span.{Span}
use Rattle.bt_pieces.specs.Pieces as pieces
use Rattle.bt_pieces.specs.Pieces.{CutFrom, FirstMark, FirstClose, literal}
use Rattle.bt_syntax.specs.Grammar.{ReadsCheck}
use Rattle.bt_lints.specs.declared.lint.Use.TheVariants as usage
use Rattle.bt_text_lints.specs.Inside.{AddsQueries, IsWhole}
use Rattle.bt_text_lints.specs.Verdicts.{AreJudged, IsJudged, joined, one_more, queries, query_of}
use Rattle.bt_text_lints.specs.declared.verdict.Verdict.{Verdict}

-- each query among them does
abbrev pub AreWhole : List ℕ → List Span → Type 0
AreWhole s [] = Unit {0}
AreWhole s (x ∷ xs) = (x.query ≡ true → IsWhole s x) × AreWhole s xs

abbrev literal_span : ℕ → ℕ → Span
literal_span from to = record { query = false; from = from; to = to }

literal-whole : (s : List ℕ) (empty : Bool) (from to : ℕ) (rest : List Span) → AreWhole s rest →
    AreWhole s ((if empty then [] else literal_span from to ∷ []) ++ rest)
literal-whole s true from to rest h = h
literal-whole s false from to rest h = (λ e. cc, h)

query-whole : (s : List ℕ) (from mark close : ℕ) → IsUtf8 s → FirstMark s from (Some mark) → FirstClose s (mark + 3) (Some close) →
    IsWhole s (record { query = true; from = mark + 3; to = close })
query-whole s from mark close utf8 m c =
    let there : get_or s (mark + 2) 0 ≡ 33 = m.1.reads 2 (omega arith) in
    let fits : mark + 3 ≤ length s = m.1.fits in
    let begins = IsCharBoundary-after_ascii s (mark + 2) utf8 (omega arith) (omega arith) in
    let last : get_or s close 0 ≡ 125 = grind (arith, nat_tests) in
    record {
      order = c.0.low;
      from = subst (IsCharBoundary s) (omega arith) begins;
      to = IsCharBoundary-before_ascii s close c.0.high (omega arith);
    }

pub spans-whole : (s : List ℕ) (from : ℕ) (spans : List Span) → IsUtf8 s → CutFrom s from spans → AreWhole s spans
spans-whole s from _ utf8 (pieces.no_mark m) = subst (AreWhole s) (append-nil (literal from (length s))) (literal-whole s (from == length s) from (length s) [] tt)
spans-whole s from _ utf8 (pieces.no_close mark m c) = subst (AreWhole s) (append-nil (literal from (length s))) (literal-whole s (from == length s) from (length s) [] tt)
spans-whole s from _ utf8 (pieces.query {spans} mark close m c rest) =
    literal-whole s (from == mark) from mark (record { query = true; from = mark + 3; to = close } ∷ spans)
    (λ e. query-whole s from mark close utf8 m c, spans-whole s (close + 1) spans utf8 rest)

pub whole-at : (s : List ℕ) (spans : List Span) (i : ℕ) (d : Span) → AreWhole s spans → i < length spans → (get_or spans i d).query ≡ true → IsWhole s (get_or spans i d)
whole-at s [] i d all inside e = absurd (omega arith)
whole-at s (x ∷ xs) zero d all inside e = all.0 e
whole-at s (x ∷ xs) (suc i) d all inside e = whole-at s xs i d all.1 (omega arith) e

-- one span more
pub queries-next : (s : List ℕ) (spans : List Span) (i : ℕ) (d : Span) → i < length spans →
    queries s (take (i + 1) spans) ≡ queries s (take i spans) ++ query_of s (get_or spans i d)
queries-next s spans i d inside =
    ap (queries s) (take_more spans i d inside) ∙ flat_map-append (query_of s) (take i spans) (get_or spans i d ∷ [])
    ∙ ap (λ q. queries s (take i spans) ++ q) (append-nil (query_of s (get_or spans i d)))

-- the span at a place among those that a text is cut into
pub span-whole : (s : List ℕ) (spans items : List Span) (i : ℕ) (d : Span) → IsUtf8 s → CutFrom s 0 spans → items ≡ spans → i < length items →
    (get_or items i d).query ≡ true → IsWhole s (get_or items i d)
span-whole s spans items i d utf8 cut same inside is =
    whole-at s items i d (subst (AreWhole s) (sym same) (spans-whole s 0 spans utf8 cut)) inside is

-- a span that is no query adds nothing
pub adds_none : (s : List ℕ) (span : Span) (v : Verdict) → span.query ≡ false → AddsQueries (query_of s span) v v
adds_none s span v e = λ before h. subst (λ (q : List (List ℕ)). AreJudged q v) (sym (rw e (append-nil before))) h

-- a query adds what is wrong with it
pub adds_one : (s t : List ℕ) (span : Span) (v w u : Verdict) → span.query ≡ true → t ≡ slice_range s span.from span.to → IsJudged ReadsCheck usage.Check t w →
    u ≡ joined v w → AddsQueries (query_of s span) v u
adds_one s t span v w u e same judged is = λ before h.
    rw (e, is) (one_more h (subst (λ (x : List ℕ). IsJudged ReadsCheck usage.Check x w) same judged))

-- the queries of the spans so far and of one more
pub one-further : (s : List ℕ) (items : List Span) (i : ℕ) (d : Span) (v w : Verdict) → i < length items → AreJudged (queries s (take i items)) v →
    AddsQueries (query_of s (get_or items i d)) v w → AreJudged (queries s (take (i + 1) items)) w
one-further s items i d v w inside before adds =
    subst (λ (qs : List (List ℕ)). AreJudged qs w) (sym (queries-next s items i d inside)) (adds (queries s (take i items)) before)
