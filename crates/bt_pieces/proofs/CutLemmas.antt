-- A text is cut in one way, and what is found behind a place is found in the whole text.
use Rattle.std.proofs.Common.{◌≡◌, ℕ, ◌+◌, ◌-◌, ◌<◌, ◌≤◌, Bool, true, List, [], ◌∷◌, ◌++◌, Option, Some, None, option_map, length, drop, get_or, refl, sym, ap, subst, ◌∙◌, arith, codes, length-drop, add_assoc, append_assoc}
use Rattle.std.proofs.lemmas.List.{get_or-drop}
use Rattle.memchr.specs.Find.{IsFirst, IsFirstByte, FindsNeedle, Nowhere, OccursAt, Passes, is_byte}
use Rattle.bt_pieces.specs.declared.cut.Span.{Span}
use Rattle.bt_pieces.specs.Pieces as spec
use Rattle.bt_pieces.specs.Pieces.{CutFrom, FirstMark, FirstClose, literal}

-- ---- one cut

only : (k l : ℕ) → (k < l → ⊥) → (l < k → ⊥) → k ≡ l
only k l f g = omega arith

one_first : (P : ℕ → Type 0) (i j : ℕ) (r q : Option ℕ) → IsFirst P i j r → IsFirst P i j q → r ≡ q
one_first P i j None None h g = refl
one_first P i j None (Some k) h g = absurd (h k g.0.low g.0.high g.1)
one_first P i j (Some k) None h g = absurd (g k h.0.low h.0.high h.1)
one_first P i j (Some k) (Some l) h g = ap Some (only k l (λ lt. g.0.before k h.0.low lt h.1) (λ lt. h.0.before l g.0.low lt g.1))

pub one_mark : (s : List ℕ) (from : ℕ) (r q : Option ℕ) → FirstMark s from r → FirstMark s from q → r ≡ q
one_mark s from r q h g = one_first (OccursAt s (codes "${!")) from (length s + 1) r q h g

pub one_close : (s : List ℕ) (from : ℕ) (r q : Option ℕ) → FirstClose s from r → FirstClose s from q → r ≡ q
one_close s from r q h g = one_first (Passes (is_byte 125) s) from (length s) r q h g

none_some : {k : ℕ} → ◌≡◌ {A = Option ℕ} None (Some k) → ⊥
none_some e = cc

some_same : {k l : ℕ} → ◌≡◌ {A = Option ℕ} (Some k) (Some l) → k ≡ l
some_same e = cc

query_span : ℕ → ℕ → Span
query_span from to = record { query = true; from = from; to = to }

pub one_cut_from : (s : List ℕ) (from : ℕ) (xs ys : List Span) → CutFrom s from xs → CutFrom s from ys → xs ≡ ys
one_cut_from s from _ _ (spec.no_mark h) (spec.no_mark g) = refl
one_cut_from s from _ _ (spec.no_mark h) (spec.no_close mark g c) = absurd (none_some (one_mark s from _ _ h g))
one_cut_from s from _ _ (spec.no_mark h) (spec.query mark close g c r) = absurd (none_some (one_mark s from _ _ h g))
one_cut_from s from _ _ (spec.no_close mark h c) (spec.no_mark g) = absurd (none_some (one_mark s from _ _ g h))
one_cut_from s from _ _ (spec.no_close mark h c) (spec.no_close mark' g d) = refl
one_cut_from s from _ _ (spec.no_close mark h c) (spec.query mark' close g d r) =
    let e : mark' ≡ mark = some_same (one_mark s from _ _ g h) in
    absurd (none_some (one_close s (mark + 3) _ _ c (subst (λ m. FirstClose s (m + 3) (Some close)) e d)))
one_cut_from s from _ _ (spec.query mark close h c r) (spec.no_mark g) = absurd (none_some (one_mark s from _ _ g h))
one_cut_from s from _ _ (spec.query mark close h c r) (spec.no_close mark' g d) =
    let e : mark ≡ mark' = some_same (one_mark s from _ _ h g) in
    absurd (none_some (one_close s (mark' + 3) _ _ d (subst (λ m. FirstClose s (m + 3) (Some close)) e c)))
one_cut_from s from _ _ (spec.query {spans} mark close h c r) (spec.query {spans = spans'} mark' close' g d q) =
    let e : mark' ≡ mark = some_same (one_mark s from _ _ g h) in
    let f : close' ≡ close = some_same (one_close s (mark + 3) _ _ (subst (λ m. FirstClose s (m + 3) (Some close')) e d) c) in
    let rest : spans ≡ spans' = one_cut_from s (close + 1) spans spans' r (subst (λ k. CutFrom s (k + 1) spans') f q) in
    let P : ℕ → ℕ → List Span → List Span = λ m k xs. literal from m ++ record { query = true; from = m + 3; to = k } ∷ xs in
    ap (λ m. P m close spans) (sym e) ∙ ap (λ k. P mark' k spans) (sym f) ∙ ap (λ xs. P mark' close' xs) rest

-- ---- places behind a place

module _ (P Q : ℕ → Type 0) (from n j : ℕ) (ends : j ≡ from + n) (down : (k : ℕ) → Q (from + k) → P k) (up : (k : ℕ) → P k → Q (from + k)) where
  nowhere : (i k : ℕ) → k ≡ from + i → Nowhere P 0 i → Nowhere Q from k
  nowhere i k e h l low high q =
      let same : l ≡ from + (l - from) = omega arith in
      h (l - from) (omega arith) (omega arith) (down (l - from) (subst Q same q))

  pub shifted : (r : Option ℕ) → IsFirst P 0 n r → IsFirst Q from j (option_map (λ i. from + i) r)
  shifted None h = nowhere n j ends h
  shifted (Some k) h = (record { low = omega arith; high = omega (arith, h.0.high); before = nowhere k (from + k) refl h.0.before }, up k h.1)

index_behind : (s : List ℕ) (from k : ℕ) → get_or (drop from s) k 0 ≡ get_or s (from + k) 0
index_behind s from k = get_or-drop from s k 0

module _ (s mark : List ℕ) (from : ℕ) (within : from ≤ length s) where
  occurs_down : (k : ℕ) → OccursAt s mark (from + k) → OccursAt (drop from s) mark k
  occurs_down k h = record {
    fits = omega (arith, length-drop from s, h.fits);
    reads = λ j lt. index_behind s from (k + j) ∙ ap (λ i. get_or s i 0) (sym (add_assoc from k j)) ∙ h.reads j lt;
  }

  occurs_up : (k : ℕ) → OccursAt (drop from s) mark k → OccursAt s mark (from + k)
  occurs_up k h = record {
    fits = omega (arith, length-drop from s, h.fits);
    reads = λ j lt. ap (λ i. get_or s i 0) (add_assoc from k j) ∙ sym (index_behind s from (k + j)) ∙ h.reads j lt;
  }

  pub occurs_behind : (r : Option ℕ) → IsFirst (OccursAt (drop from s) mark) 0 (length (drop from s) + 1) r → IsFirst (OccursAt s mark) from (length s + 1) (option_map (λ i. from + i) r)
  occurs_behind r h = shifted (OccursAt (drop from s) mark) (OccursAt s mark) from (length (drop from s) + 1) (length s + 1) (omega (arith, length-drop from s)) occurs_down occurs_up r h

module _ (s : List ℕ) (test : ℕ → Bool) (from : ℕ) (within : from ≤ length s) where
  pub passes_behind : (r : Option ℕ) → IsFirst (Passes test (drop from s)) 0 (length (drop from s)) r → IsFirst (Passes test s) from (length s) (option_map (λ i. from + i) r)
  passes_behind r h = shifted (Passes test (drop from s)) (Passes test s) from (length (drop from s)) (length s) (omega (arith, length-drop from s))
      (λ k h. ap test (index_behind s from k) ∙ h) (λ k h. ap test (sym (index_behind s from k)) ∙ h) r h

pub mark_behind : (s u : List ℕ) (from : ℕ) (r o : Option ℕ) → from ≤ length s → u ≡ drop from s → FindsNeedle u (codes "${!") 0 r →
    o ≡ option_map (λ i. from + i) r → FirstMark s from o
mark_behind s u from r o within e h is =
    let found : IsFirst (OccursAt (drop from s) (codes "${!")) 0 (length (drop from s) + 1) r = subst (λ v. IsFirst (OccursAt v (codes "${!")) 0 (length v + 1) r) e h in
    subst (λ p. FirstMark s from p) (sym is) (occurs_behind s (codes "${!") from within r found)

pub close_behind : (s u : List ℕ) (from : ℕ) (r o : Option ℕ) → from ≤ length s → u ≡ drop from s → IsFirstByte (is_byte 125) u r →
    o ≡ option_map (λ i. from + i) r → FirstClose s from o
close_behind s u from r o within e h is =
    let found : IsFirst (Passes (is_byte 125) (drop from s)) 0 (length (drop from s)) r = subst (λ v. IsFirst (Passes (is_byte 125) v) 0 (length v) r) e h in
    subst (λ p. FirstClose s from p) (sym is) (passes_behind s (is_byte 125) from within r found)

-- one query more was cut off
pub cut_more : (s : List ℕ) (from mark close : ℕ) (old a b : List Span) → FirstMark s from (Some mark) → FirstClose s (mark + 3) (Some close) →
    ((more : List Span) → CutFrom s from more → CutFrom s 0 (old ++ more)) → a ≡ old ++ literal from mark →
    b ≡ a ++ record { query = true; from = mark + 3; to = close } ∷ [] → (more : List Span) → CutFrom s (close + 1) more → CutFrom s 0 (b ++ more)
cut_more s from mark close old a b m c h e f more r =
    let q : Span = record { query = true; from = mark + 3; to = close } in
    let split : b ++ more ≡ old ++ (literal from mark ++ q ∷ more) =
    ap (λ xs. xs ++ more) (f ∙ ap (λ xs. xs ++ q ∷ []) e) ∙ append_assoc (old ++ literal from mark) (q ∷ []) more ∙ append_assoc old (literal from mark) (q ∷ more) in
    subst (λ xs. CutFrom s 0 xs) (sym split) (h (literal from mark ++ q ∷ more) (spec.query mark close m c r))
