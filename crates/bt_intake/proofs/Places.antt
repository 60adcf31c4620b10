-- Where a search finds a delimiter.
use Rattle.std.proofs.Common.{◌≡◌, ℕ, zero, suc, ◌+◌, ◌<◌, ◌≤◌, true, false, ◌&&◌, eqb, List, [], ◌∷◌, length, take, drop, Option, None, Some, slice_index, refl, sym, ap, ◌∙◌, arith, inl, inr}
use Rattle.std.specs.Prelude.{MatchOption}
use Rattle.std.specs.List.{starts_with}
use Rattle.std.proofs.lemmas.Bool.{cases_Bool, cases_lt, and_parts, and_from, eq-eqb, eqb-true}
use Rattle.std.proofs.lemmas.List.{length-drop}
use Rattle.memchr.specs.Find.{IsFirstByte, FindsNeedle, OccursAt, is_byte}
use Rattle.memchr.proofs.lemmas.MatchLemmas.{OccursAt-part}
use Rattle.bt_lines.specs.Pieces.{begins, NoneIn, FirstAt}
use Rattle.bt_lines.proofs.Pieces.{begins-length, begins-short}

begins-take : (d s : List ℕ) → take (length d) s ≡ d → begins d s ≡ true
begins-take [] s e = refl
begins-take (x ∷ d) [] e = cc
begins-take (x ∷ d) (y ∷ s) e =
    let first : x ≡ y = cc in
    let later : take (length d) s ≡ d = cc in
    and_from (eqb x y) (begins d s) (eq-eqb x y first) (begins-take d s later)

begins-index : (d s : List ℕ) → begins d s ≡ true → (j : ℕ) → j < length d → slice_index s j ≡ slice_index d j
begins-index [] s e j h = absurd (omega (arith, h))
begins-index (x ∷ d) [] e j h = cc
begins-index (x ∷ d) (y ∷ s) e zero h = sym (eqb-true x y (and_parts (eqb x y) (begins d s) e).0)
begins-index (x ∷ d) (y ∷ s) e (suc j) h = begins-index d s (and_parts (eqb x y) (begins d s) e).1 j (omega (arith, h))

index-drop : (k j : ℕ) (s : List ℕ) → slice_index (drop k s) j ≡ slice_index s (k + j)
index-drop zero j s = let e : 0 + j ≡ j = omega arith in ap (slice_index s) (sym e)
index-drop (suc k) j [] = refl
index-drop (suc k) j (x ∷ s) = let e : suc k + j ≡ suc (k + j) = omega arith in index-drop k j s ∙ ap (slice_index (x ∷ s)) (sym e)

-- it stands where it occurs
occurs-begins : (s d : List ℕ) (k : ℕ) → OccursAt s d k → begins d (drop k s) ≡ true
occurs-begins s d k o = begins-take d (drop k s) (OccursAt-part s d k o)

begins-occurs : (s d : List ℕ) (k : ℕ) → k ≤ length s → begins d (drop k s) ≡ true → OccursAt s d k
begins-occurs s d k h e = record {
  fits = omega (arith, begins-length d (drop k s) e, length-drop k s, h);
  reads = λ j l. sym (index-drop k j s) ∙ begins-index d (drop k s) e j l;
}

-- no delimiter stands behind the last byte
nowhere : (s d : List ℕ) (k : ℕ) → length s < k + 1 → 1 ≤ length d → begins d (drop k s) ≡ false
nowhere s d k h some = begins-short d (drop k s) (omega (arith, length-drop k s, h, some))

-- a search for a needle
pub needle-found : (s d : List ℕ) → 1 ≤ length d → (r : Option ℕ) → FindsNeedle s d 0 r → MatchOption r (NoneIn d s) (λ n. FirstAt d s n)
needle-found s d some None f = λ k. elim (cases_lt k (length s)) [
  | inl h ↦ elim (cases_Bool (begins d (drop k s))) [ inl e ↦ absurd (f k (omega arith) (omega (arith, h)) (begins-occurs s d k (omega (arith, h)) e)) | inr e ↦ e ]
  | inr h ↦ nowhere s d k (omega (arith, h)) some
]
needle-found s d some (Some n) f = record {
  inside = f.1.fits;
  here = occurs-begins s d n f.1;
  before = λ k h. elim (cases_Bool (begins d (drop k s))) [
    | inl e ↦ absurd (f.0.before k (omega arith) h (begins-occurs s d k (omega (arith, h, f.1.fits)) e))
    | inr e ↦ e
  ];
}

-- a search for a byte
byte-here : (b : ℕ) (s : List ℕ) (k : ℕ) → k < length s → is_byte b (slice_index s k) ≡ true → begins (b ∷ []) (drop k s) ≡ true
byte-here b [] k h e = absurd (omega (arith, h))
byte-here b (x ∷ s) zero h e = and_from (eqb b x) true (eq-eqb b x (sym (eqb-true x b e))) refl
byte-here b (x ∷ s) (suc k) h e = byte-here b s k (omega (arith, h)) e

byte-there : (b : ℕ) (s : List ℕ) (k : ℕ) → k < length s → begins (b ∷ []) (drop k s) ≡ true → is_byte b (slice_index s k) ≡ true
byte-there b [] k h e = absurd (omega (arith, h))
byte-there b (x ∷ s) zero h e = eq-eqb x b (sym (eqb-true b x (and_parts (eqb b x) true e).0))
byte-there b (x ∷ s) (suc k) h e = byte-there b s k (omega (arith, h)) e

pub byte-found : (s : List ℕ) (b : ℕ) (r : Option ℕ) → IsFirstByte (is_byte b) s r → MatchOption r (NoneIn (b ∷ []) s) (λ n. FirstAt (b ∷ []) s n)
byte-found s b None f = λ k. elim (cases_lt k (length s)) [
  | inl h ↦ elim (cases_Bool (begins (b ∷ []) (drop k s))) [ inl e ↦ absurd (f k (omega arith) h (byte-there b s k h e)) | inr e ↦ e ]
  | inr h ↦ nowhere s (b ∷ []) k (omega (arith, h)) (omega arith)
]
byte-found s b (Some n) f = record {
  inside = omega (arith, f.0.high);
  here = byte-here b s n f.0.high f.1;
  before = λ k h. elim (cases_Bool (begins (b ∷ []) (drop k s))) [
    | inl e ↦ absurd (f.0.before k (omega arith) h (byte-there b s k (omega (arith, h, f.0.high)) e))
    | inr e ↦ e
  ];
}

-- the front of some bytes, as the library tells it
pub starts-begins : (s d : List ℕ) → starts_with eqb s d ≡ begins d s
starts-begins s [] = refl
starts-begins [] (y ∷ d) = refl
starts-begins (x ∷ s) (y ∷ d) = ap (λ b. eqb y x && b) (starts-begins s d)
