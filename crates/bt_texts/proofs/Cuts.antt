-- Places at which a text is cut round the occurrences of another: they rise, and the text may be cut at each of them.
use Rattle.std.proofs.Common.{◌≡◌, ℕ, zero, suc, ◌+◌, ◌-◌, ◌<◌, ◌≤◌, Bool, true, false, List, [], ◌∷◌, length, drop, get_or, refl, sym, ap, subst, ◌∙◌, arith, length-drop, if◌then◌else◌}
use Rattle.std.specs.Prelude.{IsUtf8}
use Rattle.std.specs.Str.{IsCharBoundary}
use Rattle.std.proofs.lemmas.Str.{IsCharBoundary-start, IsCharBoundary-from_take, IsCharBoundary-from_rest, IsUtf8-drop}
use Rattle.memchr.specs.Find.{OccursAt, occurs_at, match_len, matches_from, matches}
use Rattle.memchr.proofs.lemmas.MatchLemmas.{OccursAt-part, OccursAt-true}

-- behind a place, no occurrence of n bytes begins before the one in front of it ends, and P holds at both its ends
abbrev pub Later : (ℕ → Type 0) → ℕ → ℕ → List ℕ → Type 0
Later P n from [] = Unit {0}
Later P n from (m ∷ ms) = (from ≤ m) × P m × P (m + n) × Later P n (m + n) ms

later_by : (P : ℕ → Type 0) (n from i : ℕ) (hit miss : List ℕ) (b : Bool)
    → (b ≡ true → Later P n from (i ∷ hit)) → (b ≡ false → Later P n from miss) → Later P n from (if b then i ∷ hit else miss)
later_by P n from i hit miss true f g = f refl
later_by P n from i hit miss false f g = g refl

past_match : (t : List ℕ) (i : ℕ) → 0 < length t → i + length t ≤ (i + 1) + (match_len t - 1)
past_match t i pos = omega arith

later_from : (P : ℕ → Type 0) (s t : List ℕ) → ((m : ℕ) → OccursAt s t m → P m × P (m + length t)) → 0 < length t
    → (from skip i n : ℕ) → from ≤ i + skip → Later P (length t) from (matches_from s t skip i n)
unfolding matches_from
later_from P s t ok pos from skip i zero le = tt
later_from P s t ok pos from zero i (suc n) le =
    later_by P (length t) from i _ _ (occurs_at s t i)
    (λ e.
    let both = ok i (OccursAt-true s t i e) in
    (omega (arith, le), both.0, both.1, later_from P s t ok pos (i + length t) (match_len t - 1) (i + 1) n (past_match t i pos)))
    (λ e. later_from P s t ok pos from 0 (i + 1) n (omega (arith, le)))
later_from P s t ok pos from (suc skip) i (suc n) le = later_from P s t ok pos from skip (i + 1) n (omega (arith, le))

-- a text may be cut before and behind an occurrence of another
around : (s t : List ℕ) → IsUtf8 s → IsUtf8 t → 0 < length t → (m : ℕ) → OccursAt s t m → IsCharBoundary s m × IsCharBoundary s (m + length t)
around s t us ut pos m occ =
    let start : m + 0 ≡ m = omega arith in
    let same : get_or s m 0 ≡ get_or t 0 0 = ap (λ k. get_or s k 0) (sym start) ∙ occ.reads 0 pos in
    let begins = (IsCharBoundary-start t ut).1 pos in
    let before : IsCharBoundary s m = (omega (arith, occ.fits), λ l high. omega (arith, same, begins (omega (arith, same, high)))) in
    let rest = IsUtf8-drop s m us before in
    let part = subst IsUtf8 (sym (OccursAt-part s t m occ)) ut in
    let within : length t ≤ length (drop m s) = omega (arith, occ.fits, length-drop m s) in
    (before, IsCharBoundary-from_rest s m (length t) (omega (arith, occ.fits)) (IsCharBoundary-from_take (drop m s) (length t) rest within part))

pub string_cuts : (s t : List ℕ) → IsUtf8 s → IsUtf8 t → 0 < length t → Later (IsCharBoundary s) (length t) 0 (matches s t 0)
string_cuts s t us ut pos = later_from (IsCharBoundary s) s t (around s t us ut pos) pos 0 0 0 _ (omega arith)

-- within a run of bytes
abbrev pub Within : List ℕ → ℕ → Type 0
Within s i = i ≤ length s

pub byte_cuts : (s t : List ℕ) → 0 < length t → Later (Within s) (length t) 0 (matches s t 0)
byte_cuts s t pos = later_from (Within s) s t (λ m occ. (omega (arith, occ.fits), occ.fits)) pos 0 0 0 _ (omega arith)
