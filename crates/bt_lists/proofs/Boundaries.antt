-- Where a text may be cut.
use Rattle.std.proofs.Common.{◌≡◌, ◌↔◌, ℕ, List, Bool, true, false, length, get_or, refl, sym, arith, ltb, leb}
use Rattle.std.specs.Bool.{IsTrue}
use Rattle.std.specs.Str.{IsCharBoundary}
use Rattle.std.proofs.lemmas.Bool.{le-leb, ltb-true, ltb-false, leb-true, leb-false}
use Rattle.bt_lists.specs.Slices.{is_boundary}

holds : (s : List ℕ) (i : ℕ) (a b c d : Bool) → leb i (length s) ≡ a → ltb i (length s) ≡ b → leb 128 (get_or s i 0) ≡ c → ltb (get_or s i 0) 192 ≡ d
    → (is_boundary s i ≡ true) ↔ IsCharBoundary s i
holds s i false b c d ea eb ec ed = rw ea (λ e. cc, λ h. cc (le-leb i (length s) h.0))
holds s i true false c d ea eb ec ed = rw (ea, eb) (λ e. (leb-true _ _ ea, λ l. absurd (omega (arith, ltb-false _ _ eb))), λ h. refl)
holds s i true true false d ea eb ec ed = rw (ea, eb, ec) (λ e. (leb-true _ _ ea, λ l m. absurd (omega (arith, leb-false _ _ ec))), λ h. refl)
holds s i true true true true ea eb ec ed = rw (ea, eb, ec, ed) (λ e. cc, λ h. absurd (omega (arith, h.1 (ltb-true _ _ eb) (leb-true _ _ ec), ltb-true _ _ ed)))
holds s i true true true false ea eb ec ed = rw (ea, eb, ec, ed) (λ e. (leb-true _ _ ea, λ l m. ltb-false _ _ ed), λ h. refl)

same : (a b : Bool) → ((a ≡ true) ↔ (b ≡ true)) → a ≡ b
same true true h = refl
same false false h = refl
same true false h = sym (h.0 refl)
same false true h = h.1 refl

pub boundary_is : (s : List ℕ) (i : ℕ) (b : Bool) → IsTrue b ↔ IsCharBoundary s i → b ≡ is_boundary s i
boundary_is s i b h =
    let k = holds s i _ _ _ _ refl refl refl refl in
    same b (is_boundary s i) (λ e. k.1 (h.0 e), λ e. h.1 (k.0 e))
