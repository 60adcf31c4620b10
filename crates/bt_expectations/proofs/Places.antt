-- Two lists of values, element by element.
use Rattle.std.proofs.Common.{◌≡◌, ◌<◌, ◌≤◌, ◌+◌, ℕ, zero, suc, List, [], ◌∷◌, length, drop, get_or, map, slice_get, Bool, true, false, ◌&&◌, refl, sym, ap, subst, ◌∙◌, arith, add-one}
use Rattle.bt_value.specs.declared.val.Val.{Val}
use Rattle.bt_expectations.specs.Within.{is_within, items_within, passes_on}

-- whether those from a place on are within
abbrev pub behind : List Val → List Val → ℕ → Bool
behind xs ys i = items_within (map is_within (drop i xs)) (drop i ys)

none_behind : (xs : List Val) (i : ℕ) → i < length xs → items_within (map is_within (drop i xs)) [] ≡ false
none_behind [] i h = absurd (omega arith)
none_behind (x ∷ xs) zero h = refl
none_behind (x ∷ xs) (suc i) h = none_behind xs i (omega arith)

here : (xs ys : List Val) (i : ℕ) (d : Val) → i < length xs →
    behind xs ys i ≡ (passes_on (is_within (get_or xs i d)) (slice_get ys i) && behind xs ys (suc i))
here [] ys i d h = absurd (omega arith)
here (x ∷ xs) [] zero d h = refl
here (x ∷ xs) [] (suc i) d h = none_behind xs i (omega arith)
here (x ∷ xs) (y ∷ ys) zero d h = refl
here (x ∷ xs) (y ∷ ys) (suc i) d h = here xs ys i d (omega arith)

at_place : (xs ys : List Val) (i : ℕ) (x : Val) (b : Bool) → i < length xs → x ≡ get_or xs i x → b ≡ passes_on (is_within x) (slice_get ys i) →
    behind xs ys i ≡ (b && behind xs ys (suc i))
at_place xs ys i x b h is answer =
    here xs ys i x h
    ∙ ap (λ (t : Bool). t && behind xs ys (suc i)) (ap (λ (v : Val). passes_on (is_within v) (slice_get ys i)) (sym is) ∙ sym answer)

-- the element at a place has what is expected within
pub next : (xs ys : List Val) (i : ℕ) (x : Val) (b all : Bool) → i < length xs → x ≡ get_or xs i x → b ≡ passes_on (is_within x) (slice_get ys i) → b ≡ true →
    behind xs ys i ≡ all → behind xs ys (i + 1) ≡ all
next xs ys i x b all h is answer passes before =
    rw add-one (sym (at_place xs ys i x b h is answer ∙ ap (λ (t : Bool). t && behind xs ys (suc i)) passes) ∙ before)

-- it hasn't
pub stop : (xs ys : List Val) (i : ℕ) (x : Val) (b all : Bool) → i < length xs → x ≡ get_or xs i x → b ≡ passes_on (is_within x) (slice_get ys i) → b ≡ false →
    behind xs ys i ≡ all → false ≡ all
stop xs ys i x b all h is answer fails before =
    sym (at_place xs ys i x b h is answer ∙ ap (λ (t : Bool). t && behind xs ys (suc i)) fails) ∙ before

-- nothing more is expected
none_left : (xs ys : List Val) (i : ℕ) → length xs ≤ i → behind xs ys i ≡ true
none_left [] ys zero h = refl
none_left [] ys (suc i) h = refl
none_left (x ∷ xs) ys zero h = absurd (omega arith)
none_left (x ∷ xs) [] (suc i) h = nothing xs i (omega arith)
  where
    nothing : (xs : List Val) (i : ℕ) → length xs ≤ i → items_within (map is_within (drop i xs)) [] ≡ true
    nothing [] zero h = refl
    nothing [] (suc i) h = refl
    nothing (x ∷ xs) zero h = absurd (omega arith)
    nothing (x ∷ xs) (suc i) h = nothing xs i (omega arith)
none_left (x ∷ xs) (y ∷ ys) (suc i) h = none_left xs ys i (omega arith)

pub done : (xs ys : List Val) (i : ℕ) (all : Bool) → length xs ≤ i → behind xs ys i ≡ all → true ≡ all
done xs ys i all h before = sym (none_left xs ys i h) ∙ before
