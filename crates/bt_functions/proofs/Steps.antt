-- Items of ranges, one by one.
use Rattle.std.proofs.Common.{◌≡◌, ◌≤◌, ◌<◌, ◌+◌, ◌-◌, ◌*◌, ◌/◌, ◌^◌, ◌∙◌, ℕ, zero, suc, Bool, true, false, sym, ap, if◌then◌else◌, List, [], ◌∷◌, ◌++◌, refl, add-one, arith, FitsSigned, to_z, of_z, w64}
use Rattle.std.specs.Prelude.{ℤ, pos, negsuc, ◌+ℤ◌, ◌-ℤ◌, ◌*ℤ◌, ◌<ℤ◌}
use Rattle.std.specs.Int.{w128, is_negative}
use Rattle.std.specs.Int.RustNames.{unsigned_abs}
use Rattle.std.proofs.Math.Nat.{mul-le-mul, mul-le-mul_right, div-mul-le_self}
use native.Mathlib.Numerals.{unary_clauses}
use Rattle.std.proofs.lemmas.Int.{ints, to_z-of_z, unsigned_abs-mul, fits_signed_from_abs}
use Rattle.bt_value.specs.declared.val.Val.{Int}
use Rattle.bt_kinds.specs.Operators.{is_zero}
use Rattle.bt_meaning.specs.Functions.{range_items, range_length, above_zero, steps_in}

pub items_none : (a s : ℤ) → range_items a s 0 ≡ []
unfolding range_items
items_none a s = refl

pub items_more : (a s : ℤ) (i : ℕ) → range_items a s (i + 1) ≡ range_items a s i ++ Int (a +ℤ pos i *ℤ s) ∷ []
unfolding range_items
items_more a s i = rw add-one refl

size_of : (s : ℤ) → FitsSigned w64 s → unsigned_abs s ≤ 2 ^ 63
size_of (pos n) f = omega (arith, ints)
size_of (negsuc n) f = omega (arith, ints)

small : (s : ℤ) (i : ℕ) → FitsSigned w64 s → i ≤ 1000000 → unsigned_abs (pos i *ℤ s) ≤ 1000000 * 2 ^ 63
small s i f h = rw unsigned_abs-mul (mul-le-mul h (size_of s f))

bounded : (a z : ℤ) → FitsSigned w64 a → unsigned_abs z ≤ 1000000 * 2 ^ 63 → FitsSigned w128 (a +ℤ z)
bounded a (pos n) f h = omega (arith, ints)
bounded a (negsuc n) f h = omega (arith, ints)

-- the number at a place, computed in 128 bits
pub at_place : (a s : ℤ) (i : ℕ) → FitsSigned w64 a → FitsSigned w64 s → i ≤ 1000000
    → to_z w128 (of_z w128 (to_z w128 (of_z w128 (to_z w64 (of_z w64 a))) +ℤ to_z w128 (of_z w128 (to_z w128 i *ℤ to_z w128 (of_z w128 (to_z w64 (of_z w64 s))))))) ≡ a +ℤ pos i *ℤ s
at_place a s i fa fs h =
    let b : FitsSigned w128 a = omega (arith, ints) in
    let d : FitsSigned w128 s = omega (arith, ints) in
    let e : to_z w128 i ≡ pos i = omega (arith, ints) in
    let u = small s i fs h in
    let p : FitsSigned w128 (pos i *ℤ s) = fits_signed_from_abs w128 (pos i *ℤ s) (omega (arith, u)) in
    let t : FitsSigned w128 (a +ℤ pos i *ℤ s) = bounded a (pos i *ℤ s) fa u in
    rw (to_z-of_z w64 a fa, to_z-of_z w64 s fs, to_z-of_z w128 a b, to_z-of_z w128 s d, e, to_z-of_z w128 (pos i *ℤ s) p, to_z-of_z w128 (a +ℤ pos i *ℤ s) t) refl

-- what stands below a number in its direction, and how often a step goes into it
lower : (z : ℤ) (k : ℕ) → k < above_zero z → pos k <ℤ z
lower (pos n) k h = omega (arith, ints)
lower (negsuc n) k h = absurd (omega arith)

within : (m d i : ℕ) → 0 < m → i < (d + (m - 1)) / m → i * m < d
within m d i some h =
    let a : (i + 1) * m ≤ (d + (m - 1)) / m * m = mul-le-mul_right m (omega arith) in
    let b : (d + (m - 1)) / m * m ≤ d + (m - 1) = div-mul-le_self (d + (m - 1)) m in
    let e : (i + 1) * m ≡ i * m + m = simp unary_clauses (omega arith) in
    omega arith

up : (n : ℕ) → is_negative (pos n) ≡ false
up n = grind (arith, ints)

down : (n : ℕ) → is_negative (negsuc n) ≡ true
down n = grind (arith, ints)

length_up : (a b : ℤ) (m : ℕ) → range_length a b (pos (suc m)) ≡ steps_in (above_zero (b -ℤ a)) (suc m)
unfolding range_length
length_up a b m = ap (λ (x : Bool). steps_in (above_zero (if x then a -ℤ b else b -ℤ a)) (suc m)) (up (suc m))

length_down : (a b : ℤ) (m : ℕ) → range_length a b (negsuc m) ≡ steps_in (above_zero (a -ℤ b)) (suc m)
unfolding range_length
length_down a b m = ap (λ (x : Bool). steps_in (above_zero (if x then a -ℤ b else b -ℤ a)) (suc m)) (down m)

fits_up : (a b : ℤ) (k : ℕ) → FitsSigned w64 a → FitsSigned w64 b → pos k <ℤ (b -ℤ a) → FitsSigned w64 (a +ℤ pos k)
fits_up a b k fa fb l = omega (arith, ints)

fits_down : (a b : ℤ) (k : ℕ) → FitsSigned w64 a → FitsSigned w64 b → pos k <ℤ (a -ℤ b) → FitsSigned w64 (a -ℤ pos k)
fits_down a b k fa fb l = omega (arith, ints)

-- no item of a range is past 64 bits
pub fits_at : (a b s : ℤ) (i : ℕ) → FitsSigned w64 a → FitsSigned w64 b → is_zero s ≡ false → i < range_length a b s → FitsSigned w64 (a +ℤ pos i *ℤ s)
fits_at a b (pos zero) i fa fb z h = cc
fits_at a b (pos (suc m)) i fa fb z h =
    let w : i * suc m < above_zero (b -ℤ a) = within (suc m) (above_zero (b -ℤ a)) i (omega arith) (rw length_up at h) in
    let l : pos (i * suc m) <ℤ (b -ℤ a) = lower (b -ℤ a) (i * suc m) w in
    fits_up a b (i * suc m) fa fb l
fits_at a b (negsuc m) i fa fb z h =
    let w : i * suc m < above_zero (a -ℤ b) = within (suc m) (above_zero (a -ℤ b)) i (omega arith) (rw length_down at h) in
    let l : pos (i * suc m) <ℤ (a -ℤ b) = lower (a -ℤ b) (i * suc m) w in
    fits_down a b (i * suc m) fa fb l

-- the same of numbers as a call sees them
pub fits_seen : (a b s a' b' s' : ℤ) (z : Bool) (n i : ℕ) → a' ≡ a → b' ≡ b → s' ≡ s → FitsSigned w64 a → FitsSigned w64 b
    → z ≡ is_zero s' → z ≡ false → n ≡ range_length a' b' s' → i < n → FitsSigned w64 (a' +ℤ pos i *ℤ s')
fits_seen a b s a' b' s' z n i ea eb es fa fb zero_is other len h =
    let same : n ≡ range_length a b s = len ∙ (rw (ea, eb, es) refl) in
    rw (ea, es) (fits_at a b s i fa fb (ap is_zero (sym es) ∙ sym zero_is ∙ other) (rw same at h))
