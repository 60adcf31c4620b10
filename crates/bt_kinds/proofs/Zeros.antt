-- Whether a number is zero.
use Rattle.std.proofs.Common.{◌≡◌, ◌≢◌, ℕ, zero, suc, List, true, false, refl, arith}
use Rattle.std.specs.Prelude.{ℤ, pos, negsuc, FitsSigned}
use Rattle.std.specs.Int.{w64, IsNonZero}
use Rattle.std.specs.Prelude.{int_div, Option, Some, None}
use Rattle.std.specs.Int.{CanDivide}
use Rattle.std.specs.Option.{SomeIff}
use Rattle.std.proofs.lemmas.Bool.{ne_eqb}
use Rattle.bt_kinds.specs.Limits.{int}
use Rattle.bt_kinds.specs.Limits.{int_of}
use Rattle.bt_kinds.proofs.Fits.{int_from}
use Rattle.bt_kinds.specs.Operators.{is_zero}

pub zero_is : (z : ℤ) → z ≡ pos 0 → is_zero z ≡ true
zero_is z e = rw e refl

pub zero_not : (z : ℤ) → z ≢ pos 0 → is_zero z ≡ false
zero_not (pos zero) h = absurd (h refl)
zero_not (pos (suc n)) h = ne_eqb (suc n) 0 (omega arith)
zero_not (negsuc n) h = refl

pub nonzero_is : (z : ℤ) → FitsSigned w64 z → is_zero z ≡ false → IsNonZero w64 z
nonzero_is (pos zero) f h = cc
nonzero_is (pos (suc n)) f h = omega arith
nonzero_is (negsuc n) f h = let s = f.sfits in omega arith

by_cases : (name : List ℕ) (x y : ℤ) (r : Option ℤ) → IsNonZero w64 y → SomeIff r (CanDivide w64 x y) (int_div x y) → int_of name r ≡ int name (int_div x y)
by_cases name x y (Some z) n h = int_from name (int_div x y) (Some z) (h.0.1, h.1)
by_cases name x y None n h = int_from name (int_div x y) None (λ f. h (n, f))

pub div_from : (name : List ℕ) (x y : ℤ) (r : Option ℤ) → FitsSigned w64 y → is_zero y ≡ false → SomeIff r (CanDivide w64 x y) (int_div x y) → int_of name r ≡ int name (int_div x y)
div_from name x y r f z h = by_cases name x y r (nonzero_is y f z) h
