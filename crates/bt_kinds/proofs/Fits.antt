-- Numbers that fit 64 bits, by what checked arithmetic answers.
use Rattle.std.proofs.Common.{◌≡◌, ◌^◌, ℕ, List, Bool, true, false, Option, Some, None, refl, arith}
use Rattle.std.specs.Prelude.{ℤ, pos, negsuc, FitsSigned, unsigned_abs, neg_ℤ}
use Rattle.std.specs.Int.{w64}
use Rattle.std.specs.Option.{SomeIff}
use Rattle.std.proofs.lemmas.Bool.{lt-ltb, ltb-true}
use Rattle.std.proofs.lemmas.Int.{ints}
use Rattle.bt_value.specs.Plain.{is_i64}
use Rattle.bt_kinds.specs.Limits.{int}
use Rattle.bt_kinds.specs.Limits.{int_of}

fits_is : (z : ℤ) → FitsSigned w64 z → is_i64 z ≡ true
fits_is (pos n) h = lt-ltb n (2 ^ 63) h.sfits
fits_is (negsuc n) h = lt-ltb n (2 ^ 63) h.sfits

is_fits : (z : ℤ) → is_i64 z ≡ true → FitsSigned w64 z
is_fits (pos n) h = record { sfits = ltb-true n (2 ^ 63) h }
is_fits (negsuc n) h = record { sfits = ltb-true n (2 ^ 63) h }

pub fits_int : (name : List ℕ) (z : ℤ) → (b : Bool) → is_i64 z ≡ b → (FitsSigned w64 z → b ≡ true) → (b ≡ true → FitsSigned w64 z) → (r : Option ℤ) → SomeIff r (FitsSigned w64 z) z → int_of name r ≡ int name z
unfolding int
fits_int name z true e f g (Some x) h = rw (e, h.1) refl
fits_int name z true e f g None h = absurd (h (g refl))
fits_int name z false e f g (Some x) h = cc (f h.0)
fits_int name z false e f g None h = rw e refl

pub int_from : (name : List ℕ) (z : ℤ) (r : Option ℤ) → SomeIff r (FitsSigned w64 z) z → int_of name r ≡ int name z
int_from name z r h = fits_int name z (is_i64 z) refl (fits_is z) (is_fits z) r h

neg_fits : (n : ℤ) → FitsSigned w64 n → FitsSigned w64 (pos (unsigned_abs n)) → FitsSigned w64 (neg_ℤ n)
neg_fits n f g = omega (arith, ints)

fits_neg : (n : ℤ) → FitsSigned w64 (neg_ℤ n) → FitsSigned w64 n → FitsSigned w64 (pos (unsigned_abs n))
fits_neg n g f = omega (arith, ints)

pub abs_from : (name : List ℕ) (n : ℤ) (r : Option ℤ) → FitsSigned w64 n → SomeIff r (FitsSigned w64 (neg_ℤ n)) (pos (unsigned_abs n)) → int_of name r ≡ int name (pos (unsigned_abs n))
abs_from name n (Some z) f h = int_from name _ (Some z) (fits_neg n h.0 f, h.1)
abs_from name n None f h = int_from name _ None (λ g. h (neg_fits n f g))
