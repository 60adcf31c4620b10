-- Seconds and milliseconds of instants in the range fit 64 bits.
use Rattle.std.proofs.Common.{◌≡◌, Bool, true, false, Option, Some, None, Ok, Err, refl, subst, arith, if◌then◌else◌}
use Rattle.std.specs.Prelude.{ℤ, pos, FitsSigned, ◌≤ℤ◌, ◌<ℤ◌, ◌*ℤ◌}
use Rattle.std.specs.Int.{w64, int_div_euclid}
use Rattle.std.proofs.lemmas.Int.{ints}
use Rattle.jiff_core.proofs.SignedLemmas.{signed_arith}
use Rattle.bt_time.specs.Civil.{is_in_range, first_second, end_second}
use Rattle.bt_time.specs.Instants.{answer, second_of}
use Rattle.bt_time.specs.declared.fault.TimeFault.TheVariants.{OutOfRange}

within_by : (m n : ℤ) (b : Bool) → is_in_range (second_of m) ≡ b → Ok n ≡ (if b then Ok m else Err OutOfRange) → is_in_range (second_of n) ≡ true
within_by m n true e h = let same : m ≡ n = cc in subst (λ x. is_in_range (second_of x) ≡ true) same e
within_by m n false e h = cc

within : (o : Option ℤ) (n : ℤ) → Ok n ≡ answer o → is_in_range (second_of n) ≡ true
within None n e = cc
within (Some m) n e = within_by m n (is_in_range (second_of m)) refl e

low : (s : ℤ) → is_in_range s ≡ true → first_second ≤ℤ s
low s h = grind (arith, ints)

high : (s : ℤ) → is_in_range s ≡ true → s <ℤ end_second
high s h = grind (arith, ints)

pub second_fits : (o : Option ℤ) (n : ℤ) → Ok n ≡ answer o → FitsSigned w64 (int_div_euclid n (pos 1000000000))
second_fits o n e =
    let l = low (second_of n) (within o n e) in
    let h = high (second_of n) (within o n e) in
    omega (arith, signed_arith)

pub millisecond_fits : (o : Option ℤ) (n : ℤ) → Ok n ≡ answer o → FitsSigned w64 (int_div_euclid n (pos 1000000))
millisecond_fits o n e =
    let l = low (second_of n) (within o n e) in
    let h = high (second_of n) (within o n e) in
    omega (arith, signed_arith)

pub thousand_fits : (n : ℤ) → is_in_range n ≡ true → FitsSigned w64 (n *ℤ pos 1000)
thousand_fits n w =
    let l = low n w in
    let h = high n w in
    omega (arith, signed_arith)
