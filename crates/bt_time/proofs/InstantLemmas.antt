-- Numbers of a few digits, and fractions of a second.
use Rattle.std.proofs.Common.{◌≡◌, ℕ, zero, suc, ◌+◌, ◌*◌, ◌-◌, ◌^◌, ◌<◌, ◌≤◌, refl, ◌∙◌, arith, List, take, drop, Some, ℤ, pos, ◌+ℤ◌, ◌-ℤ◌, ◌*ℤ◌, FitsSigned, to_z, of_z, w32, w64}
use Rattle.bt_time.specs.Civil.{seconds_of}
use Rattle.std.specs.Int.{w128}
use Rattle.std.proofs.lemmas.Int.{to_z-of_z}
use Rattle.jiff_core.proofs.SignedLemmas.{signed_arith}
use Rattle.jiff_core.specs.Calendar.{IsWithin}
use Rattle.jiff_core.specs.DateTime.{IsCivilNanos}
use Rattle.bt_time.specs.declared.civil.Civil.{Civil}
use Rattle.bt_time.specs.Format.{pieces, civil_in}
use Rattle.bt_time.specs.Instants.{stamp, fraction, offset, offset_at, instant, instant_of, nanos}

-- a fraction of k digits is less than a second
pub scaled : (n k : ℕ) → k ≤ 9 → n < 10 ^ k → n * 10 ^ (9 - k) < 1000000000
scaled n zero few small = omega (arith, small)
scaled n (suc zero) few small = omega (arith, small)
scaled n (suc (suc zero)) few small = omega (arith, small)
scaled n (suc (suc (suc zero))) few small = omega (arith, small)
scaled n (suc (suc (suc (suc zero)))) few small = omega (arith, small)
scaled n (suc (suc (suc (suc (suc zero))))) few small = omega (arith, small)
scaled n (suc (suc (suc (suc (suc (suc zero)))))) few small = omega (arith, small)
scaled n (suc (suc (suc (suc (suc (suc (suc zero))))))) few small = omega (arith, small)
scaled n (suc (suc (suc (suc (suc (suc (suc (suc zero)))))))) few small = omega (arith, small)
scaled n (suc (suc (suc (suc (suc (suc (suc (suc (suc zero))))))))) few small = omega (arith, small)
scaled n (suc (suc (suc (suc (suc (suc (suc (suc (suc (suc k)))))))))) few small = absurd (omega arith)

-- another digit behind at most eight
pub longer : (n k : ℕ) → k < 9 → n < 10 ^ k → 10 * n + 9 < 1000000000
longer n zero few small = omega (arith, small)
longer n (suc zero) few small = omega (arith, small)
longer n (suc (suc zero)) few small = omega (arith, small)
longer n (suc (suc (suc zero))) few small = omega (arith, small)
longer n (suc (suc (suc (suc zero)))) few small = omega (arith, small)
longer n (suc (suc (suc (suc (suc zero))))) few small = omega (arith, small)
longer n (suc (suc (suc (suc (suc (suc zero)))))) few small = omega (arith, small)
longer n (suc (suc (suc (suc (suc (suc (suc zero))))))) few small = omega (arith, small)
longer n (suc (suc (suc (suc (suc (suc (suc (suc zero)))))))) few small = omega (arith, small)
longer n (suc (suc (suc (suc (suc (suc (suc (suc (suc k))))))))) few small = absurd (omega arith)

-- the instant of a text whose parts are known
pub instant_is : (t : List ℕ) (c : Civil) (f : ℕ) (z : ℤ)
    → civil_in (pieces stamp) (take 19 t) ≡ Some c
    → fraction (take (offset_at (drop 19 t)) (drop 19 t)) ≡ Some f
    → offset (drop (offset_at (drop 19 t)) (drop 19 t)) ≡ Some z
    → instant t ≡ Some (instant_of c f z)
unfolding instant
instant_is t c f z at parts zone = rw (at, parts, zone) refl

-- a number that fits stays as it is where it is passed on
pub kept_fraction : (n : ℕ) (z : ℤ) → n < 1000000000 → z ≡ pos n → to_z w32 (of_z w32 z) ≡ pos n
kept_fraction n z small e =
    let fits : FitsSigned w32 z = omega (arith, signed_arith) in
    to_z-of_z w32 z fits ∙ e

pub kept_offset : (z : ℤ) → IsWithin 86400 z → to_z w64 (of_z w64 z) ≡ z
kept_offset z near =
    let fits : FitsSigned w64 z = omega (arith, signed_arith) in
    to_z-of_z w64 z fits

-- nanoseconds less those of an offset, within 128 bits
pub subtracted : (c : Civil) (n z m f : ℤ) (k : ℕ) → IsCivilNanos n → IsWithin 86400 z → f ≡ pos k → n ≡ nanos (seconds_of c) +ℤ f
    → m ≡ z
    → to_z w128 (of_z w128 (to_z w128 (of_z w128 n) -ℤ to_z w128 (of_z w128 (to_z w128 (of_z w128 m) *ℤ pos 1000000000)))) ≡ instant_of c k z
unfolding instant_of
subtracted c n z m f k within near ef e em =
    let a : FitsSigned w128 n = omega (arith, signed_arith) in
    let b : FitsSigned w128 m = omega (arith, signed_arith) in
    let d : FitsSigned w128 (m *ℤ pos 1000000000) = omega (arith, signed_arith) in
    let g : FitsSigned w128 (n -ℤ m *ℤ pos 1000000000) = omega (arith, signed_arith) in
    rw (to_z-of_z w128 n a, to_z-of_z w128 m b, to_z-of_z w128 (m *ℤ pos 1000000000) d, to_z-of_z w128 (n -ℤ m *ℤ pos 1000000000) g)
    (omega (arith, signed_arith))
