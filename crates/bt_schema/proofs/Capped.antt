-- Numbers of which no more than a bound is told.
use Rattle.std.proofs.Common.{◌≡◌, ◌<◌, ◌+◌, suc, length, drop, drop-cons, add-one, get_or, ◌-◌, ◌*◌, ℕ, List, [], ◌∷◌, true, min, refl, arith, sym}
use Rattle.std.proofs.lemmas.Bool.Decides.{nat_tests}
use Rattle.std.specs.Char.{digit_value, is_ascii_digit}
use Rattle.std.specs.Str.Parse.{digits_value_after}
use Rattle.bt_schema.specs.Texts.{digits, unit}

digit_is : (d : ℕ) → is_ascii_digit d ≡ true → digit_value d ≡ d - 48
digit_is d h = grind (arith, nat_tests)

-- the digits that follow a number of which no more than the bound is known
capped_after : (ds : List ℕ) (m n : ℕ) → min 86400001 m ≡ min 86400001 n →
    min 86400001 (digits_value_after 10 m ds) ≡ min 86400001 (digits_value_after 10 n ds)
capped_after [] m n h = h
capped_after (d ∷ ds) m n h = capped_after ds (m * 10 + digit_value d) (n * 10 + digit_value d) (grind arith)

-- one more digit of a number
pub value_step : (v d : ℕ) (more : List ℕ) → is_ascii_digit d ≡ true →
    min 86400001 (digits_value_after 10 (min 86400001 (v * 10 + (d - 48))) (digits more)) ≡ min 86400001 (digits_value_after 10 v (digits (d ∷ more)))
value_step v d more h =
    rw h (capped_after (digits more) (min 86400001 (v * 10 + (d - 48))) (v * 10 + digit_value d) (omega (arith, digit_is d h)))

-- what follows the digits
pub unit_step : (d : ℕ) (more : List ℕ) → is_ascii_digit d ≡ true → unit (d ∷ more) ≡ unit more
unit_step d more h = rw h refl

-- one more digit of a number, by its place in a text
pub number_step : (t : List ℕ) (i v w : ℕ) → i < length t → is_ascii_digit (get_or t i 0) ≡ true → w ≡ min 86400001 (v * 10 + (get_or t i 0 - 48)) →
    (min 86400001 (digits_value_after 10 w (digits (drop (i + 1) t))) ≡ min 86400001 (digits_value_after 10 v (digits (drop i t)))) × (unit (drop (i + 1) t) ≡ unit (drop i t))
number_step t i v w inside digit is =
    rw (drop-cons t i 0, add-one i, is)
    (value_step v (get_or t i 0) (drop (suc i) t) digit, sym (unit_step (get_or t i 0) (drop (suc i) t) digit))
