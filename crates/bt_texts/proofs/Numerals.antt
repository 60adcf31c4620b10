-- The number of a text, by what `parse` answers.
use Rattle.std.proofs.Common.{◌≡◌, ◌≢◌, ◌<◌, ◌≤◌, ◌^◌, ◌&&◌, ℕ, zero, suc, List, [], ◌∷◌, ◌∙◌, Bool, true, false, Option, Some, None, Result, Ok, Err, length, drop, get_or, refl, sym, ap, arith, if◌then◌else◌, ltb}
use Rattle.std.specs.Prelude.{ℤ, pos, neg_ℤ}
use Rattle.std.specs.Int.{w64}
use Rattle.std.specs.Result.{OkIff, result_ok}
use Rattle.std.specs.Str.{all_ascii_digits}
use Rattle.std.specs.Str.Parse.{ParsesSigned, digits_value}
use Rattle.std.proofs.lemmas.Bool.{lt-ltb, ltb-true, eqb-true, eq-eqb}
use Rattle.std.proofs.lemmas.Str.Parse.{IsNumeralModel, numerals_by_value, tells_all_ascii_digits, parse_signed_minus, parse_signed_plain}
use Rattle.bt_value.specs.Plain.{is_i64}
use Rattle.bt_texts.specs.Conversions.{number_text, is_minus, is_numeral}

own : IsNumeralModel (λ ds. all_ascii_digits ds ≡ true) (digits_value 10)
own = numerals_by_value _ tells_all_ascii_digits

decide : {E : Type 0} (ds : List ℕ) (z : ℤ) (r : Result ℤ E) (a b c : Bool) → all_ascii_digits ds ≡ a → ltb 0 (length ds) ≡ b → is_i64 z ≡ c
    → OkIff r ((all_ascii_digits ds ≡ true) × (0 < length ds) × (is_i64 z ≡ true)) z → result_ok r ≡ (if is_numeral ds && is_i64 z then Some z else None)
decide ds z (Ok x) a b c ea eb ec h = rw (lt-ltb 0 (length ds) h.0.1, h.0.0, h.0.2, h.1) refl
decide ds z (Err e) true true true ea eb ec h = absurd (h (ea, ltb-true 0 (length ds) eb, ec))
decide ds z (Err e) true true false ea eb ec h = rw (eb, ea, ec) refl
decide ds z (Err e) false true c ea eb ec h = rw (eb, ea) refl
decide ds z (Err e) a false c ea eb ec h = rw eb refl

down_is : (n : ℕ) → n ≤ 2 ^ 63 → is_i64 (neg_ℤ (pos n)) ≡ true
down_is zero h = lt-ltb 0 (2 ^ 63) (omega arith)
down_is (suc n) h = lt-ltb n (2 ^ 63) (omega arith)

is_down : (n : ℕ) → is_i64 (neg_ℤ (pos n)) ≡ true → n ≤ 2 ^ 63
is_down zero h = omega arith
is_down (suc n) h = omega (arith, ltb-true n (2 ^ 63) h)

minus_iff : {E : Type 0} (ds : List ℕ) (n : ℕ) (r : Result ℤ E)
    → OkIff r ((all_ascii_digits ds ≡ true) × (0 < length ds) × (n ≤ 2 ^ 63)) (neg_ℤ (pos n))
    → OkIff r ((all_ascii_digits ds ≡ true) × (0 < length ds) × (is_i64 (neg_ℤ (pos n)) ≡ true)) (neg_ℤ (pos n))
minus_iff ds n (Ok x) h = ((h.0.0, h.0.1, down_is n h.0.2), h.1)
minus_iff ds n (Err e) h = λ p. h (p.0, p.1, is_down n p.2)

plain_iff : {E : Type 0} (ds : List ℕ) (n : ℕ) (r : Result ℤ E)
    → OkIff r ((all_ascii_digits ds ≡ true) × (0 < length ds) × (n < 2 ^ 63)) (pos n)
    → OkIff r ((all_ascii_digits ds ≡ true) × (0 < length ds) × (is_i64 (pos n) ≡ true)) (pos n)
plain_iff ds n (Ok x) h = ((h.0.0, h.0.1, lt-ltb n (2 ^ 63) h.0.2), h.1)
plain_iff ds n (Err e) h = λ p. h (p.0, p.1, ltb-true n (2 ^ 63) p.2)

-- the number, by whether the text begins with a minus
abbrev shape : List ℕ → Bool → Option ℤ
shape s m =
    let ds = if m then drop 1 s else s in
    let z = if m then neg_ℤ (pos (digits_value 10 ds)) else pos (digits_value 10 ds) in
    if is_numeral ds && is_i64 z then Some z else None

shape_is : (s : List ℕ) (m : Bool) → is_minus s ≡ m → number_text s ≡ shape s m
unfolding number_text
shape_is s m e = ap (shape s) e

by_sign : {E : Type 0} (s : List ℕ) (r : Result ℤ E) (m : Bool) → is_minus s ≡ m → ParsesSigned w64 10 s r → get_or s 0 0 ≢ 43 → result_ok r ≡ number_text s
by_sign s r true e h plus =
    let is : get_or s 0 0 ≡ 45 = eqb-true _ _ e in
    decide (drop 1 s) (neg_ℤ (pos (digits_value 10 (drop 1 s)))) r _ _ _ refl refl refl
    (minus_iff (drop 1 s) (digits_value 10 (drop 1 s)) r (parse_signed_minus own w64 s r h is)) ∙ sym (shape_is s true e)
by_sign s r false e h plus =
    let not : get_or s 0 0 ≢ 45 = λ is. cc (eq-eqb (get_or s 0 0) 45 is) in
    decide s (pos (digits_value 10 s)) r _ _ _ refl refl refl
    (plain_iff s (digits_value 10 s) r (parse_signed_plain own w64 s r h plus not)) ∙ sym (shape_is s false e)

pub read_plain : {E : Type 0} (s : List ℕ) (r : Result ℤ E) → ParsesSigned w64 10 s r → get_or s 0 0 ≢ 43 → result_ok r ≡ number_text s
read_plain s r h plus = by_sign s r (is_minus s) refl h plus

-- a text that begins with a plus has no number
pub read_plus : (s : List ℕ) → get_or s 0 0 ≡ 43 → number_text s ≡ None
read_plus [] is = cc
read_plus (c ∷ cs) is =
    let no : is_minus (c ∷ cs) ≡ false = rw is refl in
    shape_is (c ∷ cs) false no ∙ rw (is, lt-ltb 0 (suc (length cs)) (omega arith)) refl
