-- Copies of a list.
use Rattle.std.proofs.Common.{◌≡◌, ℕ, zero, suc, ◌+◌, ◌*◌, ◌-◌, ◌<◌, List, [], ◌∷◌, ◌++◌, drop, length, length-append, length-drop, refl, sym, ap, ◌∙◌, append_assoc, append-nil, add-one, arith}
use Rattle.bt_output_plan.specs.Reading.{repeated}

more : {A : Type 0} (n : ℕ) (xs : List A) → repeated (suc n) xs ≡ repeated n xs ++ xs
more zero xs = append-nil xs
more (suc n) xs = ap (λ l. xs ++ l) (more n xs) ∙ sym (append_assoc xs (repeated n xs) xs)

pub repeated_next : {A : Type 0} (n : ℕ) (xs : List A) → repeated (n + 1) xs ≡ repeated n xs ++ xs
repeated_next n xs = rw add-one (more n xs)

pub length_repeated : {A : Type 0} (n : ℕ) (xs : List A) → length (repeated n xs) ≡ n * length xs
length_repeated zero xs = omega arith
length_repeated (suc n) xs = omega (arith, length-append xs (repeated n xs), length_repeated n xs)

pub one_less : {A : Type 0} (n : ℕ) (xs : List A) → 0 < n → repeated n xs ≡ xs ++ repeated (n - 1) xs
one_less zero xs some = absurd (omega arith)
one_less (suc n) xs some = let same : suc n - 1 ≡ n = omega arith in ap (λ k. xs ++ repeated k xs) (sym same)

-- how many there are once each stands so many times
pub all_again : {A : Type 0} (from n x : ℕ) (l own new : List A) → 0 < n → length l ≡ from + x → own ≡ drop from l → new ≡ l ++ repeated (n - 1) own → length new ≡ from + n * x
all_again from zero x l own new some a b c = absurd (omega arith)
all_again from (suc k) x l own new some a b c =
    let same : suc k - 1 ≡ k = omega arith in
    let each : length own ≡ x = omega (arith, ap length b, length-drop from l) in
    let more : length (repeated k own) ≡ k * x = length_repeated k own ∙ ap (λ m. k * m) each in
    let all : length new ≡ length l + length (repeated k own) = ap length (c ∙ ap (λ m. l ++ repeated m own) same) ∙ length-append l (repeated k own) in
    omega arith
