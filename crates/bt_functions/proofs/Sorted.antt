-- Keys with their places, sorted.
use Rattle.std.proofs.Common.{◌≡◌, ◌<◌, ◌+◌, ℕ, zero, suc, List, [], ◌∷◌, map, length, get_or, String, Global, Ordering, refl, sym, ap, ◌∙◌, arith, string_bytes, string_cmp, nat_cmp, int_cmp}
use Rattle.std.specs.Prelude.{ℤ}
use Rattle.std.specs.Cmp.{IsTotalOrder}
use Rattle.std.specs.Cmp.Lexicographic.{slice_cmp}
use Rattle.std.specs.List.Sorted.{IsPermutation, IsSorted}
use Rattle.std.specs.Ordering.{is_lt}
use Rattle.std.proofs.lemmas.Cmp.{int_cmp_total, nat_cmp_total, nat_list_cmp_total, then_total, on_total}
use Rattle.std.proofs.lemmas.List.{length-map}
use Rattle.std.proofs.lemmas.List.Sorted.{IsPermutation-map}
use Rattle.std.proofs.lemmas.Map.Lookups.{exact_pairs, exact_signed, exact_unsigned, exact_bytes}
use Rattle.bt_lists.specs.Sorts.{sorted}
use Rattle.bt_lists.proofs.Sorting.{sorted_is}
use Rattle.bt_meaning.specs.Lambdas.{key_cmp}

key_total : {A : Type 0} (R : A → A → Ordering) → IsTotalOrder R → IsTotalOrder (key_cmp R)
key_total R t = then_total (on_total (λ p. p.0) t) (on_total (λ p. p.1) nat_cmp_total)

pub numbers_sorted : (xs ys ns : List (ℤ × ℕ)) → xs ≡ ns → IsPermutation xs ys → IsSorted (key_cmp int_cmp) ys → ys ≡ sorted (key_cmp int_cmp) ns
numbers_sorted xs ys ns e p s = sorted_is (key_total int_cmp int_cmp_total) (exact_pairs int_cmp nat_cmp exact_signed exact_unsigned) xs ys p s ∙ ap (sorted (key_cmp int_cmp)) e

at : (ys : List (String Global × ℕ)) (i : ℕ) (y : String Global × ℕ) (d : List ℕ × ℕ) → i < length ys → get_or (map (λ k. (string_bytes k.0, k.1)) ys) i d ≡ (string_bytes (get_or ys i y).0, (get_or ys i y).1)
at [] i y d h = absurd (omega arith)
at (x ∷ xs) zero y d h = refl
at (x ∷ xs) (suc i) y d h = at xs i y d (omega arith)

strings_rise : (ys : List (String Global × ℕ)) → IsSorted (key_cmp string_cmp) ys → IsSorted (key_cmp (slice_cmp nat_cmp)) (map (λ k. (string_bytes k.0, k.1)) ys)
strings_rise [] s k d low high = absurd (omega arith)
strings_rise (y ∷ ys) s k d low high =
    let l : k + 1 < length (y ∷ ys) = omega (arith, high, length-map {B = List ℕ × ℕ} (y ∷ ys) (λ k. (string_bytes k.0, k.1))) in
    rw (at (y ∷ ys) (k + 1) y d l, at (y ∷ ys) k y d (omega arith)) (s k y low l)

pub strings_sorted : (xs ys : List (String Global × ℕ)) (bs : List (List ℕ × ℕ)) → map (λ k. (string_bytes k.0, k.1)) xs ≡ bs → IsPermutation xs ys → IsSorted (key_cmp string_cmp) ys → map (λ k. (string_bytes k.0, k.1)) ys ≡ sorted (key_cmp (slice_cmp nat_cmp)) bs
strings_sorted xs ys bs e p s =
    sorted_is (key_total (slice_cmp nat_cmp) nat_list_cmp_total) (exact_pairs (slice_cmp nat_cmp) nat_cmp exact_bytes exact_unsigned)
    (map (λ k. (string_bytes k.0, k.1)) xs) (map (λ k. (string_bytes k.0, k.1)) ys) (IsPermutation-map (λ k. (string_bytes k.0, k.1)) xs ys p) (strings_rise ys s)
    ∙ ap (sorted (key_cmp (slice_cmp nat_cmp))) e
