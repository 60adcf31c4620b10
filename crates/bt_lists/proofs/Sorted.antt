-- Numbers and strings, sorted.
use Rattle.std.proofs.Common.{◌≡◌, ◌<◌, ◌+◌, ℕ, zero, suc, List, [], ◌∷◌, map, length, get_or, String, Global, Equal, refl, sym, ap, ◌∙◌, arith, string_bytes, string_cmp, nat_cmp, int_cmp}
use Rattle.std.specs.Prelude.{ℤ}
use Rattle.std.specs.Cmp.Lexicographic.{slice_cmp}
use Rattle.std.specs.List.Sorted.{IsPermutation, IsSorted}
use Rattle.std.proofs.lemmas.Cmp.{int_cmp_total, nat_list_cmp_total, int_ranked}
use Rattle.std.proofs.lemmas.List.{length-map}
use Rattle.std.proofs.lemmas.List.Sorted.{IsPermutation-map}
use Rattle.bt_value.proofs.Searching.{same}
use Rattle.bt_lists.specs.Sorts.{sorted}
use Rattle.bt_lists.proofs.Sorting.{sorted_is}

int_same : (x y : ℤ) → int_cmp x y ≡ Equal → x ≡ y
int_same x y e = int_ranked x y Equal (sym e)

pub numbers_sorted : (xs ys ns : List ℤ) → xs ≡ ns → IsPermutation xs ys → IsSorted int_cmp ys → ys ≡ sorted int_cmp ns
numbers_sorted xs ys ns e p s = sorted_is int_cmp_total int_same xs ys p s ∙ ap (sorted int_cmp) e

at : (ys : List (String Global)) (i : ℕ) (y : String Global) (d : List ℕ) → i < length ys → get_or (map string_bytes ys) i d ≡ string_bytes (get_or ys i y)
at [] i y d h = absurd (omega arith)
at (x ∷ xs) zero y d h = refl
at (x ∷ xs) (suc i) y d h = at xs i y d (omega arith)

strings_rise : (ys : List (String Global)) → IsSorted string_cmp ys → IsSorted (slice_cmp nat_cmp) (map string_bytes ys)
strings_rise [] s k d low high = absurd (omega arith)
strings_rise (y ∷ ys) s k d low high =
    let l : k + 1 < length (y ∷ ys) = omega (arith, high, length-map (y ∷ ys) string_bytes) in
    rw (at (y ∷ ys) (k + 1) y d l, at (y ∷ ys) k y d (omega arith)) (s k y low l)

pub strings_sorted : (xs ys : List (String Global)) (bs : List (List ℕ)) → map string_bytes xs ≡ bs → IsPermutation xs ys → IsSorted string_cmp ys → map string_bytes ys ≡ sorted (slice_cmp nat_cmp) bs
strings_sorted xs ys bs e p s = sorted_is nat_list_cmp_total same (map string_bytes xs) (map string_bytes ys) (IsPermutation-map string_bytes xs ys p) (strings_rise ys s) ∙ ap (sorted (slice_cmp nat_cmp)) e
