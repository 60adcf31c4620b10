-- Rising lists of numbers, and what the merge of two of them is.
use Rattle.std.proofs.Common.{◌≡◌, ℕ, ◌-◌, ◌<◌, ◌≤◌, Bool, List, [], ◌∷◌, ◌++◌, length, get_or, refl, suc, ap, subst, inl, inr, arith, nat_eq}
use Rattle.std.specs.Prelude.{true}
use Rattle.std.specs.Cmp.{unsigned_tied, nat_cmp_is}
use Rattle.std.specs.declared.cmp.Ordering.TheVariants.{Less}
use Rattle.std.specs.List.Sorted.{IsStrictlyIncreasing}
use Rattle.std.specs.Ordering.{nat_cmp}
use Rattle.std.specs.Set.{sorted_merge, IsUnion}
use Rattle.std.proofs.Math.Nat.{lt_irrefl, eq-or-lt_of_le}
use Rattle.std.proofs.lemmas.Cmp.{nat_cmp_total}
use Rattle.std.proofs.lemmas.Map.Keys.{sorted_from_strictly_increasing, IsStrictlyIncreasing-from_sorted, below_from_sorted}
use Rattle.std_collections.proofs.SortedSets.{sorted_merged, merge_is_union}

-- the merge of two lists has the numbers that either has
pub merge_is_union_of_numbers : (xs ys : List ℕ) → IsUnion nat_eq xs ys (sorted_merge nat_cmp true xs ys)
merge_is_union_of_numbers xs ys = subst (λ (e : ℕ → ℕ → Bool). IsUnion e xs ys (sorted_merge nat_cmp true xs ys)) (λ i x y. unsigned_tied x y i) (merge_is_union nat_cmp_total xs ys)

-- the merge of two rising lists rises
pub merge_rises : (xs ys : List ℕ) → IsStrictlyIncreasing xs → IsStrictlyIncreasing ys → IsStrictlyIncreasing (sorted_merge nat_cmp true xs ys)
merge_rises xs ys s t = IsStrictlyIncreasing-from_sorted _ (sorted_merged nat_cmp_total true xs ys (sorted_from_strictly_increasing xs s) (sorted_from_strictly_increasing ys t))

-- numbers below y, merged with a list that begins with y, stand before it
merge_below : (xs : List ℕ) (y : ℕ) (ys : List ℕ) → ((k : ℕ) → k < length xs → get_or xs k 0 < y) → sorted_merge nat_cmp true xs (y ∷ ys) ≡ xs ++ y ∷ ys
merge_below [] y ys h = refl
merge_below (x ∷ xs) y ys h =
    let less : Less ≡ nat_cmp x y = nat_cmp_is x y Less (h 0 (omega arith)) in
    let rest : sorted_merge nat_cmp true xs (y ∷ ys) ≡ xs ++ y ∷ ys = merge_below xs y ys (λ k l. h (suc k) (omega arith)) in
    rw (← less) (ap (λ zs. x ∷ zs) rest)

-- a rising list, merged with one whose first number is above its last, is followed by it
pub merge_above : (xs ys : List ℕ) → IsStrictlyIncreasing xs → 0 < length ys → get_or xs (length xs - 1) 0 < get_or ys 0 0 → sorted_merge nat_cmp true xs ys ≡ xs ++ ys
merge_above xs [] s some above = absurd (lt_irrefl 0 some)
merge_above xs (y ∷ ys) s some above = merge_below xs y ys (λ k l. elim (eq-or-lt_of_le (below_length k l)) [ inl e ↦ omega (arith, ap (λ j. get_or xs j 0) e) | inr b ↦ omega (arith, below_from_sorted xs k (length xs - 1) 0 (sorted_from_strictly_increasing xs s) b (omega arith)) ])
  where
    below_length : (k : ℕ) → k < length xs → k ≤ length xs - 1
    below_length k l = omega arith
