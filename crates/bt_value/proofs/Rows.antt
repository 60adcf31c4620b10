-- A binary search among rows whose keys rise, as contracts see them through a function.
use Rattle.std.proofs.Common.{◌≡◌, ◌<◌, ◌≤◌, ◌+◌, ℕ, zero, suc, List, [], ◌∷◌, length, get_or, map, Result, Ok, Err, Ordering, Less, Equal, Greater, nat_cmp, false, refl, sym, ap, ap₂, ◌∙◌, arith, add-one}
use Rattle.std.proofs.lemmas.Cmp.{nat_list_cmp_total}
use Rattle.std.proofs.lemmas.List.Sorted.{searchable_from_sorted}
use Rattle.std.specs.Cmp.Lexicographic.{slice_cmp}
use Rattle.std.specs.List.Sorted.{IsSearchInRange, IsBinarySearchResult}
use Rattle.std.specs.Ordering.{is_lt}
use Rattle.bt_value.specs.Keys.{Rising, slot}
use Rattle.bt_value.proofs.Searching.{found, gap, sorted}

abbrev by_bytes : List ℕ → List ℕ → Ordering
by_bytes = slice_cmp nat_cmp

pub length_rows : {X V : Type 0} (f : X → List ℕ × V) (xs : List X) → length (map f xs) ≡ length xs
length_rows f [] = refl
length_rows f (x ∷ xs) = ap suc (length_rows f xs)

module _ {X V : Type 0} (f : X → List ℕ × V) where
  -- what holds of a row as it is seen
  pub row_at : (P : List ℕ × V → Type 0) (xs : List X) (i : ℕ) (d : List ℕ × V) → i < length xs → ((x : X) → P (f (get_or xs i x))) → P (get_or (map f xs) i d)
  row_at P [] i d h p = absurd (omega arith)
  row_at P (x ∷ xs) zero d h p = p x
  row_at P (x ∷ xs) (suc i) d h p = row_at P xs i d (omega arith) p

  pub row_is : (xs : List X) (i : ℕ) (x : X) → i < length xs → get_or (map f xs) i (f x) ≡ f (get_or xs i x)
  row_is [] i x h = absurd (omega arith)
  row_is (y ∷ xs) zero x h = refl
  row_is (y ∷ xs) (suc i) x h = row_is xs i x (omega arith)

  rows_rise : (xs : List X) → Rising (map f xs) → (j : ℕ) (x : X) → suc j < length xs → is_lt (by_bytes (f (get_or xs (suc j) x)).0 (f (get_or xs j x)).0) ≡ false
  rows_rise xs up j x h =
      let within : suc j < length (map f xs) = omega (arith, length_rows f xs, h) in
      sym (ap₂ (λ a b. is_lt (by_bytes a.0 b.0)) (row_is xs (suc j) x h) (row_is xs j x (omega arith))) ∙ sorted [] (map f xs) up j (f x) within

  module _ (k : List ℕ) where
    -- a binary search among rows whose keys rise ends at the slot
    pub searched_rows : (xs : List X) → Rising (map f xs) → (r : Result ℕ ℕ) → IsSearchInRange r (length xs) → IsBinarySearchResult (λ x. by_bytes (f x).0 k) xs r → r ≡ slot k (map f xs)
    searched_rows xs up (Ok i) within equal = found k (map f xs) up i (omega (arith, length_rows f xs, within)) (λ d. row_at (λ e. by_bytes e.0 k ≡ Equal) xs i d within equal)
    searched_rows xs up (Err i) within parted =
        let rises = searchable_from_sorted nat_list_cmp_total (λ (x : X). (f x).0) xs k (λ j d low h. rw add-one (rows_rise xs up j d (rw add-one at h))) in
        let p = parted rises in
        gap k (map f xs) i (omega (arith, length_rows f xs, within)) (λ j d low high. row_at (λ e. by_bytes e.0 k ≡ Less) xs j d (omega arith) (λ x. p.0 j x low high))
        (λ j d low high. row_at (λ e. by_bytes e.0 k ≡ Greater) xs j d (omega (arith, length_rows f xs, high)) (λ x. p.1 j x low (omega (arith, length_rows f xs, high))))
