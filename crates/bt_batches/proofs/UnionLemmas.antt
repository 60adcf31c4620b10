-- Rising lists of numbers as sets, and the union of many of them.
use Rattle.std.proofs.Common.{◌≡◌, ℕ, suc, ◌<◌, ◌≤◌, ◌⊎◌, inl, inr, Bool, true, false, ◌||◌, List, [], ◌∷◌, ◌++◌, length, get_or, refl, sym, ◌∙◌, ap, subst, nat_eq, arith}
use Rattle.std.specs.List.Sorted.{IsStrictlyIncreasing}
use Rattle.std.specs.Ordering.{nat_cmp}
use Rattle.std.specs.declared.cmp.Ordering.TheVariants.{Equal}
use Rattle.std.specs.Cmp.{nat_cmp_is}
use Rattle.std.specs.Set.{is_member, sorted_merge, IsUnion}
use Rattle.std.proofs.Math.Nat.{eq-or-lt_of_le}
use Rattle.std.proofs.Math.Dec.{ltb}
use Rattle.std.proofs.lemmas.Bool.{ltb-true, ltb-false}
use Rattle.std.proofs.lemmas.Bool.Decides.{nat_tests}
use Rattle.std.proofs.lemmas.List.Folds.{list_any-append}
use Rattle.std.proofs.lemmas.Map.Keys.{sorted_from_strictly_increasing, IsStrictlyIncreasing-from_sorted, sorted_tail, below_from_sorted}
use Rattle.bt_ports.proofs.RisingLists.{merge_is_union_of_numbers, merge_rises}
use Rattle.bt_batches.specs.declared.piece.Piece.{Piece}
use Rattle.bt_batches.specs.Archives.{origins}
use Rattle.bt_batches.specs.Unions.{is_in_any}

-- rising lists ---------------------------------------------------------------

-- all of a list's numbers are above one
abbrev Above : ℕ → List ℕ → Type 0
Above x [] = Unit {0}
Above x (y ∷ ys) = (x < y) × Above x ys

abbrev Rises : List ℕ → Type 0
Rises [] = Unit {0}
Rises (x ∷ xs) = Above x xs × Rises xs

above : (x : ℕ) (xs : List ℕ) → ((k : ℕ) → k < length xs → x < get_or xs k 0) → Above x xs
above x [] h = tt
above x (y ∷ ys) h = (h 0 (omega arith), above x ys (λ k l. h (suc k) (omega arith)))

rises : (xs : List ℕ) → IsStrictlyIncreasing xs → Rises xs
rises [] h = tt
rises (x ∷ xs) h = (above x xs (λ k l. below_from_sorted (x ∷ xs) 0 (suc k) 0 (sorted_from_strictly_increasing (x ∷ xs) h) (omega arith) (omega arith)), rises xs (IsStrictlyIncreasing-from_sorted xs (sorted_tail nat_cmp x xs (sorted_from_strictly_increasing (x ∷ xs) h))))

other : (q y : ℕ) → q < y → nat_eq q y ≡ false
other q y l = grind (arith, nat_tests)

same : (q : ℕ) → nat_eq q q ≡ true
same q = grind (arith, nat_tests)

-- a number that isn't above another is none of those above it
no_member : (q x : ℕ) (xs : List ℕ) → q ≤ x → Above x xs → is_member nat_eq xs q ≡ false
no_member q x [] l a = refl
no_member q x (y ∷ ys) l a = let b = a.0 in rw (other q y (omega arith)) (no_member q x ys l a.1)

order_by : (x y : ℕ) (b : Bool) → ltb x y ≡ b → (x < y) ⊎ ((y ≡ x) ⊎ (y < x))
order_by x y true e = inl (ltb-true x y e)
order_by x y false e = inr (eq-or-lt_of_le (ltb-false x y e))

order : (x y : ℕ) → (x < y) ⊎ ((y ≡ x) ⊎ (y < x))
order x y = order_by x y (ltb x y) refl

-- a first number that is below all of another list is none of it
missing : (x : ℕ) (xs : List ℕ) (y : ℕ) (ys : List ℕ) → x < y → Above y ys → ((q : ℕ) → is_member nat_eq (x ∷ xs) q ≡ is_member nat_eq (y ∷ ys) q) → true ≡ false
missing x xs y ys l a h =
    let none : is_member nat_eq (y ∷ ys) x ≡ false = rw (other x y l) (no_member x y ys (omega arith) a) in
    let some : is_member nat_eq (x ∷ xs) x ≡ true = rw (same x) refl in
    sym some ∙ h x ∙ none

rest_at : (q x : ℕ) (xs ys : List ℕ) (b : Bool) → nat_eq q x ≡ b → Above x xs → Above x ys → is_member nat_eq (x ∷ xs) q ≡ is_member nat_eq (x ∷ ys) q → is_member nat_eq xs q ≡ is_member nat_eq ys q
rest_at q x xs ys true e a b h =
    let is : q ≤ x = grind (arith, nat_tests) in
    no_member q x xs is a ∙ sym (no_member q x ys is b)
rest_at q x xs ys false e a b h = rw e at h

-- two rising lists of the same numbers are the same list
pub same_numbers : (xs ys : List ℕ) → Rises xs → Rises ys → ((q : ℕ) → is_member nat_eq xs q ≡ is_member nat_eq ys q) → xs ≡ ys
same_numbers [] [] a b h = refl
same_numbers [] (y ∷ ys) a b h = let no : false ≡ true = h y ∙ rw (same y) refl in cc
same_numbers (x ∷ xs) [] a b h = let no : false ≡ true = sym (h x) ∙ rw (same x) refl in cc
same_numbers (x ∷ xs) (y ∷ ys) a b h = elim (order x y) [
  | inl l ↦ let no = missing x xs y ys l b.0 h in cc
  | inr o ↦ elim o [
    | inl e ↦
        let b' : Rises (x ∷ ys) = subst (λ z. Rises (z ∷ ys)) e b in
        let h' : (q : ℕ) → is_member nat_eq (x ∷ xs) q ≡ is_member nat_eq (x ∷ ys) q = subst (λ z. (q : ℕ) → is_member nat_eq (x ∷ xs) q ≡ is_member nat_eq (z ∷ ys) q) e h in
        let rest = same_numbers xs ys a.1 b'.1 (λ q. rest_at q x xs ys (nat_eq q x) refl a.0 b'.0 (h' q)) in
        cc
    | inr l ↦ let no = missing y ys x xs l a.0 (λ q. sym (h q)) in cc
  ]
]

pub same_rising : (xs ys : List ℕ) → IsStrictlyIncreasing xs → IsStrictlyIncreasing ys → ((q : ℕ) → is_member nat_eq xs q ≡ is_member nat_eq ys q) → xs ≡ ys
same_rising xs ys a b h = same_numbers xs ys (rises xs a) (rises ys b) h

-- a list's first number merged with the list
pub merged_first : (xs : List ℕ) → 0 < length xs → sorted_merge nat_cmp true (get_or xs 0 0 ∷ []) xs ≡ xs
merged_first [] l = absurd (omega arith)
merged_first (x ∷ xs) l = let tied : Equal ≡ nat_cmp x x = nat_cmp_is x x Equal refl in rw (← tied) refl

-- numbers in one of several lists ------------------------------------------------

or_aside : (a b c : Bool) → ((a || b) || c) ≡ ((a || c) || b)
or_aside true b c = refl
or_aside false true true = refl
or_aside false true false = refl
or_aside false false true = refl
or_aside false false false = refl

or_around : (a b c : Bool) → (a || (b || (c || false))) ≡ (c || (a || b))
or_around true b true = refl
or_around true b false = refl
or_around false true true = refl
or_around false true false = refl
or_around false false true = refl
or_around false false false = refl

or_behind : (a b c : Bool) → (a || (b || (c || false))) ≡ ((c || b) || a)
or_behind true true true = refl
or_behind true true false = refl
or_behind true false true = refl
or_behind true false false = refl
or_behind false true true = refl
or_behind false true false = refl
or_behind false false true = refl
or_behind false false false = refl

-- a run that others were joined to
pub joined_in : (run more joined : List ℕ) (runs : List (List ℕ)) → IsUnion nat_eq run more joined → (q : ℕ) → is_in_any (joined ∷ runs) q ≡ (is_in_any (run ∷ runs) q || is_member nat_eq more q)
joined_in run more joined runs u q = rw (u q) (or_aside (is_member nat_eq run q) (is_member nat_eq more q) (is_in_any runs q))

-- a run that others took the place of
pub moved_in : (run more : List ℕ) (runs : List (List ℕ)) (q : ℕ) → is_in_any (more ∷ (runs ++ run ∷ [])) q ≡ (is_in_any (run ∷ runs) q || is_member nat_eq more q)
moved_in run more runs q = rw (list_any-append (λ o. is_member nat_eq o q) runs (run ∷ [])) (or_behind (is_member nat_eq more q) (is_in_any runs q) (is_member nat_eq run q))

-- a run that went behind the others
pub turned_in : (run first : List ℕ) (runs : List (List ℕ)) (q : ℕ) → is_in_any (first ∷ (runs ++ run ∷ [])) q ≡ is_in_any (run ∷ (first ∷ runs)) q
turned_in run first runs q = rw (list_any-append (λ o. is_member nat_eq o q) runs (run ∷ [])) (or_around (is_member nat_eq first q) (is_in_any runs q) (is_member nat_eq run q))

-- the union of a batch's origins ---------------------------------------------------

pub origins_more : (from : List ℕ) (ps : List Piece) (p : Piece) → origins from (ps ++ p ∷ []) ≡ sorted_merge nat_cmp true (origins from ps) p.from
origins_more from [] p = refl
origins_more from (r ∷ ps) p = origins_more (sorted_merge nat_cmp true from r.from) ps p

pub origins_rise : (from : List ℕ) (ps : List Piece) (p : Piece) → IsStrictlyIncreasing (origins from ps) → IsStrictlyIncreasing p.from → IsStrictlyIncreasing (origins from (ps ++ p ∷ []))
origins_rise from ps p a b = subst IsStrictlyIncreasing (sym (origins_more from ps p)) (merge_rises (origins from ps) p.from a b)

pub origins_have : (from : List ℕ) (ps : List Piece) (p : Piece) (q : ℕ) → is_member nat_eq (origins from (ps ++ p ∷ [])) q ≡ (is_member nat_eq (origins from ps) q || is_member nat_eq p.from q)
origins_have from ps p q = ap (λ (xs : List ℕ). is_member nat_eq xs q) (origins_more from ps p) ∙ merge_is_union_of_numbers (origins from ps) p.from q

-- runs that have the numbers so far have those of one message more
pub members_step : (from : List ℕ) (ps : List Piece) (p : Piece) (before after : ℕ → Bool) → ((q : ℕ) → before q ≡ is_member nat_eq (origins from ps) q) → ((q : ℕ) → after q ≡ (before q || is_member nat_eq p.from q))
    → (q : ℕ) → after q ≡ is_member nat_eq (origins from (ps ++ p ∷ [])) q
members_step from ps p before after h step q = step q ∙ ap (λ b. b || is_member nat_eq p.from q) (h q) ∙ sym (origins_have from ps p q)
