-- A list in rising order is the only one with its elements.
use Rattle.std.proofs.Common.{◌≡◌, ◌<◌, ◌+◌, ℕ, zero, suc, List, [], ◌∷◌, length, get_or, Bool, true, false, cond, Ordering, Less, Equal, Greater, refl, sym, ap, ◌∙◌, arith, if◌then◌else◌, add-one}
use Rattle.std.specs.Cmp.{IsTotalOrder}
use Rattle.std.specs.List.{sum_by}
use Rattle.std.specs.List.Sorted.{IsPermutation, IsSorted}
use Rattle.std.specs.Ordering.{is_gt, is_lt, is_eq, ordering_reverse}
use Rattle.std.proofs.lemmas.Cmp.{tied_itself}
use Rattle.std.proofs.lemmas.List.Sums.{sum_by-cons}
use Rattle.std.proofs.lemmas.List.Sorted.{sum_by-IsPermutation}
use Rattle.bt_lists.specs.Sorts.{insert_by, sorted}

flip : (p q : Ordering) → q ≡ ordering_reverse p → is_gt p ≡ true → is_gt q ≡ false
flip Less q e h = cc
flip Equal q e h = cc
flip Greater q e h = rw e refl

flip_lt : (p q : Ordering) → q ≡ ordering_reverse p → is_lt p ≡ false → is_gt q ≡ false
flip_lt Less q e h = cc
flip_lt Equal q e h = rw e refl
flip_lt Greater q e h = rw e refl

module _ {X : Type 0} {R : X → X → Ordering} (o : IsTotalOrder R) (same : (x y : X) → R x y ≡ Equal → x ≡ y) where
  Le : X → X → Type 0
  Le x y = is_gt (R x y) ≡ false

  le_by : (x y z : X) (p q : Ordering) → R x y ≡ p → R y z ≡ q → is_gt p ≡ false → is_gt q ≡ false → is_gt (R x z) ≡ false
  le_by x y z Greater q e f g h = cc
  le_by x y z Equal q e f g h = rw (same x y e) (rw f h)
  le_by x y z Less Greater e f g h = cc
  le_by x y z Less Equal e f g h = rw (← same y z f) (rw e refl)
  le_by x y z Less Less e f g h = rw (o.trans x y z e f) refl

  le_trans : (x y z : X) → is_gt (R x y) ≡ false → is_gt (R y z) ≡ false → is_gt (R x z) ≡ false
  le_trans x y z g h = le_by x y z (R x y) (R y z) refl refl g h

  equal_by : (x y : X) (p : Ordering) → R x y ≡ p → is_gt p ≡ false → is_gt (R y x) ≡ false → x ≡ y
  equal_by x y Greater e g h = cc
  equal_by x y Equal e g h = same x y e
  equal_by x y Less e g h = cc (o.antisymm y x ∙ ap ordering_reverse e)

  AllLe : X → List X → Type 0
  AllLe w [] = Unit {0}
  AllLe w (y ∷ ys) = (is_gt (R w y) ≡ false) × AllLe w ys

  Up : List X → Type 0
  Up [] = Unit {0}
  Up (y ∷ ys) = AllLe y ys × Up ys

  weaken : (w y : X) (ys : List X) → is_gt (R w y) ≡ false → AllLe y ys → AllLe w ys
  unfolding AllLe
  weaken w y [] h a = tt
  weaken w y (z ∷ zs) h a = (le_trans w y z h a.0, weaken w y zs h a.1)

  all_by : (w x y : X) (ys : List X) (b : Bool) → is_gt (R w x) ≡ false → is_gt (R w y) ≡ false → AllLe w ys → AllLe w (insert_by R x ys) → AllLe w (if b then y ∷ insert_by R x ys else x ∷ y ∷ ys)
  unfolding AllLe
  all_by w x y ys true h k a ih = (k, ih)
  all_by w x y ys false h k a ih = (h, (k, a))

  all_insert : (w x : X) (ys : List X) → is_gt (R w x) ≡ false → AllLe w ys → AllLe w (insert_by R x ys)
  unfolding AllLe insert_by
  all_insert w x [] h a = (h, tt)
  all_insert w x (y ∷ ys) h a = all_by w x y ys (is_gt (R x y)) h a.0 a.1 (all_insert w x ys h a.1)

  up_by : (x y : X) (ys : List X) (b : Bool) → is_gt (R x y) ≡ b → AllLe y ys → Up ys → Up (insert_by R x ys) → Up (if b then y ∷ insert_by R x ys else x ∷ y ∷ ys)
  unfolding Up AllLe
  up_by x y ys true e a u ih = (all_insert y x ys (flip (R x y) (R y x) (o.antisymm y x) e) a, ih)
  up_by x y ys false e a u ih = ((e, weaken x y ys e a), (a, u))

  up_insert : (x : X) (ys : List X) → Up ys → Up (insert_by R x ys)
  unfolding Up AllLe insert_by
  up_insert x [] u = (tt, tt)
  up_insert x (y ∷ ys) u = up_by x y ys (is_gt (R x y)) refl u.0 u.1 (up_insert x ys u.1)

  up_sorted : (xs : List X) → Up (sorted R xs)
  unfolding Up sorted
  up_sorted [] = tt
  up_sorted (x ∷ xs) = up_insert x (sorted R xs) (up_sorted xs)

  sum_by_cases : (f : X → ℕ) (x y : X) (ys : List X) (b : Bool) → sum_by f (insert_by R x ys) ≡ f x + sum_by f ys
      → sum_by f (if b then y ∷ insert_by R x ys else x ∷ y ∷ ys) ≡ f x + sum_by f (y ∷ ys)
  sum_by_cases f x y ys true ih = omega (arith, sum_by-cons f y (insert_by R x ys), sum_by-cons f y ys)
  sum_by_cases f x y ys false ih = sum_by-cons f x (y ∷ ys)

  sum_insert : (f : X → ℕ) (x : X) (ys : List X) → sum_by f (insert_by R x ys) ≡ f x + sum_by f ys
  unfolding insert_by
  sum_insert f x [] = sum_by-cons f x []
  sum_insert f x (y ∷ ys) = sum_by_cases f x y ys (is_gt (R x y)) (sum_insert f x ys)

  sum_sorted : (f : X → ℕ) (xs : List X) → sum_by f (sorted R xs) ≡ sum_by f xs
  unfolding sorted
  sum_sorted f [] = refl
  sum_sorted f (x ∷ xs) = sum_insert f x (sorted R xs) ∙ omega (arith, sum_sorted f xs, sum_by-cons f x xs)

  count : X → X → ℕ
  count y w = cond (is_eq (R w y)) 1 0

  counted : (y z : X) (p : Ordering) → R z y ≡ p → is_eq p ≡ false → count y z ≡ 0
  unfolding count
  counted y z p e h = rw (e, h) refl

  found_by : (w y z : X) (zs : List X) (p : Ordering) → R z y ≡ p → is_gt (R w z) ≡ false → (0 < sum_by (count y) zs → is_gt (R w y) ≡ false) → 0 < sum_by (count y) (z ∷ zs) → is_gt (R w y) ≡ false
  found_by w y z zs Equal e k f h = rw (← same z y e) k
  found_by w y z zs Less e k f h = f (omega (arith, sum_by-cons (count y) z zs, counted y z Less e refl))
  found_by w y z zs Greater e k f h = f (omega (arith, sum_by-cons (count y) z zs, counted y z Greater e refl))

  found : (w y : X) (zs : List X) → AllLe w zs → 0 < sum_by (count y) zs → is_gt (R w y) ≡ false
  unfolding AllLe
  found w y [] a h = absurd (omega arith)
  found w y (z ∷ zs) a h = found_by w y z zs (R z y) refl a.0 (λ k. found w y zs a.1 k) h

  itself : (y : X) → count y y ≡ 1
  unfolding count
  itself y = rw (tied_itself o y) refl

  head_by : (y z : X) (zs : List X) (p : Ordering) → R z y ≡ p → AllLe z zs → 0 < sum_by (count y) (z ∷ zs) → is_gt (R z y) ≡ false
  head_by y z zs Less e a h = rw e refl
  head_by y z zs Equal e a h = rw e refl
  head_by y z zs Greater e a h = found z y zs a (omega (arith, sum_by-cons (count y) z zs, counted y z Greater e refl))

  head_le : (y z : X) (ys zs : List X) → AllLe z zs → sum_by (count y) (y ∷ ys) ≡ sum_by (count y) (z ∷ zs) → is_gt (R z y) ≡ false
  head_le y z ys zs a e = head_by y z zs (R z y) refl a (omega (arith, sum_by-cons (count y) y ys, itself y))

  unique : (ys zs : List X) → Up ys → Up zs → ((f : X → ℕ) → sum_by f ys ≡ sum_by f zs) → ys ≡ zs
  unfolding Up
  unique [] [] u w e = refl
  unique [] (z ∷ zs) u w e = absurd (omega (arith, e (λ _. 1), sum_by-cons (λ _. 1) z zs))
  unique (y ∷ ys) [] u w e = absurd (omega (arith, e (λ _. 1), sum_by-cons (λ _. 1) y ys))
  unique (y ∷ ys) (z ∷ zs) u w e =
      let is : y ≡ z = equal_by y z (R y z) refl (head_le z y zs ys u.0 (sym (e (count z)))) (head_le y z ys zs w.0 (e (count y))) in
      let rest : (f : X → ℕ) → sum_by f ys ≡ sum_by f zs = λ f. omega (arith, e f, sum_by-cons f y ys, sum_by-cons f z zs, ap f is) in
      rw is (ap (λ l. z ∷ l) (unique ys zs u.1 w.1 rest))

  adjacent : (ys : List X) → ((k : ℕ) (d : X) → suc k < length ys → is_lt (R (get_or ys (suc k) d) (get_or ys k d)) ≡ false) → Up ys
  unfolding Up AllLe
  adjacent [] h = tt
  adjacent (y ∷ []) h = (tt, tt)
  adjacent (y ∷ z ∷ zs) h =
      let up : Up (z ∷ zs) = adjacent (z ∷ zs) (λ k d l. h (suc k) d (omega arith)) in
      let le : is_gt (R y z) ≡ false = flip_lt (R z y) (R y z) (o.antisymm y z) (h zero y (omega arith)) in
      ((le, weaken y z zs le up.0), up)

  pub sorted_is : (xs ys : List X) → IsPermutation xs ys → IsSorted R ys → ys ≡ sorted R xs
  sorted_is xs ys p s =
      unique ys (sorted R xs) (adjacent ys (λ k d l. rw (← add-one k) (s k d (omega arith) (omega arith)))) (up_sorted xs)
      (λ f. sum_by-IsPermutation f xs ys p ∙ sym (sum_sorted f xs))
