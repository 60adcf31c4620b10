-- Two lists gone over element by element.
use Rattle.std.proofs.Common.{◌≡◌, ◌<◌, ◌≤◌, ◌+◌, ℕ, zero, suc, List, [], ◌∷◌, ◌++◌, length, drop, get_or, map, refl, sym, ap, ◌∙◌, arith, add-one, append_assoc, append-nil}
use Rattle.bt_expectations.specs.Failures.{each_pair}

module _ {A B C : Type 0} (f : ℕ → A → B → List C) where
  here : (xs : List A) (ys : List B) (i j : ℕ) (d : A) (e : B) → i < length xs → i < length ys →
      each_pair f j (drop i xs) (drop i ys) ≡ f j (get_or xs i d) (get_or ys i e) ++ each_pair f (suc j) (drop (suc i) xs) (drop (suc i) ys)
  here [] ys i j d e h k = absurd (omega arith)
  here (x ∷ xs) [] i j d e h k = absurd (omega arith)
  here (x ∷ xs) (y ∷ ys) zero j d e h k = refl
  here (x ∷ xs) (y ∷ ys) (suc i) j d e h k = here xs ys i j d e (omega arith) (omega arith)

  none : (xs : List A) (ys : List B) (i j : ℕ) → length xs ≤ i → each_pair f j (drop i xs) ys ≡ []
  none [] ys zero j h = refl
  none [] ys (suc i) j h = refl
  none (x ∷ xs) ys zero j h = absurd (omega arith)
  none (x ∷ xs) ys (suc i) j h = none xs ys i j (omega arith)

  -- What is out, and what those from a place on give, is all.
  abbrev pub GivesAll : List A → List B → ℕ → List C → List C → Type 0
  GivesAll xs ys i out all = out ++ each_pair f i (drop i xs) (drop i ys) ≡ all

  -- the two elements at the place gave theirs
  pub one_more : (xs : List A) (ys : List B) (i : ℕ) (d : A) (e : B) (out new all : List C) → i < length xs → i < length ys →
      new ≡ out ++ f i (get_or xs i d) (get_or ys i e) → GivesAll xs ys i out all → GivesAll xs ys (i + 1) new all
  one_more xs ys i d e out new all h k gave before =
      let rest = each_pair f (suc i) (drop (suc i) xs) (drop (suc i) ys) in
      rw add-one
      (ap (λ o. o ++ rest) gave ∙ append_assoc out (f i (get_or xs i d) (get_or ys i e)) rest
      ∙ ap (λ o. out ++ o) (sym (here xs ys i i d e h k)) ∙ before)

  -- no element is left
  pub all_out : (xs : List A) (ys : List B) (i : ℕ) (out all : List C) → length xs ≤ i → GivesAll xs ys i out all → out ≡ all
  all_out xs ys i out all h before = sym (append-nil out) ∙ ap (λ o. out ++ o) (sym (none xs (drop i ys) i i h)) ∙ before

-- elements of the second list that are seen otherwise
pub seen : {A B D C : Type 0} (f : ℕ → A → B → List C) (g : D → B) (i : ℕ) (xs : List A) (ys : List D) →
    each_pair f i xs (map g ys) ≡ each_pair (λ j x y. f j x (g y)) i xs ys
seen f g i [] ys = refl
seen f g i (x ∷ xs) [] = refl
seen f g i (x ∷ xs) (y ∷ ys) = ap (λ o. f i x (g y) ++ o) (seen f g (suc i) xs ys)
