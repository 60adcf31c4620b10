-- Members of lists, and names among names.
use Rattle.std.proofs.Common.{◌≡◌, ℕ, suc, ◌+◌, ◌<◌, List, [], ◌∷◌, length, Bool, true, false, ◌⊎◌, inl, inr, refl, sym, ap, ◌∙◌, subst, arith, not, IsTrue, ◌↔◌, get_or, drop, drop-cons, add-one}
use Rattle.std.specs.List.{Contains}
use Rattle.std.specs.Str.{bytes_eq}
use Rattle.std.proofs.lemmas.List.Elements.{Contains-push_cases, Contains-append_cases, Contains-append_right}
use Rattle.std.proofs.lemmas.List.Folds.{Any-from_list_any, list_any-from_Any}
use Rattle.std.proofs.lemmas.Slice.Eq.{bytes_eq-Decides}
use Rattle.bt_lints.specs.Names.{has}

pub contains_head : {X : Type 0} (x : X) (xs : List X) → Contains (x ∷ xs) x
contains_head x xs = (0, omega arith, refl)

pub contains_tail : {X : Type 0} (x y : X) (xs : List X) → Contains xs y → Contains (x ∷ xs) y
contains_tail x y xs h = Contains-append_right (x ∷ []) xs y h

pub contains_none : {X : Type 0} {P : Type 0} (y : X) → Contains {X = X} [] y → P
contains_none y h = absurd (omega (arith, h.1))

pub contains_cases : {X : Type 0} (x y : X) (xs : List X) → Contains (x ∷ xs) y → (x ≡ y) ⊎ Contains xs y
contains_cases x y xs h =
    elim (Contains-append_cases (x ∷ []) xs y h) as (λ _. (x ≡ y) ⊎ Contains xs y) [
      | inl k ↦ elim (Contains-push_cases [] x y k) [ inl none ↦ contains_none y none | inr e ↦ inl e ]
      | inr k ↦ inr k
    ]

pub bytes_same : (u : List ℕ) → bytes_eq u u ≡ true
bytes_same u = (bytes_eq-Decides u u).1 refl

pub bytes_equal : (u v : List ℕ) → bytes_eq u v ≡ true → u ≡ v
bytes_equal u v h = (bytes_eq-Decides u v).0 h

pub contained : (names : List (List ℕ)) (name : List ℕ) → has names name ≡ true → Contains names name
contained names name h =
    let a = Any-from_list_any (λ x. bytes_eq x name) names h in
    subst (λ (n : List ℕ). Contains names n) (bytes_equal a.1 name a.4) (a.0, a.2, a.3)

pub has_it : (names : List (List ℕ)) (name : List ℕ) → Contains names name → has names name ≡ true
has_it names name h = list_any-from_Any (λ x. bytes_eq x name) names (h.0, name, h.1, h.2, bytes_same name)

pub is_in : (b : Bool) (names : List (List ℕ)) (name : List ℕ) → b ≡ has names name → IsTrue b ↔ Contains names name
is_in true names name e = ((λ _. contained names name (sym e)), (λ _. refl))
is_in false names name e = ((λ h. cc), (λ h. let now = has_it names name h in cc))

pub is_not_in : (b : Bool) (names : List (List ℕ)) (name : List ℕ) → b ≡ has names name → IsTrue (not b) ↔ (Contains names name → ⊥)
is_not_in true names name e = ((λ h. cc), (λ h. absurd (h (contained names name (sym e)))))
is_not_in false names name e = ((λ _ h. let now = has_it names name h in cc), (λ _. refl))

-- what is left of a list at one of its members
pub left_at : {X : Type 0} (xs : List X) (i : ℕ) (x : X) → i < length xs → x ≡ get_or xs i x → drop i xs ≡ x ∷ drop (i + 1) xs
left_at xs i x lt is = drop-cons xs i x lt ∙ ap (λ y. y ∷ drop (suc i) xs) (sym is) ∙ ap (λ j. x ∷ drop j xs) (sym (add-one i))
