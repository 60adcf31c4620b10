-- Members of lists that are put together.
use Rattle.std.proofs.Common.{List, [], ◌∷◌, ◌++◌, flat_map, ◌⊎◌, inl, inr, sym, subst}
use Rattle.std.specs.List.{Contains}
use Rattle.std.proofs.lemmas.List.Elements.{Contains-append_cases, Contains-append_left, Contains-append_right}
use Rattle.bt_lints.specs.Lints.{OneOf}
use Rattle.bt_lints.proofs.Members.{contains_cases, contains_head, contains_none, contains_tail}

pub in_flat : {A B : Type 0} (f : A → List B) (xs : List A) (x : A) (y : B) → Contains xs x → Contains (f x) y → Contains (flat_map f xs) y
in_flat f [] x y h k = contains_none x h
in_flat f (a ∷ xs) x y h k =
    elim (contains_cases a x xs h) as (λ _. Contains (f a ++ flat_map f xs) y) [
      | inl e ↦ Contains-append_left (f a) (flat_map f xs) y (subst (λ z. Contains (f z) y) (sym e) k)
      | inr t ↦ Contains-append_right (f a) (flat_map f xs) y (in_flat f xs x y t k)
    ]

-- where a member of joined lists comes from
abbrev pub From : {A B : Type 0} → (A → List B) → List A → B → Type 0
From {A} f xs y = (x : A) × Contains xs x × Contains (f x) y

pub from_flat : {A B : Type 0} (f : A → List B) (xs : List A) (y : B) → Contains (flat_map f xs) y → From f xs y
from_flat f [] y h = contains_none y h
from_flat f (a ∷ xs) y h =
    elim (Contains-append_cases (f a) (flat_map f xs) y h) as (λ _. From f (a ∷ xs) y) [
      | inl k ↦ (a, contains_head a xs, k)
      | inr k ↦ let r = from_flat f xs y k in (r.0, contains_tail a r.0 xs r.1, r.2)
    ]

pub one_of : {A : Type 0} (P : A → Type 0) (xs : List A) (x : A) → Contains xs x → P x → OneOf P xs
one_of P [] x h p = contains_none x h
one_of P (a ∷ xs) x h p =
    elim (contains_cases a x xs h) as (λ _. P a ⊎ OneOf P xs) [ inl e ↦ inl (subst P (sym e) p) | inr t ↦ inr (one_of P xs x t p) ]
