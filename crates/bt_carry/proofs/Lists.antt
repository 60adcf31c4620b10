-- What stands in a list.
use Rattle.std.proofs.Common.{◌≡◌, List, [], ◌∷◌, ◌⊎◌, inl, inr, refl, subst}
use Rattle.std.specs.List.{AllByRecursion}

abbrev pub Among : {T : Type 0} → T → List T → Type 0
Among x [] = ⊥
Among x (y ∷ ys) = (y ≡ x) ⊎ Among x ys

pub each_among : {T : Type 0} (P : T → Type 0) (x : T) (xs : List T) → AllByRecursion P xs → Among x xs → P x
each_among P x [] h i = absurd i
each_among P x (y ∷ ys) h (inl e) = subst P e h.0
each_among P x (y ∷ ys) h (inr i) = each_among P x ys h.1 i

pub all_absent : {T : Type 0} (P : T → Type 0) (xs : List T) → ((x : T) → P x → ⊥) → AllByRecursion P xs → xs ≡ []
all_absent P [] f h = refl
all_absent P (x ∷ xs) f h = absurd (f x h.0)
