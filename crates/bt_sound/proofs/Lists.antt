-- What is said of each of a list.
use Rattle.std.proofs.Common.{List, [], ◌∷◌, ◌++◌}
use Rattle.std.specs.List.{AllByRecursion}

pub each_map : {T : Type 0} (P Q : T → Type 0) (xs : List T) → ((x : T) → P x → Q x) → AllByRecursion P xs → AllByRecursion Q xs
each_map P Q [] f h = tt
each_map P Q (x ∷ xs) f h = (f x h.0, each_map P Q xs f h.1)

pub each_both : {T : Type 0} (P Q R : T → Type 0) (xs : List T) → ((x : T) → P x → Q x → R x) → AllByRecursion P xs → AllByRecursion Q xs → AllByRecursion R xs
each_both P Q R [] f h k = tt
each_both P Q R (x ∷ xs) f h k = (f x h.0 k.0, each_both P Q R xs f h.1 k.1)

pub each_snoc : {T : Type 0} (P : T → Type 0) (xs : List T) (x : T) → AllByRecursion P xs → P x → AllByRecursion P (xs ++ x ∷ [])
each_snoc P [] x h k = (k, tt)
each_snoc P (y ∷ ys) x h k = (h.0, each_snoc P ys x h.1 k)

pub each_append : {T : Type 0} (P : T → Type 0) (xs ys : List T) → AllByRecursion P xs → AllByRecursion P ys → AllByRecursion P (xs ++ ys)
each_append P [] ys h k = k
each_append P (x ∷ xs) ys h k = (h.0, each_append P xs ys h.1 k)
