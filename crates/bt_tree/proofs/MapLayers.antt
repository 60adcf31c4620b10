-- What a function does with the parts of each layer of a query.
use Rattle.std.proofs.Common.{◌≡◌, List, [], ◌∷◌, map, Option, Some, None, refl, ap, ◌∙◌}
use Rattle.bt_tree.specs.declared.tree.Word.{Word}
use Rattle.bt_tree.specs.declared.tree.Query.{map-Query}
use Rattle.bt_tree.specs.declared.tree.Query.TheOpen.{Query-F}
use Rattle.bt_tree.specs.declared.tree.Suffix.{Suffix}
use Rattle.bt_tree.specs.declared.tree.Suffix.TheVariants as s
use Rattle.bt_tree.specs.declared.tree.Arg.{Arg}
use Rattle.bt_tree.specs.declared.tree.Arg.TheVariants as a
use Rattle.bt_tree.specs.declared.tree.Case.{Case}
use Rattle.bt_tree.specs.declared.tree.Case.TheVariants as case
use Rattle.bt_tree.specs.declared.tree.Branch.{Branch}
use Rattle.bt_tree.specs.Parts.{in_arg, in_case, in_branch, in_suffix, in_option}

abbrev args_in : {A : Type 0} → Query-F A → List (Arg A)
args_in (Query-F.Call v xs) = xs
args_in _ = []

abbrev suffixes_in : {A : Type 0} → Query-F A → List (Suffix A)
suffixes_in (Query-F.Item q xs) = xs
suffixes_in _ = []

abbrev cases_in : {A : Type 0} → Query-F A → List (Case A)
cases_in (Query-F.Match q xs) = xs
cases_in _ = []

module _ {A B : Type 0} (f : A → B) where
  pub map-Call : (v : Word) (xs : List (Arg A)) → map-Query A B f (Query-F.Call v xs) ≡ Query-F.Call v (map (in_arg f) xs)
  map-Call v [] = refl
  map-Call v (a.Query q ∷ xs) = ap (λ ys. Query-F.Call v (a.Query (f q) ∷ ys)) (ap args_in (map-Call v xs))
  map-Call v (a.Lambda name q ∷ xs) = ap (λ ys. Query-F.Call v (a.Lambda name (f q) ∷ ys)) (ap args_in (map-Call v xs))

  pub map-Item : (q : A) (xs : List (Suffix A)) → map-Query A B f (Query-F.Item q xs) ≡ Query-F.Item (f q) (map (in_suffix f) xs)
  map-Item q [] = refl
  map-Item q (s.Name u ∷ xs) = ap (λ ys. Query-F.Item (f q) (s.Name u ∷ ys)) (ap suffixes_in (map-Item q xs))
  map-Item q (s.Quoted u ∷ xs) = ap (λ ys. Query-F.Item (f q) (s.Quoted u ∷ ys)) (ap suffixes_in (map-Item q xs))
  map-Item q (s.Int n ∷ xs) = ap (λ ys. Query-F.Item (f q) (s.Int n ∷ ys)) (ap suffixes_in (map-Item q xs))
  map-Item q (s.Method v ys ∷ xs) =
      ap (λ zs. Query-F.Item (f q) (s.Method v zs ∷ suffixes_in (map-Query A B f (Query-F.Item q xs)))) (ap args_in (map-Call v ys))
      ∙ ap (λ zs. Query-F.Item (f q) (s.Method v (map (in_arg f) ys) ∷ zs)) (ap suffixes_in (map-Item q xs))
  map-Item q (s.Within (a.Query p) ∷ xs) = ap (λ ys. Query-F.Item (f q) (s.Within (a.Query (f p)) ∷ ys)) (ap suffixes_in (map-Item q xs))
  map-Item q (s.Within (a.Lambda name p) ∷ xs) = ap (λ ys. Query-F.Item (f q) (s.Within (a.Lambda name (f p)) ∷ ys)) (ap suffixes_in (map-Item q xs))

  map-Cases : (x : Option B) (xs : List (Case A)) → cases_in (map-Query A B f (Query-F.Match None xs)) ≡ map (in_case f) xs
  map-Cases x [] = refl
  map-Cases x (case.Any q ∷ xs) = ap (λ ys. case.Any (f q) ∷ ys) (map-Cases x xs)
  map-Cases x (case.When p q ∷ xs) = ap (λ ys. case.When (f p) (f q) ∷ ys) (map-Cases x xs)

  pub map-Match : (x : Option A) (xs : List (Case A)) → map-Query A B f (Query-F.Match x xs) ≡ Query-F.Match (in_option f x) (map (in_case f) xs)
  map-Match None xs = ap (Query-F.Match None) (map-Cases None xs)
  map-Match (Some q) xs = ap (Query-F.Match (Some (f q))) (map-Cases None xs)

  pub map-If : (xs : List (Branch A)) (x : Option A) → map-Query A B f (Query-F.If xs x) ≡ Query-F.If (map (in_branch f) xs) (in_option f x)
  map-If xs None = refl
  map-If xs (Some q) = refl
