use Rattle.std.proofs.Common.{◌≡◌, ℕ, ◌⊎◌, List, [], ◌∷◌, ◌++◌, drop, refl, inl, inr, arith}
use Rattle.std.specs.Prelude.{true}
use Rattle.std.specs.Ordering.{nat_cmp}
use Rattle.std.specs.Set.{sorted_merge}
use Rattle.std.proofs.Math.ListN.{drop_of_length-le}
use Rattle.std.proofs.lemmas.Grind.{common_steps}
use Rattle.bt_ports.proofs.origins.merge.Goals as goal
use Rattle.bt_ports.proofs.origins.merge.Goals.{then-pairs-test+else-j-b, else-pairs-test}

-- a list merged with none
alone : (xs : List ℕ) → sorted_merge nat_cmp true xs [] ≡ xs
alone [] = refl
alone (x ∷ xs) = refl

-- once either list is used up, what is left of both is the rest of the merged list
rest_merged : (merged xs ys all : List ℕ) → merged ++ sorted_merge nat_cmp true xs ys ≡ all → (xs ≡ []) ⊎ (ys ≡ []) → (merged ++ xs) ++ ys ≡ all
rest_merged merged [] ys all h e = grind (arith, common_steps)
rest_merged merged (x ∷ xs) [] all h e = grind (arith, common_steps)
rest_merged merged (x ∷ xs) (y ∷ ys) all h (inl e) = cc
rest_merged merged (x ∷ xs) (y ∷ ys) all h (inr e) = cc

pub returns : goal.returns
returns c =
    let used : (drop c.pairs.i c.args.a.now ≡ []) ⊎ (drop c.pairs.j c.args.b.now ≡ []) = elim c.pairs-test.branch [ then-pairs-test+else-j-b w ↦ inr (drop_of_length-le c.args.b.now (omega arith)) | else-pairs-test w ↦ inl (drop_of_length-le c.args.a.now (omega arith)) ] in
    let e = rest_merged c.pairs.merged.items (drop c.pairs.i c.args.a.now) (drop c.pairs.j c.args.b.now) _ c.pairs.invariant.merged used in
    grind (arith, common_steps)
