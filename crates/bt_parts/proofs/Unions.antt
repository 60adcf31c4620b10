-- The union of two lists of origins.
use Rattle.std.proofs.Common.{ℕ, ◌<◌, List, [], ◌∷◌, length, arith, Ordering, Less, Equal, Greater}
use Rattle.std.specs.Prelude.{true}
use Rattle.std.specs.List.{AllByRecursion}
use Rattle.std.specs.Ordering.{nat_cmp, match_ordering}
use Rattle.std.specs.Set.{sorted_merge, merge_step}
use Rattle.bt_ports.proofs.RisingLists.{merge_rises}
use Rattle.bt_parts.specs.Origins.{Stands}

chosen : (P : List ℕ → Type 0) (o : Ordering) (a b c : List ℕ) → P a → P b → P c → P (match_ordering o a b c)
chosen P Less a b c p q r = p
chosen P Equal a b c p q r = q
chosen P Greater a b c p q r = r

known_step : (P : ℕ → Type 0) (x : ℕ) (xs : List ℕ) (on : List ℕ → List ℕ) → P x → AllByRecursion P xs → ((ys : List ℕ) → AllByRecursion P ys → AllByRecursion P (on ys)) → (ys : List ℕ) → AllByRecursion P ys →
    AllByRecursion P (merge_step nat_cmp true x xs on ys)
known_step P x xs on here rest more [] all = (here, rest)
known_step P x xs on here rest more (y ∷ ys) all =
    chosen (AllByRecursion P) (nat_cmp x y) (x ∷ on (y ∷ ys)) (x ∷ on ys) (y ∷ merge_step nat_cmp true x xs on ys) (here, more (y ∷ ys) all) (here, more ys all.1) (all.0, known_step P x xs on here rest more ys all.1)

known : (P : ℕ → Type 0) (xs ys : List ℕ) → AllByRecursion P xs → AllByRecursion P ys → AllByRecursion P (sorted_merge nat_cmp true xs ys)
known P [] ys h k = k
known P (x ∷ xs) ys h k = known_step P x xs (sorted_merge nat_cmp true xs) h.0 h.1 (λ zs all. known P xs zs h.1 all) ys k

abbrev IsSome : List ℕ → Type 0
IsSome xs = 0 < length xs

some_step : (x : ℕ) (xs : List ℕ) (on : List ℕ → List ℕ) (ys : List ℕ) → IsSome (merge_step nat_cmp true x xs on ys)
some_step x xs on [] = omega arith
some_step x xs on (y ∷ ys) = chosen IsSome (nat_cmp x y) (x ∷ on (y ∷ ys)) (x ∷ on ys) (y ∷ merge_step nat_cmp true x xs on ys) (omega arith) (omega arith) (omega arith)

some : (xs ys : List ℕ) → IsSome xs → IsSome (sorted_merge nat_cmp true xs ys)
some [] ys h = absurd (omega arith)
some (x ∷ xs) ys h = some_step x xs (sorted_merge nat_cmp true xs) ys

-- the union of origins that stand stands
pub union_stands : (items : ℕ) (xs ys : List ℕ) → Stands items xs → Stands items ys → Stands items (sorted_merge nat_cmp true xs ys)
union_stands items xs ys h k = record {
  some = some xs ys h.some;
  rising = merge_rises xs ys h.rising k.rising;
  known = known (λ i. i < items) xs ys h.known k.known;
}
