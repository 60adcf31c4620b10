-- Why a list of demands is lost.
use Rattle.std.proofs.Common.{◌≡◌, ℕ, zero, suc, ◌-◌, arith, List, [], ◌∷◌, ◌++◌, length, Option, Some, None, refl, ap, sym, ◌∙◌}
use Rattle.std.specs.Prelude.{min, slice_get}
use Rattle.bt_demand.specs.Reasons.{why, why_of_last, least, lesser, refused_leaves, refused_in, number_if_refused, least_refused, least_refused_in, least_of_state}
use Rattle.bt_demand.specs.Tree.{Tree, Trees, leaf, drop, reject, all, first, hold, none, more}
use Rattle.bt_demand.specs.declared.demand.State.{State}
use Rattle.bt_demand.specs.declared.demand.State.TheVariants.{Untried as Fresh, Good, Bad}
use Rattle.bt_demand.specs.View.{tree, trees}
use Rattle.bt_demand.specs.declared.demand.Demand.{Demand}

min-joins : (x y z : ℕ) → min (min x y) z ≡ min x (min y z)
min-joins x y z = omega arith

pub lesser-joins : (a b c : Option ℕ) → lesser (lesser a b) c ≡ lesser a (lesser b c)
lesser-joins None b c = refl
lesser-joins (Some x) None c = refl
lesser-joins (Some x) (Some y) None = refl
lesser-joins (Some x) (Some y) (Some z) = ap Some (min-joins x y z)

least-append : (xs ys : List ℕ) → least (xs ++ ys) ≡ lesser (least xs) (least ys)
least-append [] ys = refl
least-append (x ∷ xs) ys = ap (lesser (Some x)) (least-append xs ys) ∙ sym (lesser-joins (Some x) (least xs) (least ys))

state-refused : (n : ℕ) (s : State) → least_of_state n s ≡ least (number_if_refused n s)
state-refused n Fresh = refl
state-refused n Good = refl
state-refused n Bad = refl

mutual
  pub least-refused : (t : Tree) → least_refused t ≡ least (refused_leaves t)
  least-refused (leaf n k b s) = state-refused n s
  least-refused drop = refl
  least-refused (reject w) = refl
  least-refused (all ts) = least-refused-in ts
  least-refused (first ts) = least-refused-in ts
  least-refused (hold n e z c g) = least-refused c

  least-refused-in : (ts : Trees) → least_refused_in ts ≡ least (refused_in ts)
  least-refused-in none = refl
  least-refused-in (more t ts) =
      let h = least-refused t in
      let k = least-refused-in ts in
      let j = least-append (refused_leaves t) (refused_in ts) in
      cc

why-at : (xs : List Demand) (n : ℕ) (d : Demand) → length xs ≡ suc n → slice_get xs n ≡ Some d → why_of_last (trees xs) ≡ why (tree d)
why-at [] n d l e = cc
why-at (x ∷ []) zero d l e = cc
why-at (x ∷ []) (suc n) d l e = cc
why-at (x ∷ (y ∷ ys)) zero d l e = absurd (omega arith)
why-at (x ∷ (y ∷ ys)) (suc n) d l e = why-at (y ∷ ys) n d (omega arith) e

-- the last of the list
pub why-last : (xs : List Demand) (d : Demand) → slice_get xs (length xs - 1) ≡ Some d → why_of_last (trees xs) ≡ why (tree d)
why-last [] d e = cc
why-last (x ∷ xs) d e =
    let n : length xs ≡ length (x ∷ xs) - 1 = omega arith in
    why-at (x ∷ xs) (length xs) d refl (ap (slice_get (x ∷ xs)) n ∙ e)
