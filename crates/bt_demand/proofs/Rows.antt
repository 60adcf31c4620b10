use Rattle.std.proofs.Common.{◌≡◌, ℕ, ◌<◌, suc, List, [], ◌∷◌, ap, refl, rules, drop, get_or, length, drop-cons}
use Rattle.std.proofs.Common.{arith}
use Rattle.bt_demand.specs.Tree.{more}
use Rattle.bt_demand.specs.Outcomes.{outcome_of_both}
use Rattle.bt_demand.specs.declared.outcome.Outcome.{Outcome}
use Rattle.bt_demand.specs.declared.outcome.Outcome.TheVariants.{Open, Met, Lost}
use Rattle.bt_demand.specs.declared.demand.State.{State}
use Rattle.bt_demand.specs.Steps.{settle, settle_each, wait, wait_each, release, release_each}
use Rattle.bt_demand.specs.View.{tree, trees_of_row, trees}
use Rattle.std.proofs.Common.{Option, Some, None, true, false, Bool, ◌&&◌}
use Rattle.bt_demand.specs.Next.{both}
use Rattle.bt_demand.specs.declared.todo.Todo.{Todo}
use Rattle.bt_demand.specs.declared.todo.Todo.TheVariants.{Put, Wait, Settled}
use Rattle.bt_demand.specs.Tree.{all, first}
use Rattle.bt_demand.specs.declared.demand.Demand.TheViews.{All, First, the_lemmas}
use Rattle.bt_demand.specs.declared.demand.Demand.TheOpen.{Demands-F}
use Rattle.bt_demand.specs.declared.demand.Demand.{Demand, Row_of-Demand, end_of-Demand, more_of-Demand, items-the_row-Demand}

pub trees-row : (n : _) (k : Row_of-Demand n) → trees_of_row k ≡ trees (items-the_row-Demand n k)
trees-row n end_of-Demand = refl
trees-row n (more_of-Demand d rest) = ap (λ r. more (tree d) r) (trees-row _ rest)

-- the list from an index on
pub trees-drop : (xs : List Demand) (i : ℕ) (d : Demand) → i < length xs → trees (drop i xs) ≡ more (tree (get_or xs i d)) (trees (drop (suc i) xs))
trees-drop xs i d h = ap trees (drop-cons xs i d h)

pub outcome_of_both-joins : (a f r : Outcome) → outcome_of_both a (outcome_of_both f r) ≡ outcome_of_both (outcome_of_both a f) r
outcome_of_both-joins Open f r = refl
outcome_of_both-joins Met f r = refl
outcome_of_both-joins Lost Open r = refl
outcome_of_both-joins Lost Met r = refl
outcome_of_both-joins Lost Lost Open = refl
outcome_of_both-joins Lost Lost Met = refl
outcome_of_both-joins Lost Lost Lost = refl

pub tree-All : (ds : Demands-F Demand (Unit {0})) → tree (All ds) ≡ all (trees ds.list.items)
tree-All ds = search (rules, trees-row, the_lemmas)

pub tree-First : (ds : Demands-F Demand (Unit {0})) → tree (First ds) ≡ first (trees ds.list.items)
tree-First ds = search (rules, trees-row, the_lemmas)

-- a list of which each demand was settled
pub settle_each-pointwise : (xs ys : List Demand) (n : ℕ) (s : State) → length xs ≡ length ys → ((k : ℕ) (d : Demand) → k < length ys → tree (get_or xs k d) ≡ settle n s (tree (get_or ys k d))) → trees xs ≡ settle_each n s (trees ys)
settle_each-pointwise [] [] n s e h = refl
settle_each-pointwise [] (y ∷ ys) n s e h = absurd (omega arith)
settle_each-pointwise (x ∷ xs) [] n s e h = absurd (omega arith)
settle_each-pointwise (x ∷ xs) (y ∷ ys) n s e h =
    let here : tree x ≡ settle n s (tree y) = h 0 x (omega arith) in
    let there : trees xs ≡ settle_each n s (trees ys) = settle_each-pointwise xs ys n s (omega arith) (λ k d w. h (suc k) d (omega arith)) in
    cc

pub wait_each-pointwise : (xs ys : List Demand) (n : ℕ) → length xs ≡ length ys → ((k : ℕ) (d : Demand) → k < length ys → tree (get_or xs k d) ≡ wait n (tree (get_or ys k d))) → trees xs ≡ wait_each n (trees ys)
wait_each-pointwise [] [] n e h = refl
wait_each-pointwise [] (y ∷ ys) n e h = absurd (omega arith)
wait_each-pointwise (x ∷ xs) [] n e h = absurd (omega arith)
wait_each-pointwise (x ∷ xs) (y ∷ ys) n e h =
    let here : tree x ≡ wait n (tree y) = h 0 x (omega arith) in
    let there : trees xs ≡ wait_each n (trees ys) = wait_each-pointwise xs ys n (omega arith) (λ k d w. h (suc k) d (omega arith)) in
    cc

and-joins : (a b c : Bool) → (a && (b && c)) ≡ ((a && b) && c)
and-joins true b c = refl
and-joins false b c = refl

pub both-joins : (a b c : Option Todo) → both a (both b c) ≡ both (both a b) c
both-joins (Some (Put l k)) b c = refl
both-joins (Some (Wait n)) b c = refl
both-joins (Some (Settled m)) (Some (Put l k)) c = refl
both-joins (Some (Settled m)) (Some (Wait n)) c = refl
both-joins (Some (Settled m)) (Some (Settled n)) (Some (Settled p)) = ap (λ b. Some (Settled b)) (and-joins m n p)
both-joins (Some (Settled m)) (Some (Settled n)) (Some (Put l k)) = refl
both-joins (Some (Settled m)) (Some (Settled n)) (Some (Wait p)) = refl
both-joins (Some (Settled m)) (Some (Settled n)) None = refl
both-joins (Some (Settled m)) None (Some (Put l k)) = refl
both-joins (Some (Settled m)) None (Some (Wait p)) = refl
both-joins (Some (Settled m)) None (Some (Settled p)) = refl
both-joins (Some (Settled m)) None None = refl
both-joins None (Some (Put l k)) c = refl
both-joins None (Some (Wait n)) c = refl
both-joins None (Some (Settled n)) (Some (Put l k)) = refl
both-joins None (Some (Settled n)) (Some (Wait p)) = refl
both-joins None (Some (Settled n)) (Some (Settled p)) = refl
both-joins None (Some (Settled n)) None = refl
both-joins None None (Some (Put l k)) = refl
both-joins None None (Some (Wait p)) = refl
both-joins None None (Some (Settled p)) = refl
both-joins None None None = refl

pub both-nothing : (a : Option Todo) → both a (Some (Settled true)) ≡ a
both-nothing (Some (Put l k)) = refl
both-nothing (Some (Wait n)) = refl
both-nothing (Some (Settled true)) = refl
both-nothing (Some (Settled false)) = refl
both-nothing None = refl

pub nothing-both : (a : Option Todo) → both (Some (Settled true)) a ≡ a
nothing-both (Some (Put l k)) = refl
nothing-both (Some (Wait n)) = refl
nothing-both (Some (Settled m)) = refl
nothing-both None = refl

pub release_each-pointwise : (xs ys : List Demand) (n : ℕ) → length xs ≡ length ys → ((k : ℕ) (d : Demand) → k < length ys → tree (get_or xs k d) ≡ release n (tree (get_or ys k d))) → trees xs ≡ release_each n (trees ys)
release_each-pointwise [] [] n e h = refl
release_each-pointwise [] (y ∷ ys) n e h = absurd (omega arith)
release_each-pointwise (x ∷ xs) [] n e h = absurd (omega arith)
release_each-pointwise (x ∷ xs) (y ∷ ys) n e h =
    let here : tree x ≡ release n (tree y) = h 0 x (omega arith) in
    let there : trees xs ≡ release_each n (trees ys) = release_each-pointwise xs ys n (omega arith) (λ k d w. h (suc k) d (omega arith)) in
    cc
