-- What is next says whether a demand is settled, and how.
use Rattle.std.proofs.Common.{◌≡◌, ℕ, true, false, Option, Some, None, refl, ap, ◌∙◌}
use Rattle.bt_demand.specs.Tree.{Tree, Trees, leaf, drop, reject, all, first, hold, none, more}
use Rattle.bt_demand.specs.Outcomes.{outcome, outcome_of_all, outcome_of_first, outcome_of_both, outcome_or_else, outcome_of_hold, outcome_of_state}
use Rattle.bt_demand.specs.Next.{todo, todo_of_all, todo_of_first, both, fallback, todo_of_leaf, todo_of_hold, outcome_after}
use Rattle.bt_demand.specs.declared.todo.Todo.{Todo}
use Rattle.bt_demand.specs.declared.todo.Todo.TheVariants.{Put, Wait, Settled}
use Rattle.bt_demand.specs.declared.demand.State.{State}
use Rattle.bt_demand.specs.declared.demand.State.TheVariants.{Untried as Fresh, Good, Bad}
use Rattle.bt_demand.specs.declared.demand.Stage.{Stage}
use Rattle.bt_demand.specs.declared.demand.Stage.TheVariants.{Untried as Idle, Waiting, Released}

all_next : (a b : Option Todo) → outcome_of_both (outcome_after a) (outcome_after b) ≡ outcome_after (both a b)
all_next (Some (Put l k)) b = refl
all_next (Some (Wait m)) b = refl
all_next (Some (Settled true)) (Some (Put l k)) = refl
all_next (Some (Settled true)) (Some (Wait m)) = refl
all_next (Some (Settled true)) (Some (Settled true)) = refl
all_next (Some (Settled true)) (Some (Settled false)) = refl
all_next (Some (Settled true)) None = refl
all_next (Some (Settled false)) (Some (Put l k)) = refl
all_next (Some (Settled false)) (Some (Wait m)) = refl
all_next (Some (Settled false)) (Some (Settled true)) = refl
all_next (Some (Settled false)) (Some (Settled false)) = refl
all_next (Some (Settled false)) None = refl
all_next None (Some (Put l k)) = refl
all_next None (Some (Wait m)) = refl
all_next None (Some (Settled b)) = refl
all_next None None = refl

first_next : (a b : Option Todo) → outcome_or_else (outcome_after a) (outcome_after b) ≡ outcome_after (fallback a b)
first_next (Some (Put l k)) b = refl
first_next (Some (Wait m)) b = refl
first_next (Some (Settled true)) b = refl
first_next (Some (Settled false)) b = refl
first_next None b = refl

leaf_next : (l k : ℕ) (x : State) → outcome_of_state x ≡ outcome_after (todo_of_leaf l k x)
leaf_next l k Fresh = refl
leaf_next l k Good = refl
leaf_next l k Bad = refl

hold_next : (m : ℕ) (g : Stage) (r : Option Todo) → outcome_of_hold g (outcome_after r) ≡ outcome_after (todo_of_hold m g r)
hold_next m Idle r = refl
hold_next m Waiting r = refl
hold_next m Released r = refl

mutual
  pub outcome_todo : (t : Tree) → outcome t ≡ outcome_after (todo t)
  outcome_todo (leaf l k b x) = leaf_next l k x
  outcome_todo drop = refl
  outcome_todo (reject w) = refl
  outcome_todo (all ts) = outcome_todo_of_all ts
  outcome_todo (first ts) = outcome_todo_of_first ts
  outcome_todo (hold m e z c g) = ap (outcome_of_hold g) (outcome_todo c) ∙ hold_next m g (todo c)

  pub outcome_todo_of_all : (ts : Trees) → outcome_of_all ts ≡ outcome_after (todo_of_all ts)
  outcome_todo_of_all none = refl
  outcome_todo_of_all (more t ts) = rw (outcome_todo t, outcome_todo_of_all ts) (all_next (todo t) (todo_of_all ts))

  pub outcome_todo_of_first : (ts : Trees) → outcome_of_first ts ≡ outcome_after (todo_of_first ts)
  outcome_todo_of_first none = refl
  outcome_todo_of_first (more t ts) = rw (outcome_todo t, outcome_todo_of_first ts) (first_next (todo t) (todo_of_first ts))
