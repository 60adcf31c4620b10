-- What is next for a demand, the leftmost first.
use Rattle.std.specs.Prelude.{ℕ, Bool, true, false, ◌&&◌, Option, Some, None}
use Rattle.bt_demand.specs.Tree.{Tree, Trees, leaf, drop, reject, all, first, hold, none, more}
use Rattle.bt_demand.specs.declared.demand.State.{State}
use Rattle.bt_demand.specs.declared.demand.State.TheVariants.{Untried as Fresh, Good, Bad}
use Rattle.bt_demand.specs.declared.demand.Stage.{Stage}
use Rattle.bt_demand.specs.declared.demand.Stage.TheVariants.{Untried as Idle, Waiting, Released}
use Rattle.bt_demand.specs.declared.outcome.Outcome.{Outcome}
use Rattle.bt_demand.specs.declared.outcome.Outcome.TheVariants.{Open, Met, Lost}
use Rattle.bt_demand.specs.declared.todo.Todo.{Todo}
use Rattle.bt_demand.specs.declared.todo.Todo.TheVariants.{Put, Wait, Settled}

-- it is a leaf to put or a hold to wait in
abbrev pub starts : Option Todo → Bool
starts (Some (Put l k)) = true
starts (Some (Wait n)) = true
starts (Some (Settled m)) = false
starts None = false

-- what is next for two of which each is tried
abbrev pub both : Option Todo → Option Todo → Option Todo
both (Some (Put l k)) _ = Some (Put l k)
both (Some (Wait n)) _ = Some (Wait n)
both (Some (Settled m)) (Some (Settled n)) = Some (Settled (m && n))
both (Some (Settled m)) None = None
both (Some (Settled m)) (Some (Put l k)) = Some (Put l k)
both (Some (Settled m)) (Some (Wait n)) = Some (Wait n)
both None (Some (Settled n)) = None
both None None = None
both None (Some (Put l k)) = Some (Put l k)
both None (Some (Wait n)) = Some (Wait n)

-- what is next for two of which the second is tried where the first is lost
abbrev pub fallback : Option Todo → Option Todo → Option Todo
fallback (Some (Settled false)) r = r
fallback (Some (Settled true)) _ = Some (Settled true)
fallback (Some (Put l k)) _ = Some (Put l k)
fallback (Some (Wait n)) _ = Some (Wait n)
fallback None _ = None

abbrev pub todo_of_leaf : ℕ → ℕ → State → Option Todo
todo_of_leaf n k Fresh = Some (Put n k)
todo_of_leaf n k Good = Some (Settled true)
todo_of_leaf n k Bad = Some (Settled false)

abbrev pub todo_of_hold : ℕ → Stage → Option Todo → Option Todo
todo_of_hold n Idle _ = Some (Wait n)
todo_of_hold n Waiting _ = None
todo_of_hold n Released r = r

abbrev mutual
  -- the leaf to put, the hold to wait in, or that it is settled; None where all that may start waits
  pub todo : Tree → Option Todo
  todo (leaf n k b s) = todo_of_leaf n k s
  todo drop = Some (Settled true)
  todo (reject w) = Some (Settled false)
  todo (all ts) = todo_of_all ts
  todo (first ts) = todo_of_first ts
  todo (hold n e z c g) = todo_of_hold n g (todo c)

  pub todo_of_all : Trees → Option Todo
  todo_of_all none = Some (Settled true)
  todo_of_all (more t ts) = both (todo t) (todo_of_all ts)

  pub todo_of_first : Trees → Option Todo
  todo_of_first none = Some (Settled false)
  todo_of_first (more t ts) = fallback (todo t) (todo_of_first ts)

-- whether a demand is settled, by what is next for it
abbrev pub outcome_after : Option Todo → Outcome
outcome_after (Some (Put l k)) = Open
outcome_after (Some (Wait n)) = Open
outcome_after (Some (Settled true)) = Met
outcome_after (Some (Settled false)) = Lost
outcome_after None = Open
