-- All of a demand that may start, the leftmost first.
use Rattle.std.specs.Prelude.{ℕ, true, false, List, [], ◌∷◌, ◌++◌, Option, Some, None, if◌then◌else◌}
use Rattle.bt_demand.specs.Outcomes.{lost}
use Rattle.bt_demand.specs.Tree.{Tree, Trees, leaf, drop, reject, all, first, hold, none, more}
use Rattle.bt_demand.specs.declared.demand.Stage.{Stage}
use Rattle.bt_demand.specs.declared.demand.Stage.TheVariants.{Untried as Idle, Waiting, Released}
use Rattle.bt_demand.specs.declared.demand.State.{State}
use Rattle.bt_demand.specs.declared.demand.State.TheVariants.{Untried as Fresh, Good, Bad}
use Rattle.bt_demand.specs.declared.outcome.Outcome.{Outcome}
use Rattle.bt_demand.specs.declared.outcome.Outcome.TheVariants.{Open, Met, Lost}
use Rattle.bt_demand.specs.declared.todo.Todo.{Todo}
use Rattle.bt_demand.specs.declared.todo.Todo.TheVariants.{Put, Wait, Settled}

-- a leaf whose record may be put, or a hold that may begin to wait
pub data Start : Type 0 where
  put : (leaf : ℕ) (sink : ℕ) → Start
  wait : (node : ℕ) → Start

abbrev pub put_if_untried : ℕ → ℕ → State → List Start
put_if_untried n k Fresh = put n k ∷ []
put_if_untried n k Good = []
put_if_untried n k Bad = []

-- a hold that was not reached may itself start, and a released one lets start what is below it
abbrev pub starts_at_hold : ℕ → Stage → List Start → List Start
starts_at_hold n Idle below = wait n ∷ []
starts_at_hold n Waiting below = []
starts_at_hold n Released below = below

abbrev mutual
  -- the leaves and holds that are asked and untried, with no hold above them but released ones
  pub startable : Tree → List Start
  startable (leaf n k b s) = put_if_untried n k s
  startable drop = []
  startable (reject w) = []
  startable (all ts) = startable_in ts
  startable (first ts) = startable_after_lost ts
  startable (hold n e z c g) = starts_at_hold n g (startable c)

  pub startable_in : Trees → List Start
  startable_in none = []
  startable_in (more t ts) = startable t ++ startable_in ts

  pub startable_after_lost : Trees → List Start
  startable_after_lost none = []
  startable_after_lost (more t ts) = startable t ++ (if lost t then startable_after_lost ts else [])

-- the first that may start; where nothing may, whether the demand is settled, and None where it is open
abbrev pub first_to_start : List Start → Outcome → Option Todo
first_to_start (put l k ∷ xs) o = Some (Put l k)
first_to_start (wait n ∷ xs) o = Some (Wait n)
first_to_start [] Open = None
first_to_start [] Met = Some (Settled true)
first_to_start [] Lost = Some (Settled false)
