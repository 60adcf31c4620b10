-- When a demand is met and when it is lost, by the states of its leaves and the stages of its holds.
use Rattle.std.specs.Prelude.{Bool, true, false, ◌&&◌, ◌||◌}
use Rattle.bt_demand.specs.Tree.{Tree, Trees, leaf, drop, reject, all, first, hold, none, more}
use Rattle.bt_demand.specs.declared.demand.Stage.{Stage}
use Rattle.bt_demand.specs.declared.demand.Stage.TheVariants.{Untried as Idle, Waiting, Released}
use Rattle.bt_demand.specs.declared.demand.State.{State}
use Rattle.bt_demand.specs.declared.demand.State.TheVariants.{Untried as Fresh, Good, Bad}
use Rattle.bt_demand.specs.declared.outcome.Outcome.{Outcome}
use Rattle.bt_demand.specs.declared.outcome.Outcome.TheVariants.{Open, Met, Lost}

abbrev pub accepted : State → Bool
accepted Fresh = false
accepted Good = true
accepted Bad = false

abbrev pub refused : State → Bool
refused Fresh = false
refused Good = false
refused Bad = true

abbrev pub is_released : Stage → Bool
is_released Idle = false
is_released Waiting = false
is_released Released = true

abbrev mutual
  -- A leaf is met where its record was accepted, and an All where every child is. A First is met where some child is
  -- and every one before it is lost. A hold is met where it was released and its child is met.
  pub met : Tree → Bool
  met (leaf n k b s) = accepted s
  met drop = true
  met (reject w) = false
  met (all ts) = all_met ts
  met (first ts) = met_after_lost ts
  met (hold n e z c g) = is_released g && met c

  -- A leaf is lost where its record was refused, and a First where every child is. An All is lost where every child is
  -- met or lost, and some child is lost. A hold is lost where it was released and its child is lost.
  pub lost : Tree → Bool
  lost (leaf n k b s) = refused s
  lost drop = false
  lost (reject w) = true
  lost (all ts) = all_settled ts && some_lost ts
  lost (first ts) = all_lost ts
  lost (hold n e z c g) = is_released g && lost c

  pub all_met : Trees → Bool
  all_met none = true
  all_met (more t ts) = met t && all_met ts

  pub all_lost : Trees → Bool
  all_lost none = true
  all_lost (more t ts) = lost t && all_lost ts

  pub all_settled : Trees → Bool
  all_settled none = true
  all_settled (more t ts) = (met t || lost t) && all_settled ts

  pub some_lost : Trees → Bool
  some_lost none = false
  some_lost (more t ts) = lost t || some_lost ts

  -- some one is met, and every one before it is lost
  pub met_after_lost : Trees → Bool
  met_after_lost none = false
  met_after_lost (more t ts) = met t || (lost t && met_after_lost ts)

abbrev pub is_met : Outcome → Bool
is_met Open = false
is_met Met = true
is_met Lost = false

abbrev pub is_lost : Outcome → Bool
is_lost Open = false
is_lost Met = false
is_lost Lost = true

abbrev pub outcome_of_state : State → Outcome
outcome_of_state Fresh = Open
outcome_of_state Good = Met
outcome_of_state Bad = Lost

abbrev pub outcome_of_both : Outcome → Outcome → Outcome
outcome_of_both Open _ = Open
outcome_of_both Met o = o
outcome_of_both Lost Open = Open
outcome_of_both Lost Met = Lost
outcome_of_both Lost Lost = Lost

abbrev pub outcome_or_else : Outcome → Outcome → Outcome
outcome_or_else Open _ = Open
outcome_or_else Met _ = Met
outcome_or_else Lost o = o

abbrev pub outcome_of_hold : Stage → Outcome → Outcome
outcome_of_hold Idle _ = Open
outcome_of_hold Waiting _ = Open
outcome_of_hold Released o = o

-- both words in one: Met where it is met, Lost where it is lost, else Open
abbrev mutual
  pub outcome : Tree → Outcome
  outcome (leaf n k b s) = outcome_of_state s
  outcome drop = Met
  outcome (reject w) = Lost
  outcome (all ts) = outcome_of_all ts
  outcome (first ts) = outcome_of_first ts
  outcome (hold n e z c g) = outcome_of_hold g (outcome c)

  pub outcome_of_all : Trees → Outcome
  outcome_of_all none = Met
  outcome_of_all (more t ts) = outcome_of_both (outcome t) (outcome_of_all ts)

  pub outcome_of_first : Trees → Outcome
  outcome_of_first none = Lost
  outcome_of_first (more t ts) = outcome_or_else (outcome t) (outcome_of_first ts)
