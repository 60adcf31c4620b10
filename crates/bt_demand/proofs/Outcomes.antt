-- The outcome of a tree says in one word whether it is met and whether it is lost.
use Rattle.std.proofs.Common.{◌≡◌, Bool, true, false, ◌&&◌, ◌||◌, refl, ap, ◌∙◌}
use Rattle.bt_demand.specs.Tree.{Tree, Trees, leaf, drop, reject, all, first, hold, none, more}
use Rattle.bt_demand.specs.Outcomes.{met, lost, all_met, all_lost, all_settled, some_lost, met_after_lost, accepted, refused, is_released, is_met, is_lost, outcome, outcome_of_all, outcome_of_first, outcome_of_state, outcome_of_both, outcome_or_else, outcome_of_hold}
use Rattle.bt_demand.specs.declared.demand.Stage.{Stage}
use Rattle.bt_demand.specs.declared.demand.Stage.TheVariants.{Untried as Idle, Waiting, Released}
use Rattle.bt_demand.specs.declared.demand.State.{State}
use Rattle.bt_demand.specs.declared.demand.State.TheVariants.{Untried as Fresh, Good, Bad}
use Rattle.bt_demand.specs.declared.outcome.Outcome.{Outcome}
use Rattle.bt_demand.specs.declared.outcome.Outcome.TheVariants.{Open, Met, Lost}

state-met : (s : State) → is_met (outcome_of_state s) ≡ accepted s
state-met Fresh = refl
state-met Good = refl
state-met Bad = refl

state-lost : (s : State) → is_lost (outcome_of_state s) ≡ refused s
state-lost Fresh = refl
state-lost Good = refl
state-lost Bad = refl

both-met : (a b : Outcome) → is_met (outcome_of_both a b) ≡ (is_met a && is_met b)
both-met Open b = refl
both-met Met b = refl
both-met Lost Open = refl
both-met Lost Met = refl
both-met Lost Lost = refl

abbrev pub is_settled : Outcome → Bool
is_settled Open = false
is_settled Met = true
is_settled Lost = true

both-settled : (a b : Outcome) → is_settled (outcome_of_both a b) ≡ (is_settled a && is_settled b)
both-settled Open b = refl
both-settled Met b = refl
both-settled Lost Open = refl
both-settled Lost Met = refl
both-settled Lost Lost = refl

either-settled : (a : Outcome) → is_settled a ≡ (is_met a || is_lost a)
either-settled Open = refl
either-settled Met = refl
either-settled Lost = refl

-- for two of which each is asked
both-lost : (a b : Outcome) (p q : Bool) → is_settled b ≡ p → is_lost b ≡ (p && q) → is_lost (outcome_of_both a b) ≡ (((is_met a || is_lost a) && p) && (is_lost a || q))
both-lost Open b p q e f = refl
both-lost Met b p q e f = f
both-lost Lost Open true q e f = cc
both-lost Lost Open false q e f = refl
both-lost Lost Met true q e f = refl
both-lost Lost Met false q e f = cc
both-lost Lost Lost true q e f = refl
both-lost Lost Lost false q e f = cc

else-met : (a b : Outcome) → is_met (outcome_or_else a b) ≡ (is_met a || (is_lost a && is_met b))
else-met Open b = refl
else-met Met b = refl
else-met Lost b = refl

else-lost : (a b : Outcome) → is_lost (outcome_or_else a b) ≡ (is_lost a && is_lost b)
else-lost Open b = refl
else-lost Met b = refl
else-lost Lost b = refl

hold-met : (g : Stage) (o : Outcome) → is_met (outcome_of_hold g o) ≡ (is_released g && is_met o)
hold-met Idle o = refl
hold-met Waiting o = refl
hold-met Released o = refl

hold-lost : (g : Stage) (o : Outcome) → is_lost (outcome_of_hold g o) ≡ (is_released g && is_lost o)
hold-lost Idle o = refl
hold-lost Waiting o = refl
hold-lost Released o = refl

mutual
  pub outcome-met : (t : Tree) → is_met (outcome t) ≡ met t
  outcome-met (leaf n k b s) = state-met s
  outcome-met drop = refl
  outcome-met (reject w) = refl
  outcome-met (all ts) = all-met ts
  outcome-met (first ts) = first-met ts
  outcome-met (hold n e z c g) = hold-met g (outcome c) ∙ ap (λ b. is_released g && b) (outcome-met c)

  pub outcome-lost : (t : Tree) → is_lost (outcome t) ≡ lost t
  outcome-lost (leaf n k b s) = state-lost s
  outcome-lost drop = refl
  outcome-lost (reject w) = refl
  outcome-lost (all ts) = all-lost ts
  outcome-lost (first ts) = first-lost ts
  outcome-lost (hold n e z c g) = hold-lost g (outcome c) ∙ ap (λ b. is_released g && b) (outcome-lost c)

  all-met : (ts : Trees) → is_met (outcome_of_all ts) ≡ all_met ts
  all-met none = refl
  all-met (more t ts) =
      let h = outcome-met t in let k = all-met ts in let j = both-met (outcome t) (outcome_of_all ts) in cc

  all-settled : (ts : Trees) → is_settled (outcome_of_all ts) ≡ all_settled ts
  all-settled none = refl
  all-settled (more t ts) =
      let h = outcome-met t in
      let i = outcome-lost t in
      let s = either-settled (outcome t) in
      let k = all-settled ts in
      let j = both-settled (outcome t) (outcome_of_all ts) in
      cc

  all-lost : (ts : Trees) → is_lost (outcome_of_all ts) ≡ (all_settled ts && some_lost ts)
  all-lost none = refl
  all-lost (more t ts) =
      let h = outcome-met t in
      let i = outcome-lost t in
      let j = both-lost (outcome t) (outcome_of_all ts) (all_settled ts) (some_lost ts) (all-settled ts) (all-lost ts) in
      cc

  first-met : (ts : Trees) → is_met (outcome_of_first ts) ≡ met_after_lost ts
  first-met none = refl
  first-met (more t ts) =
      let h = outcome-met t in
      let i = outcome-lost t in
      let k = first-met ts in
      let j = else-met (outcome t) (outcome_of_first ts) in
      cc

  first-lost : (ts : Trees) → is_lost (outcome_of_first ts) ≡ all_lost ts
  first-lost none = refl
  first-lost (more t ts) =
      let i = outcome-lost t in let k = first-lost ts in let j = else-lost (outcome t) (outcome_of_first ts) in cc
