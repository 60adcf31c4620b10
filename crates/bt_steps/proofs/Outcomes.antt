-- A hold that begins to wait settles nothing, and what has something to do is open.
use Rattle.std.proofs.Common.{◌≡◌, ℕ, Bool, true, false, cond, eqb, refl, ap, ◌∙◌, Some}
use Rattle.bt_demand.specs.Tree.{Tree, Trees, leaf, drop as nothing, reject, all, first, hold, none, more}
use Rattle.bt_demand.specs.Steps.{wait, wait_each, waits}
use Rattle.bt_demand.specs.Next.{todo, outcome_after}
use Rattle.bt_demand.specs.Outcomes.{outcome, outcome_of_all, outcome_of_first, outcome_of_hold}
use Rattle.bt_demand.specs.Holding.{is_open}
use Rattle.bt_demand.specs.declared.todo.Todo.TheVariants.{Put, Wait}
use Rattle.bt_demand.specs.declared.demand.Stage.{Stage}
use Rattle.bt_demand.specs.declared.demand.Stage.TheVariants.{Untried as Idle, Waiting, Released}
use Rattle.bt_demand.specs.declared.outcome.Outcome.{Outcome}
use Rattle.bt_demand.proofs.NextSettles.{outcome_todo}

hold_waits : (g : Stage) (b : Bool) (f : Outcome) → outcome_of_hold (cond b (waits g) g) f ≡ outcome_of_hold g f
hold_waits Idle true f = refl
hold_waits Idle false f = refl
hold_waits Waiting true f = refl
hold_waits Waiting false f = refl
hold_waits Released true f = refl
hold_waits Released false f = refl

-- a hold that waits settles nothing
mutual
  pub outcome_wait : (n : ℕ) (t : Tree) → outcome (wait n t) ≡ outcome t
  outcome_wait n (leaf l k b x) = refl
  outcome_wait n nothing = refl
  outcome_wait n (reject w) = refl
  outcome_wait n (all ts) = outcome_all_wait n ts
  outcome_wait n (first ts) = outcome_first_wait n ts
  outcome_wait n (hold m e z c g) = ap (outcome_of_hold (cond (eqb m n) (waits g) g)) (outcome_wait n c) ∙ hold_waits g (eqb m n) (outcome c)

  pub outcome_all_wait : (n : ℕ) (ts : Trees) → outcome_of_all (wait_each n ts) ≡ outcome_of_all ts
  outcome_all_wait n none = refl
  outcome_all_wait n (more t ts) = rw (outcome_wait n t, outcome_all_wait n ts) refl

  pub outcome_first_wait : (n : ℕ) (ts : Trees) → outcome_of_first (wait_each n ts) ≡ outcome_of_first ts
  outcome_first_wait n none = refl
  outcome_first_wait n (more t ts) = rw (outcome_wait n t, outcome_first_wait n ts) refl

-- what has something to do is open
pub open_put : (t : Tree) (l k : ℕ) → todo t ≡ Some (Put l k) → is_open (outcome t) ≡ true
open_put t l k e = ap is_open (outcome_todo t ∙ ap outcome_after e)

pub open_wait : (t : Tree) (m : ℕ) → todo t ≡ Some (Wait m) → is_open (outcome t) ≡ true
open_wait t m e = ap is_open (outcome_todo t ∙ ap outcome_after e)
