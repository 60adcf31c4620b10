-- The holds of a tree by number and stage.
use Rattle.std.specs.Prelude.{◌≡◌, ℕ, ◌+◌, ◌≤◌, Bool, true, false, ◌&&◌, cond, eqb, ◌⊎◌, Option, Some, None}
use Rattle.bt_demand.specs.Find.{begun}
use Rattle.bt_demand.specs.Outcomes.{outcome}
use Rattle.bt_demand.specs.Tree.{Tree, Trees, leaf, drop, reject, all, first, hold, none, more}
use Rattle.bt_demand.specs.declared.demand.Stage.{Stage}
use Rattle.bt_demand.specs.declared.demand.Stage.TheVariants.{Untried as Idle, Waiting, Released}
use Rattle.bt_demand.specs.declared.holding.Held.{Held}
use Rattle.bt_demand.specs.declared.outcome.Outcome.{Outcome}
use Rattle.bt_demand.specs.declared.outcome.Outcome.TheVariants.{Open, Met, Lost}

abbrev pub one_if : Bool → ℕ
one_if true = 1
one_if false = 0

abbrev pub is_waiting : Stage → Bool
is_waiting Idle = false
is_waiting Waiting = true
is_waiting Released = false

-- it was not released yet
abbrev pub is_active : Stage → Bool
is_active Idle = true
is_active Waiting = true
is_active Released = false

abbrev pub is_idle : Stage → Bool
is_idle Idle = true
is_idle Waiting = false
is_idle Released = false

abbrev mutual
  -- how many holds pass a test of their number and stage
  pub count_holds : (ℕ → Stage → Bool) → Tree → ℕ
  count_holds p (leaf n k b s) = 0
  count_holds p drop = 0
  count_holds p (reject w) = 0
  count_holds p (all ts) = count_holds_in p ts
  count_holds p (first ts) = count_holds_in p ts
  count_holds p (hold n e z c g) = one_if (p n g) + count_holds p c

  pub count_holds_in : (ℕ → Stage → Bool) → Trees → ℕ
  count_holds_in p none = 0
  count_holds_in p (more t ts) = count_holds p t + count_holds_in p ts

-- the holds that are untried or wait
abbrev pub active : Tree → ℕ
active t = count_holds (λ _ g. is_active g) t

-- the holds that wait
abbrev pub waiting : Tree → ℕ
waiting t = count_holds (λ _ g. is_waiting g) t

-- the holds of that number that wait
abbrev pub waits_at : ℕ → Tree → ℕ
waits_at n t = count_holds (λ m g. eqb m n && is_waiting g) t

-- the holds of that number
abbrev pub holds_at : ℕ → Tree → ℕ
holds_at n t = count_holds (λ m _. eqb m n) t

abbrev pub is_open : Outcome → Bool
is_open Open = true
is_open Met = false
is_open Lost = false

-- How many holds a part has booked: those that are untried or wait, from when it begins until it is settled. Each of them
-- may still need an entry in a chain.
abbrev pub booked_in : Tree → ℕ
booked_in t = cond (begun t && is_open (outcome t)) (active t) 0

-- the first of two, where it is there
abbrev pub held_or_else : Option Held → Option Held → Option Held
held_or_else None r = r
held_or_else (Some h) _ = Some h

abbrev mutual
  -- what the first hold of that number says of its message
  pub held_by : ℕ → Tree → Option Held
  held_by m (leaf n k b s) = None
  held_by m drop = None
  held_by m (reject w) = None
  held_by m (all ts) = held_by_some m ts
  held_by m (first ts) = held_by_some m ts
  held_by m (hold n e z c g) = cond (eqb n m) (Some (record { ends = e; size = z })) (held_by m c)

  pub held_by_some : ℕ → Trees → Option Held
  held_by_some m none = None
  held_by_some m (more t ts) = held_or_else (held_by m t) (held_by_some m ts)

abbrev mutual
  -- What waits stands after no child of a First that isn't lost, and no hold stands below a hold. So what waits is asked.
  pub Tidy : Tree → Type 0
  Tidy (leaf n k b s) = Unit {0}
  Tidy drop = Unit {0}
  Tidy (reject w) = Unit {0}
  Tidy (all ts) = TidyIn ts
  Tidy (first ts) = TidyAfter ts
  Tidy (hold n e z c g) = Tidy c × (count_holds (λ _ _. true) c ≡ 0)

  pub TidyIn : Trees → Type 0
  TidyIn none = Unit {0}
  TidyIn (more t ts) = Tidy t × TidyIn ts

  pub TidyAfter : Trees → Type 0
  TidyAfter none = Unit {0}
  TidyAfter (more t ts) = Tidy t × (((outcome t ≡ Lost) ⊎ (count_holds_in (λ _ g. is_waiting g) ts ≡ 0)) × TidyAfter ts)

-- no two holds have one number
abbrev pub OneEach : Tree → Type 0
OneEach t = (n : ℕ) → holds_at n t ≤ 1

-- each hold once, whatever its stage
abbrev pub every_hold : Tree → ℕ
every_hold t = count_holds (λ _ _. true) t
