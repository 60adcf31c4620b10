-- How much of a demand is left to do.
use Rattle.std.specs.Prelude.{◌≡◌, ℕ, ◌+◌, ◌⊎◌}
use Rattle.bt_demand.specs.Tree.{Tree, Trees, leaf, drop, reject, all, first, hold, none, more}
use Rattle.bt_demand.specs.declared.demand.State.{State}
use Rattle.bt_demand.specs.declared.demand.State.TheVariants.{Untried as Fresh, Good, Bad}
use Rattle.bt_demand.specs.declared.demand.Stage.{Stage}
use Rattle.bt_demand.specs.declared.demand.Stage.TheVariants.{Untried as Idle, Waiting, Released}

abbrev pub work_of_state : State → ℕ
work_of_state Fresh = 1
work_of_state Good = 0
work_of_state Bad = 0

abbrev pub work_of_stage : Stage → ℕ
work_of_stage Idle = 2
work_of_stage Waiting = 1
work_of_stage Released = 0

-- how often a demand can still change
abbrev mutual
  pub work : Tree → ℕ
  work (leaf n k b s) = work_of_state s
  work drop = 0
  work (reject w) = 0
  work (all ts) = work_all ts
  work (first ts) = work_all ts
  work (hold n e z c g) = work c + work_of_stage g

  pub work_all : Trees → ℕ
  work_all none = 0
  work_all (more t ts) = work t + work_all ts

-- a hold of that number waits
abbrev mutual
  pub Waits : ℕ → Tree → Type 0
  Waits m (leaf n k b s) = ⊥
  Waits m drop = ⊥
  Waits m (reject w) = ⊥
  Waits m (all ts) = SomeWaits m ts
  Waits m (first ts) = SomeWaits m ts
  Waits m (hold n e z c g) = ((n ≡ m) × (g ≡ Waiting)) ⊎ Waits m c

  pub SomeWaits : ℕ → Trees → Type 0
  SomeWaits m none = ⊥
  SomeWaits m (more t ts) = Waits m t ⊎ SomeWaits m ts
