-- Trees beside the records of their leaves.
use Rattle.std.specs.Prelude.{◌≡◌, ℕ, Bool, List, cond, eqb, if◌then◌else◌}
use Rattle.std.specs.List.{list_any}
use Rattle.bt_demand.specs.Outcomes.{met, lost}
use Rattle.bt_demand.specs.Tree.{Tree, Trees, leaf, drop, reject, all, first, hold, none, more}
use Rattle.bt_demand.specs.declared.outcome.Outcome.{Outcome}
use Rattle.bt_demand.specs.declared.outcome.Outcome.TheVariants.{Open, Met, Lost}
use Rattle.bt_demand.specs.declared.demand.State.{State}
use Rattle.bt_demand.specs.declared.demand.State.TheVariants.{Untried as Fresh, Good, Bad}
use Rattle.bt_demand.specs.declared.demand.Stage.TheVariants.{Untried as Idle, Released}

-- what is settled stays settled in the same way
abbrev pub Grows : Outcome → Outcome → Type 0
Grows Open b = Unit {0}
Grows Met b = b ≡ Met
Grows Lost b = b ≡ Lost

-- the tree with the leaves' states of the records, and no hold waiting
abbrev mutual
  pub recorded : (ℕ → State) → Tree → Tree
  recorded look (leaf n k b x) = leaf n k b (look n)
  recorded look drop = drop
  recorded look (reject w) = reject w
  recorded look (all ts) = all (recorded_in look ts)
  recorded look (first ts) = first (recorded_in look ts)
  recorded look (hold m e z c g) = hold m e z (recorded look c) Released

  pub recorded_in : (ℕ → State) → Trees → Trees
  recorded_in look none = none
  recorded_in look (more t ts) = more (recorded look t) (recorded_in look ts)

-- the tree of which nothing was tried
abbrev mutual
  pub untried : Tree → Tree
  untried (leaf n k b x) = leaf n k b Fresh
  untried drop = drop
  untried (reject w) = reject w
  untried (all ts) = all (untried_in ts)
  untried (first ts) = first (untried_in ts)
  untried (hold m e z c g) = hold m e z (untried c) Idle

  pub untried_in : Trees → Trees
  untried_in none = none
  untried_in (more t ts) = more (untried t) (untried_in ts)

-- each leaf has the state of its records
abbrev mutual
  pub Agree : (ℕ → State) → Tree → Type 0
  Agree look (leaf n k b x) = x ≡ look n
  Agree look drop = Unit {0}
  Agree look (reject w) = Unit {0}
  Agree look (all ts) = AgreeAll look ts
  Agree look (first ts) = AgreeAll look ts
  Agree look (hold m e z c g) = Agree look c

  pub AgreeAll : (ℕ → State) → Trees → Type 0
  AgreeAll look none = Unit {0}
  AgreeAll look (more t ts) = Agree look t × AgreeAll look ts

-- one more record
abbrev pub with_record : (ℕ → State) → ℕ → State → ℕ → State
with_record look l s n = cond (eqb n l) s (look n)

-- the state of a leaf, by the numbers of the leaves whose records were accepted and refused
abbrev pub state_by : List ℕ → List ℕ → ℕ → State
state_by accepted refused n = if list_any (eqb n) accepted then Good else if list_any (eqb n) refused then Bad else Fresh

-- met and lost by records, once no hold waits
abbrev pub met_by : List ℕ → List ℕ → Tree → Bool
met_by accepted refused t = met (recorded (state_by accepted refused) t)

abbrev pub lost_by : List ℕ → List ℕ → Tree → Bool
lost_by accepted refused t = lost (recorded (state_by accepted refused) t)
