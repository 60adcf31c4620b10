-- The holds that are asked and released, and the leaf that is next in a tree or below such a hold.
use Rattle.std.specs.Prelude.{◌≡◌, ℕ, ◌⊎◌, Option, Some, None}
use Rattle.bt_demand.specs.Find.{below}
use Rattle.bt_demand.specs.Next.{todo}
use Rattle.bt_demand.specs.Outcomes.{outcome}
use Rattle.bt_demand.specs.Tree.{Tree, Trees, leaf, drop, reject, all, first, hold, none, more}
use Rattle.bt_demand.specs.declared.demand.Stage.TheVariants.{Released}
use Rattle.bt_demand.specs.declared.outcome.Outcome.TheVariants.{Lost}
use Rattle.bt_demand.specs.declared.todo.Todo.TheVariants.{Put}

abbrev mutual
  -- The first hold of that number is asked and released. Every child of an All is asked, and a child of a First where all
  -- before it are lost.
  pub Reach : ℕ → Tree → Type 0
  Reach n (leaf l k b s) = ⊥
  Reach n drop = ⊥
  Reach n (reject w) = ⊥
  Reach n (all ts) = ReachAll n ts
  Reach n (first ts) = ReachFirst n ts
  Reach n (hold m e z c g) = (m ≡ n) × (g ≡ Released)

  pub ReachAll : ℕ → Trees → Type 0
  ReachAll n none = ⊥
  ReachAll n (more t ts) = Reach n t ⊎ ((below n t ≡ None) × ReachAll n ts)

  pub ReachFirst : ℕ → Trees → Type 0
  ReachFirst n none = ⊥
  ReachFirst n (more t ts) = Reach n t ⊎ ((below n t ≡ None) × ((outcome t ≡ Lost) × ReachFirst n ts))

-- the leaf is the next to put in a tree that is there
abbrev pub NextIn : ℕ → ℕ → Option Tree → Type 0
NextIn l k None = ⊥
NextIn l k (Some t) = todo t ≡ Some (Put l k)

-- the leaf is the next to put in the tree, or below a hold of it that is asked and released
abbrev pub IsNext : ℕ → ℕ → Tree → Type 0
IsNext l k t = (todo t ≡ Some (Put l k)) ⊎ ((n : ℕ) × (Reach n t × NextIn l k (below n t)))
