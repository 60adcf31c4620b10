-- What stands in a tree: the bytes of a leaf, what is below a hold, and whether anything was tried.
use Rattle.std.specs.Prelude.{ℕ, Bool, true, false, ◌||◌, cond, eqb, List, Option, Some, None}
use Rattle.bt_demand.specs.Tree.{Tree, Trees, leaf, drop, reject, all, first, hold, none, more}
use Rattle.bt_demand.specs.declared.demand.Stage.{Stage}
use Rattle.bt_demand.specs.declared.demand.Stage.TheVariants.{Untried as Idle, Waiting, Released}
use Rattle.bt_demand.specs.declared.demand.State.{State}
use Rattle.bt_demand.specs.declared.demand.State.TheVariants.{Untried as Fresh, Good, Bad}

-- the first of two, where it is there
abbrev pub or_else : Option (List ℕ) → Option (List ℕ) → Option (List ℕ)
or_else None r = r
or_else (Some b) _ = Some b

abbrev mutual
  -- the bytes of the first leaf of that number
  pub bytes_of : ℕ → Tree → Option (List ℕ)
  bytes_of l (leaf n k b s) = cond (eqb n l) (Some b) None
  bytes_of l drop = None
  bytes_of l (reject w) = None
  bytes_of l (all ts) = bytes_in l ts
  bytes_of l (first ts) = bytes_in l ts
  bytes_of l (hold n e z c g) = bytes_of l c

  pub bytes_in : ℕ → Trees → Option (List ℕ)
  bytes_in l none = None
  bytes_in l (more t ts) = or_else (bytes_of l t) (bytes_in l ts)

-- the first of two trees, where it is there
abbrev pub tree_or_else : Option Tree → Option Tree → Option Tree
tree_or_else None r = r
tree_or_else (Some t) _ = Some t

abbrev mutual
  -- the child of the first hold of that number
  pub below : ℕ → Tree → Option Tree
  below m (leaf n k b s) = None
  below m drop = None
  below m (reject w) = None
  below m (all ts) = below_each m ts
  below m (first ts) = below_each m ts
  below m (hold n e z c g) = cond (eqb n m) (Some c) (below m c)

  pub below_each : ℕ → Trees → Option Tree
  below_each m none = None
  below_each m (more t ts) = tree_or_else (below m t) (below_each m ts)

abbrev pub is_there : Option (List ℕ) → Bool
is_there None = false
is_there (Some b) = true

abbrev pub has_leaf : ℕ → Option Tree → Bool
has_leaf l None = false
has_leaf l (Some t) = is_there (bytes_of l t)

-- the first hold of number m has a leaf of number l below it
abbrev pub leaf_below : ℕ → ℕ → Tree → Bool
leaf_below m l t = has_leaf l (below m t)

abbrev pub tried : State → Bool
tried Fresh = false
tried Good = true
tried Bad = true

abbrev pub reached : Stage → Bool
reached Idle = false
reached Waiting = true
reached Released = true

abbrev mutual
  -- some leaf's state or some hold's stage isn't untried
  pub begun : Tree → Bool
  begun (leaf n k b s) = tried s
  begun drop = false
  begun (reject w) = false
  begun (all ts) = some_begun ts
  begun (first ts) = some_begun ts
  begun (hold n e z c g) = reached g || begun c

  pub some_begun : Trees → Bool
  some_begun none = false
  some_begun (more t ts) = begun t || some_begun ts
