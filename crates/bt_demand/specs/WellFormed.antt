-- What a demand must be before anything of it is tried.
use Rattle.std.specs.Prelude.{◌≡◌, ◌≢◌, ℕ, ◌<◌, ◌≤◌, false, List, [], ◌∷◌, ◌++◌}
use Rattle.std.specs.List.{All, AllByRecursion}
use Rattle.bt_demand.specs.Find.{begun}
use Rattle.bt_demand.specs.Holds.{holds}
use Rattle.bt_demand.specs.Tree.{Tree, Trees, leaf, drop, reject, all, first, hold, none, more}

abbrev mutual
  -- the numbers of the leaves, as they stand
  pub leaves : Tree → List ℕ
  leaves (leaf n k b s) = n ∷ []
  leaves drop = []
  leaves (reject w) = []
  leaves (all ts) = leaves_in ts
  leaves (first ts) = leaves_in ts
  leaves (hold n e z c g) = leaves c

  pub leaves_in : Trees → List ℕ
  leaves_in none = []
  leaves_in (more t ts) = leaves t ++ leaves_in ts

abbrev mutual
  -- the sinks of the leaves, as they stand
  pub sinks : Tree → List ℕ
  sinks (leaf n k b s) = k ∷ []
  sinks drop = []
  sinks (reject w) = []
  sinks (all ts) = sinks_in ts
  sinks (first ts) = sinks_in ts
  sinks (hold n e z c g) = sinks c

  pub sinks_in : Trees → List ℕ
  sinks_in none = []
  sinks_in (more t ts) = sinks t ++ sinks_in ts

abbrev mutual
  -- the numbers of the holds, as they stand, a hold before what is below it
  pub nodes : Tree → List ℕ
  nodes (leaf n k b s) = []
  nodes drop = []
  nodes (reject w) = []
  nodes (all ts) = nodes_in ts
  nodes (first ts) = nodes_in ts
  nodes (hold n e z c g) = n ∷ nodes c

  pub nodes_in : Trees → List ℕ
  nodes_in none = []
  nodes_in (more t ts) = nodes t ++ nodes_in ts

-- each number differs from those after it
abbrev pub Differ : List ℕ → Type 0
Differ [] = Unit {0}
Differ (x ∷ xs) = AllByRecursion (λ y. x ≢ y) xs × Differ xs

-- each number is below those after it
abbrev pub Rises : List ℕ → Type 0
Rises [] = Unit {0}
Rises (x ∷ xs) = AllByRecursion (λ y. x < y) xs × Rises xs

abbrev mutual
  -- no hold stands below a hold
  pub IsFlat : Tree → Type 0
  IsFlat (leaf n k b s) = Unit {0}
  IsFlat drop = Unit {0}
  IsFlat (reject w) = Unit {0}
  IsFlat (all ts) = AreFlat ts
  IsFlat (first ts) = AreFlat ts
  IsFlat (hold n e z c g) = nodes c ≡ []

  pub AreFlat : Trees → Type 0
  AreFlat none = Unit {0}
  AreFlat (more t ts) = IsFlat t × AreFlat ts

abbrev pub HasChild : Trees → Type 0
HasChild none = ⊥
HasChild (more t ts) = Unit {0}

abbrev mutual
  -- each First has a child
  pub FirstsHaveChildren : Tree → Type 0
  FirstsHaveChildren (leaf n k b s) = Unit {0}
  FirstsHaveChildren drop = Unit {0}
  FirstsHaveChildren (reject w) = Unit {0}
  FirstsHaveChildren (all ts) = FirstsInHaveChildren ts
  FirstsHaveChildren (first ts) = HasChild ts × FirstsInHaveChildren ts
  FirstsHaveChildren (hold n e z c g) = FirstsHaveChildren c

  pub FirstsInHaveChildren : Trees → Type 0
  FirstsInHaveChildren none = Unit {0}
  FirstsInHaveChildren (more t ts) = FirstsHaveChildren t × FirstsInHaveChildren ts

-- a demand for so many sinks and so many holds, of which nothing was tried
pub record WellFormed (sink_count : ℕ) (hold_count : ℕ) (t : Tree) : Type 0 where
  pub untried : begun t ≡ false
  pub leaves_differ : Differ (leaves t)
  pub sinks_known : All (λ k. k < sink_count) (sinks t)
  pub holds_known : All (λ n. n < hold_count) (nodes t)
  pub holds_rise : Rises (nodes t)
  pub holds_flat : IsFlat t
  pub firsts_have_children : FirstsHaveChildren t
  pub few_holds : holds t ≤ 64
