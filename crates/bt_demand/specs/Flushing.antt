-- The order in which one pass over the holds, in rising number, empties all of them.
use Rattle.std.specs.Prelude.{◌≡◌, ℕ, ◌<◌, ◌≤◌, ◌⊎◌, Bool, List, Option, Some, None}
use Rattle.bt_demand.specs.Tree.{Tree, Trees, leaf, drop, reject, all, first, hold, none, more}
use Rattle.bt_demand.specs.Outcomes.{outcome}
use Rattle.bt_demand.specs.declared.outcome.Outcome.TheVariants.{Met, Lost}
use Rattle.bt_demand.specs.declared.todo.Todo.{Todo}
use Rattle.bt_demand.specs.declared.todo.Todo.TheVariants.{Put, Wait, Settled}
use Rattle.bt_demand.specs.declared.demand.State.{State}
use Rattle.bt_demand.specs.declared.demand.State.TheVariants.{Untried as Fresh, Good, Bad}
use Rattle.bt_demand.specs.declared.demand.Stage.{Stage}
use Rattle.bt_demand.specs.declared.demand.Stage.TheVariants.{Untried as Idle, Waiting, Released}

abbrev pub StateMoves : State → State → Type 0
StateMoves Fresh y = Unit {0}
StateMoves Good y = y ≡ Good
StateMoves Bad y = y ≡ Bad

abbrev pub StageMoves : ℕ → ℕ → Stage → Stage → Type 0
StageMoves n m Idle Idle = Unit {0}
StageMoves n m Idle Waiting = Unit {0}
StageMoves n m Idle Released = ⊥
StageMoves n m Waiting Idle = ⊥
StageMoves n m Waiting Waiting = Unit {0}
StageMoves n m Waiting Released = n ≤ m
StageMoves n m Released Idle = ⊥
StageMoves n m Released Waiting = ⊥
StageMoves n m Released Released = Unit {0}

-- a tree some steps later, in which no hold below n was released
mutual
  pub data Moves (n : ℕ) : Tree → Tree → Type 0 where
    moves_leaf : (l k : ℕ) (b : List ℕ) (x y : State) (p : StateMoves x y) → Moves n (leaf l k b x) (leaf l k b y)
    moves_drop : Moves n drop drop
    moves_reject : (w : List ℕ) → Moves n (reject w) (reject w)
    moves_all : (ts us : Trees) (p : MovesAll n ts us) → Moves n (all ts) (all us)
    moves_first : (ts us : Trees) (p : MovesAll n ts us) → Moves n (first ts) (first us)
    moves_hold : (m : ℕ) (e : Bool) (z : ℕ) (c d : Tree) (g h : Stage) (p : Moves n c d) (q : StageMoves n m g h) → Moves n (hold m e z c g) (hold m e z d h)

  pub data MovesAll (n : ℕ) : Trees → Trees → Type 0 where
    moves_none : MovesAll n none none
    moves_more : (t u : Tree) (ts us : Trees) (p : Moves n t u) (q : MovesAll n ts us) → MovesAll n (more t ts) (more u us)

-- an asked hold below n waits
abbrev pub IsHeld : ℕ → ℕ → Stage → Type 0
IsHeld n m Idle = ⊥
IsHeld n m Waiting = m < n
IsHeld n m Released = ⊥

abbrev mutual
  -- an asked hold with a number below n waits
  pub Stuck : ℕ → Tree → Type 0
  Stuck n (leaf l k b x) = ⊥
  Stuck n drop = ⊥
  Stuck n (reject w) = ⊥
  Stuck n (all ts) = StuckAll n ts
  Stuck n (first ts) = StuckFirst n ts
  Stuck n (hold m e z c g) = IsHeld n m g

  pub StuckAll : ℕ → Trees → Type 0
  StuckAll n none = ⊥
  StuckAll n (more t ts) = Stuck n t ⊎ StuckAll n ts

  pub StuckFirst : ℕ → Trees → Type 0
  StuckFirst n none = ⊥
  StuckFirst n (more t ts) = Stuck n t ⊎ ((outcome t ≡ Lost) × StuckFirst n ts)

-- each hold that can still begin to wait has a number above n
abbrev pub IdleAbove : ℕ → ℕ → Stage → Type 0
IdleAbove n m Idle = n < m
IdleAbove n m Waiting = Unit {0}
IdleAbove n m Released = Unit {0}

abbrev mutual
  -- each hold that can still begin to wait while those from n on are released has a number above n
  pub Late : ℕ → Tree → Type 0
  Late n (leaf l k b x) = Unit {0}
  Late n drop = Unit {0}
  Late n (reject w) = Unit {0}
  Late n (all ts) = LateAll n ts
  Late n (first ts) = LateFirst n ts
  Late n (hold m e z c g) = IdleAbove n m g × Late n c

  pub LateAll : ℕ → Trees → Type 0
  LateAll n none = Unit {0}
  LateAll n (more t ts) = Late n t × LateAll n ts

  pub LateFirst : ℕ → Trees → Type 0
  LateFirst n none = Unit {0}
  LateFirst n (more t ts) = Late n t × ((outcome t ≡ Met) ⊎ (Stuck n t ⊎ LateFirst n ts))

-- nothing can begin
abbrev pub Still : Option Todo → Type 0
Still (Some (Put l k)) = ⊥
Still (Some (Wait m)) = ⊥
Still (Some (Settled b)) = Unit {0}
Still None = Unit {0}

-- all holds of a tree have numbers above n
abbrev mutual
  pub High : ℕ → Tree → Type 0
  High n (leaf l k b x) = Unit {0}
  High n drop = Unit {0}
  High n (reject w) = Unit {0}
  High n (all ts) = HighAll n ts
  High n (first ts) = HighAll n ts
  High n (hold m e z c g) = (n < m) × High n c

  pub HighAll : ℕ → Trees → Type 0
  HighAll n none = Unit {0}
  HighAll n (more t ts) = High n t × HighAll n ts

-- a tree has a hold
abbrev mutual
  pub Has : ℕ → Tree → Type 0
  Has m (leaf l k b x) = ⊥
  Has m drop = ⊥
  Has m (reject w) = ⊥
  Has m (all ts) = HasAny m ts
  Has m (first ts) = HasAny m ts
  Has m (hold j e z c g) = (m ≡ j) ⊎ Has m c

  pub HasAny : ℕ → Trees → Type 0
  HasAny m none = ⊥
  HasAny m (more t ts) = Has m t ⊎ HasAny m ts

-- of a list of which the next is tried where the one before is lost, later trees have later holds; holds do not nest
abbrev mutual
  pub InOrder : Tree → Type 0
  InOrder (leaf l k b x) = Unit {0}
  InOrder drop = Unit {0}
  InOrder (reject w) = Unit {0}
  InOrder (all ts) = InOrderAll ts
  InOrder (first ts) = InOrderFirst ts
  InOrder (hold j e z c g) = (m : ℕ) → Has m c → ⊥

  pub InOrderAll : Trees → Type 0
  InOrderAll none = Unit {0}
  InOrderAll (more t ts) = InOrder t × InOrderAll ts

  pub InOrderFirst : Trees → Type 0
  InOrderFirst none = Unit {0}
  InOrderFirst (more t ts) = InOrder t × ((m : ℕ) → Has m t → HighAll m ts) × InOrderFirst ts
