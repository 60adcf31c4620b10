-- Demands as plain trees: what a message asks for, with how far each leaf and each hold came.
use Rattle.std.specs.Prelude.{ℕ, Bool, List}
use Rattle.bt_demand.specs.declared.demand.Stage.{Stage}
use Rattle.bt_demand.specs.declared.demand.State.{State}

mutual
  pub data Tree : Type 0 where
    leaf : (number : ℕ) (sink : ℕ) (bytes : List ℕ) (state : State) → Tree
    drop : Tree
    reject : (why : List ℕ) → Tree
    all : (children : Trees) → Tree
    first : (children : Trees) → Tree
    hold : (node : ℕ) (ends : Bool) (size : ℕ) (child : Tree) (stage : Stage) → Tree

  pub data Trees : Type 0 where
    none : Trees
    more : (head : Tree) (rest : Trees) → Trees
