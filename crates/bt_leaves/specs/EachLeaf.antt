-- What is said of each leaf of a demand, whether it is asked or not.
use Rattle.std.specs.Prelude.{ℕ}
use Rattle.bt_demand.specs.Tree.{Tree, Trees, leaf, drop, reject, all, first, hold, none, more}
use Rattle.bt_demand.specs.declared.demand.State.{State}

abbrev mutual
  -- something of the sink, the number and the state of each leaf
  pub EachLeaf : (ℕ → ℕ → State → Type 0) → Tree → Type 0
  EachLeaf P (leaf l k b x) = P k l x
  EachLeaf P drop = Unit {0}
  EachLeaf P (reject w) = Unit {0}
  EachLeaf P (all ts) = EachLeafIn P ts
  EachLeaf P (first ts) = EachLeafIn P ts
  EachLeaf P (hold m e z c g) = EachLeaf P c

  pub EachLeafIn : (ℕ → ℕ → State → Type 0) → Trees → Type 0
  EachLeafIn P none = Unit {0}
  EachLeafIn P (more t ts) = EachLeaf P t × EachLeafIn P ts
