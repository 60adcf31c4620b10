-- The bytes of a demand's records, put in last.
use Rattle.std.specs.Prelude.{ℕ, List}
use Rattle.bt_demand.specs.Tree.{Tree, Trees, leaf, drop, reject, all, first, hold, none, more}

abbrev mutual
  -- the same demand, of which each record has these bytes
  pub with_bytes : List ℕ → Tree → Tree
  with_bytes b (leaf n k c s) = leaf n k b s
  with_bytes b drop = drop
  with_bytes b (reject w) = reject w
  with_bytes b (all ts) = all (each_with_bytes b ts)
  with_bytes b (first ts) = first (each_with_bytes b ts)
  with_bytes b (hold n e z t g) = hold n e z (with_bytes b t) g

  pub each_with_bytes : List ℕ → Trees → Trees
  each_with_bytes b none = none
  each_with_bytes b (more t ts) = more (with_bytes b t) (each_with_bytes b ts)
