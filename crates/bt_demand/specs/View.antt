-- The plain tree of a demand of the program.
use Rattle.std.specs.Prelude.{List, [], ◌∷◌}
use Rattle.bt_demand.specs.Tree.{Tree, Trees, leaf, drop, reject, all, first, hold, none, more}
use Rattle.bt_demand.specs.declared.demand.Demand.{Demand, Leaf, Drop, Reject, All', First', Hold', Row_of-Demand, end_of-Demand, more_of-Demand}

abbrev mutual
  -- the same tree with no boxes and no capacities
  pub tree : Demand → Tree
  tree (Leaf n k b s) = leaf n k b s
  tree Drop = drop
  tree (Reject w) = reject w
  tree (All' shape row) = all (trees_of_row row)
  tree (First' shape row) = first (trees_of_row row)
  tree (Hold' n e z p c g) = hold n e z (tree c) g

  -- the trees of a list of demands as a demand has it
  pub trees_of_row : {m : _} → Row_of-Demand m → Trees
  trees_of_row end_of-Demand = none
  trees_of_row (more_of-Demand d rest) = more (tree d) (trees_of_row rest)

-- the trees of a list of demands
abbrev pub trees : List Demand → Trees
trees [] = none
trees (d ∷ ds) = more (tree d) (trees ds)
