-- How many holds a tree has.
use Rattle.std.specs.Prelude.{ℕ, ◌+◌}
use Rattle.bt_demand.specs.Tree.{Tree, Trees, leaf, drop, reject, all, first, hold, none, more}

abbrev mutual
  -- each hold once, whatever its stage
  pub holds : Tree → ℕ
  holds (leaf n k b s) = 0
  holds drop = 0
  holds (reject w) = 0
  holds (all ts) = holds_in ts
  holds (first ts) = holds_in ts
  holds (hold n e z c g) = holds c + 1

  pub holds_in : Trees → ℕ
  holds_in none = 0
  holds_in (more t ts) = holds t + holds_in ts
