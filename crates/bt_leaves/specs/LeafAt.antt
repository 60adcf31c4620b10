-- Where a leaf stands in a demand.
use Rattle.std.specs.Prelude.{◌≡◌, ℕ, ◌⊎◌, List, Option, Some}
use Rattle.bt_demand.specs.Tree.{Tree, Trees, leaf, drop, reject, all, first, hold, none, more}

abbrev mutual
  -- Leaf l stands in a demand with sink k and bytes b, below hold `over`, or below none where that is None. `above` is the
  -- hold over the demand itself, if there is one.
  pub LeafAt : (above : Option ℕ) (l k : ℕ) (b : List ℕ) (over : Option ℕ) → Tree → Type 0
  LeafAt above l k b over (leaf m j c x) = (m ≡ l) × ((j ≡ k) × ((c ≡ b) × (above ≡ over)))
  LeafAt above l k b over drop = ⊥
  LeafAt above l k b over (reject w) = ⊥
  LeafAt above l k b over (all ts) = LeafIn above l k b over ts
  LeafAt above l k b over (first ts) = LeafIn above l k b over ts
  LeafAt above l k b over (hold m e z c g) = LeafAt (Some m) l k b over c

  pub LeafIn : (above : Option ℕ) (l k : ℕ) (b : List ℕ) (over : Option ℕ) → Trees → Type 0
  LeafIn above l k b over none = ⊥
  LeafIn above l k b over (more t ts) = LeafAt above l k b over t ⊎ LeafIn above l k b over ts
