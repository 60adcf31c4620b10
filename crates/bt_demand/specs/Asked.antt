-- Which leaves of a demand are asked, what it owes where nothing fails, and when it reaches no reject.
use Rattle.std.specs.Prelude.{ℕ, List, [], ◌∷◌, ◌++◌, if◌then◌else◌}
use Rattle.bt_demand.specs.Outcomes.{lost}
use Rattle.bt_demand.specs.Tree.{Tree, Trees, leaf, drop, reject, all, first, hold, none, more}

abbrev mutual
  -- The numbers of the asked leaves of an asked tree, as they stand. Every child of an All and of a hold is asked. A
  -- child of a First is asked where all before it are lost.
  pub asked : Tree → List ℕ
  asked (leaf n k b s) = n ∷ []
  asked drop = []
  asked (reject w) = []
  asked (all ts) = asked_in ts
  asked (first ts) = asked_after_lost ts
  asked (hold n e z c g) = asked c

  pub asked_in : Trees → List ℕ
  asked_in none = []
  asked_in (more t ts) = asked t ++ asked_in ts

  pub asked_after_lost : Trees → List ℕ
  asked_after_lost none = []
  asked_after_lost (more t ts) = asked t ++ (if lost t then asked_after_lost ts else [])

-- a record that a leaf owes to its sink
pub record Owed : Type 0 where
  pub sink : ℕ
  pub leaf : ℕ
  pub bytes : List ℕ

abbrev mutual
  -- the records of a demand where no sink refuses any: of a First those of its first child alone
  pub owed : Tree → List Owed
  owed (leaf n k b s) = record { sink = k; leaf = n; bytes = b } ∷ []
  owed drop = []
  owed (reject w) = []
  owed (all ts) = owed_in ts
  owed (first ts) = owed_of_head ts
  owed (hold n e z c g) = owed c

  pub owed_in : Trees → List Owed
  owed_in none = []
  owed_in (more t ts) = owed t ++ owed_in ts

  pub owed_of_head : Trees → List Owed
  owed_of_head none = []
  owed_of_head (more t ts) = owed t

abbrev mutual
  -- no reject stands where a demand leads while no sink refuses anything
  pub IsClean : Tree → Type 0
  IsClean (leaf n k b s) = Unit {0}
  IsClean drop = Unit {0}
  IsClean (reject w) = ⊥
  IsClean (all ts) = AreClean ts
  IsClean (first ts) = HeadIsClean ts
  IsClean (hold n e z c g) = IsClean c

  pub AreClean : Trees → Type 0
  AreClean none = Unit {0}
  AreClean (more t ts) = IsClean t × AreClean ts

  pub HeadIsClean : Trees → Type 0
  HeadIsClean none = ⊥
  HeadIsClean (more t ts) = IsClean t
