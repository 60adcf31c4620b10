-- What is said of each hold that was released, whether it is asked or not.
use Rattle.std.specs.Prelude.{◌≡◌, ◌≢◌, ℕ, false}
use Rattle.bt_demand.specs.Holding.{is_open}
use Rattle.bt_demand.specs.Outcomes.{outcome}
use Rattle.bt_demand.specs.Tree.{Tree, Trees, leaf, drop, reject, all, first, hold, none, more}
use Rattle.bt_demand.specs.declared.demand.Stage.TheVariants.{Released}

abbrev mutual
  -- the child of each released hold of these numbers is met or lost
  pub SettledOf : (ℕ → Type 0) → Tree → Type 0
  SettledOf Q (leaf l k b x) = Unit {0}
  SettledOf Q drop = Unit {0}
  SettledOf Q (reject w) = Unit {0}
  SettledOf Q (all ts) = SettledOfEach Q ts
  SettledOf Q (first ts) = SettledOfEach Q ts
  SettledOf Q (hold m e z c g) = (g ≡ Released → Q m → is_open (outcome c) ≡ false) × SettledOf Q c

  pub SettledOfEach : (ℕ → Type 0) → Trees → Type 0
  SettledOfEach Q none = Unit {0}
  SettledOfEach Q (more t ts) = SettledOf Q t × SettledOfEach Q ts

-- the child of each released hold is met or lost
abbrev pub ReleasedSettled : Tree → Type 0
ReleasedSettled t = SettledOf (λ m. Unit {0}) t

-- the child of each released hold but those of number n is
abbrev pub ReleasedSettledBut : ℕ → Tree → Type 0
ReleasedSettledBut n t = SettledOf (λ m. m ≢ n) t
