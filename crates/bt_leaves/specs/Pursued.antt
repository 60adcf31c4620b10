-- What is asked of a demand has begun, as far as the holds that wait let it.
use Rattle.std.specs.Prelude.{◌≡◌, true}
use Rattle.bt_demand.specs.Find.{tried, reached}
use Rattle.bt_demand.specs.Outcomes.{outcome}
use Rattle.bt_demand.specs.Tree.{Tree, Trees, leaf, drop, reject, all, first, hold, none, more}
use Rattle.bt_demand.specs.declared.demand.Stage.TheVariants.{Released}
use Rattle.bt_demand.specs.declared.outcome.Outcome.TheVariants.{Lost}

abbrev mutual
  -- Each asked hold waits or was released, and each asked leaf that isn't below a hold that waits was tried. Every child of
  -- an All is asked, and a child of a First where all before it are lost.
  pub Pursued : Tree → Type 0
  Pursued (leaf n k b x) = tried x ≡ true
  Pursued drop = Unit {0}
  Pursued (reject w) = Unit {0}
  Pursued (all ts) = PursuedAll ts
  Pursued (first ts) = PursuedFirst ts
  Pursued (hold m e z c g) = (reached g ≡ true) × (g ≡ Released → Pursued c)

  pub PursuedAll : Trees → Type 0
  PursuedAll none = Unit {0}
  PursuedAll (more t ts) = Pursued t × PursuedAll ts

  pub PursuedFirst : Trees → Type 0
  PursuedFirst none = Unit {0}
  PursuedFirst (more t ts) = Pursued t × (outcome t ≡ Lost → PursuedFirst ts)
