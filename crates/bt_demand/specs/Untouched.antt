-- What isn't asked is untouched: nothing was tried below a hold that wasn't released, nor after a child of a First that
-- isn't lost.
use Rattle.std.specs.Prelude.{◌≡◌, false, ◌⊎◌}
use Rattle.bt_demand.specs.Find.{begun, some_begun}
use Rattle.bt_demand.specs.Outcomes.{outcome}
use Rattle.bt_demand.specs.Tree.{Tree, Trees, leaf, drop, reject, all, first, hold, none, more}
use Rattle.bt_demand.specs.declared.demand.Stage.TheVariants.{Released}
use Rattle.bt_demand.specs.declared.outcome.Outcome.TheVariants.{Lost}

abbrev mutual
  pub Untouched : Tree → Type 0
  Untouched (leaf n k b s) = Unit {0}
  Untouched drop = Unit {0}
  Untouched (reject w) = Unit {0}
  Untouched (all ts) = UntouchedIn ts
  Untouched (first ts) = UntouchedAfter ts
  Untouched (hold n e z c g) = Untouched c × ((g ≡ Released) ⊎ (begun c ≡ false))

  pub UntouchedIn : Trees → Type 0
  UntouchedIn none = Unit {0}
  UntouchedIn (more t ts) = Untouched t × UntouchedIn ts

  pub UntouchedAfter : Trees → Type 0
  UntouchedAfter none = Unit {0}
  UntouchedAfter (more t ts) = Untouched t × (UntouchedAfter ts × ((outcome t ≡ Lost) ⊎ (some_begun ts ≡ false)))
