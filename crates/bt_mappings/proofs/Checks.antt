-- Whether a check passes, by what it says.
use Rattle.std.proofs.Common.{◌≡◌, ℕ, Bool, true, false, List, refl, Ok, Err}
use Rattle.bt_value.specs.declared.message.Out.{Out}
use Rattle.bt_value.specs.declared.message.Out.TheVariants.{Value, Failed, Deleted, Nothing}
use Rattle.bt_meaning.specs.Outcomes.{passes}
use Rattle.bt_mappings.specs.Checked.{answer}

pub passes_as : (o : Out) (b : Bool) → Ok b ≡ answer o → b ≡ passes o
passes_as (Failed t) b e = cc
passes_as (Value x) b e = cc
passes_as Deleted b e = cc
passes_as Nothing b e = cc

pub fails_as : (o : Out) (t : List ℕ) → Err t ≡ answer o → false ≡ passes o
fails_as (Failed t) u e = refl
fails_as (Value x) u e = cc
fails_as Deleted u e = cc
fails_as Nothing u e = cc
