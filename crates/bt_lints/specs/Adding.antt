-- What the steps of the search for lints add. Only its proofs use these words.
use Rattle.std.specs.Prelude.{◌↔◌, ◌⊎◌, List}
use Rattle.std.specs.List.{Contains}
use Rattle.bt_lints.specs.declared.lint.MapLint.{MapLint}

-- a list has what it had and what has the property, and no more
pub record Adds (P : MapLint → Type 0) (old new : List MapLint) : Type 0 where
  pub has : (x : MapLint) → Contains new x ↔ (Contains old x ⊎ P x)
