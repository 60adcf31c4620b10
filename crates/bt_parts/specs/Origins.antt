-- The origins of messages, where there are so many items.
use Rattle.std.specs.Prelude.{ℕ, ◌<◌, List, length}
use Rattle.std.specs.List.{AllByRecursion}
use Rattle.std.specs.List.Sorted.{IsStrictlyIncreasing}
use Rattle.bt_batches.specs.declared.piece.Piece.{Piece}

-- there is one at least, they rise, and each is the number of an item
pub record Stands (items : ℕ) (from : List ℕ) : Type 0 where
  pub some : 0 < length from
  pub rising : IsStrictlyIncreasing from
  pub known : AllByRecursion (λ i. i < items) from

abbrev pub AllStand : ℕ → List Piece → Type 0
AllStand items ps = AllByRecursion (λ p. Stands items p.from) ps

abbrev pub BatchesStand : ℕ → List (List Piece) → Type 0
BatchesStand items bs = AllByRecursion (AllStand items) bs
