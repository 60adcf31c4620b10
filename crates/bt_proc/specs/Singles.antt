-- Messages as batches of their own: `try`, `for_each` and `catch` by one function.
use Rattle.std.specs.Prelude.{ℕ, List, [], ◌∷◌}
use Rattle.bt_batches.specs.declared.piece.Piece.{Piece}
use Rattle.bt_proc.specs.Procs.{Effect, alone, tried, caught}
use Rattle.bt_proc.specs.declared.steps.Single.{Single}
use Rattle.bt_proc.specs.declared.steps.Single.TheVariants.{Try, ForEach, Catch}

-- one message through the processors of a `try`
abbrev pub tried_one : List Effect → ℕ → Piece → List Piece
tried_one fs moment p = tried fs moment (p ∷ [])

abbrev pub gives : Single → List Effect → ℕ → Piece → List Piece
gives Try fs moment p = tried_one fs moment p
gives ForEach fs moment p = alone fs moment p
gives Catch fs moment p = caught fs moment p
