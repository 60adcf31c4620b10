-- The steps of the reading of an interpolated text. Only they use these words.
use Rattle.std.specs.Prelude.{◌≤◌, ℕ, List, [], ◌∷◌}
use Rattle.std.specs.Str.{IsCharBoundary}
use Rattle.bt_pieces.specs.declared.cut.Span.{Span}

-- a span lies between two places where characters begin
pub record IsWhole (s : List ℕ) (span : Span) : Type 0 where
  pub order : span.from ≤ span.to
  pub from : IsCharBoundary s span.from
  pub to : IsCharBoundary s span.to

-- each of the spans does
abbrev pub AreWhole : List ℕ → List Span → Type 0
AreWhole s [] = Unit {0}
AreWhole s (x ∷ xs) = IsWhole s x × AreWhole s xs
