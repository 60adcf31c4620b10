-- The steps of the reading of an interpolated text. Only they use these words.
use Rattle.std.specs.Prelude.{◌≤◌, ℕ, List, ◌++◌}
use Rattle.std.specs.Str.{IsCharBoundary}
use Rattle.bt_pieces.specs.declared.cut.Span.{Span}
use Rattle.bt_text_lints.specs.Verdicts.{AreJudged}
use Rattle.bt_text_lints.specs.declared.verdict.Verdict.{Verdict}

-- a span lies between two places where characters begin
pub record IsWhole (s : List ℕ) (span : Span) : Type 0 where
  pub order : span.from ≤ span.to
  pub from : IsCharBoundary s span.from
  pub to : IsCharBoundary s span.to

-- what is wrong with these queries comes behind what was found before
abbrev pub AddsQueries : List (List ℕ) → Verdict → Verdict → Type 0
AddsQueries qs old new = (before : List (List ℕ)) → AreJudged before old → AreJudged (before ++ qs) new
