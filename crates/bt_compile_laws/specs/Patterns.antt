-- Lints that come of refused patterns alone.
use Rattle.std.specs.Prelude.{◌≡◌, ℕ, List, Some, slice_range, true}
use Rattle.std.specs.List.{Contains}
use Rattle.bt_value.specs.declared.val.Val.{Val}
use Rattle.bt_schema.specs.declared.forms.Language.{Language}
use Rattle.bt_schema.specs.declared.forms.Language.TheVariants as language
use Rattle.bt_schema.specs.declared.lints.Lint.{Lint}
use Rattle.bt_pieces.specs.Pieces.{IsCut}
use Rattle.bt_pieces.specs.declared.cut.Span.{Span}
use Rattle.bt_syntax.specs.Grammar.{ReadsCheck, ReadsMapping}
use Rattle.bt_making.specs.Made.{HasBadPattern, lint}
use Rattle.bt_making.specs.Sources.{Source}
use Rattle.bt_compile.specs.Compiled.{named, outline}

-- a query of an interpolated text is read, and a pattern of it is refused, in words. Its places count from its own beginning
abbrev pub HasBadQuery : List ℕ → List ℕ → Type 0
HasBadQuery text words =
    (spans : List Span) × (span : Span) × IsCut text spans × Contains spans span × (span.query ≡ true)
    × HasBadPattern ReadsCheck (slice_range text span.from span.to) words

-- a text is read, and a pattern of it is refused, in words
abbrev pub IsOfPattern : Language → List ℕ → List ℕ → Type 0
IsOfPattern language.Mapping text words = HasBadPattern ReadsMapping text words
IsOfPattern language.Check text words = HasBadPattern ReadsCheck text words
IsOfPattern language.Interpolated text words = HasBadQuery text words

-- the lint of a pattern of one of these texts
abbrev pub IsPatternLint : List Source → Lint → Type 0
IsPatternLint ss l = (s : Source) × (words : List ℕ) × Contains ss s × IsOfPattern s.language s.text words × (l ≡ lint s.pointer words)

-- the same of the processors that a configuration has at a pointer
abbrev pub IsPatternLintAt : Val → List ℕ → Lint → Type 0
IsPatternLintAt config pointer l = (vs : List Val) × (named config pointer ≡ Some vs) × IsPatternLint ((outline vs).texts pointer) l
