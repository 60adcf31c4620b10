-- Texts that stand at places of a configuration, and what they are made ready as.
use Rattle.std.specs.Prelude.{◌⊎◌, ◌≡◌, ℕ, List, [], ◌∷◌}
use Rattle.bt_mappings.specs.declared.interpolation.Bit.{Bit}
use Rattle.bt_ready.specs.declared.ready.Ready.{Ready}
use Rattle.bt_schema.specs.declared.forms.Language.{Language}
use Rattle.bt_schema.specs.declared.forms.Language.TheVariants as language
use Rattle.bt_schema.specs.declared.lints.Lint.{Lint}
use Rattle.bt_syntax.specs.Grammar.{ReadsCheck, ReadsMapping}
use Rattle.bt_making.specs.Made.{IsInterpolation, IsReady, IsUnready, IsUnreadyText, lint}
use Rattle.bt_making.specs.declared.refusal.Refusal.{Refusal}
use Rattle.bt_making.specs.declared.refusal.Refusal.TheVariants as refusal

-- a text in a language, and the pointer of its place
pub record Source : Type 0 where
  pub pointer : List ℕ
  pub language : Language
  pub text : List ℕ

abbrev pub source : Language → List ℕ → List ℕ → Source
source how text at = record { pointer = at; language = how; text = text }

-- a text that is made ready: a mapping, which may be a query alone, or the pieces of an interpolated text
pub data Part : Type 0 where
  mapping : Ready → Part
  pieces : List Bit → Part

-- the text is made ready as this
abbrev pub IsMade : Language → List ℕ → Part → Type 0
IsMade language.Mapping text (mapping r) = IsReady ReadsMapping text r
IsMade language.Check text (mapping r) = IsReady ReadsCheck text r
IsMade language.Interpolated text (pieces bits) = IsInterpolation text bits
IsMade _ text _ = ⊥

-- the texts are made ready as these, each for each
abbrev pub AreMade : List Source → List Part → Type 0
AreMade [] [] = Unit {0}
AreMade (s ∷ ss) (p ∷ ps) = IsMade s.language s.text p × AreMade ss ps
AreMade _ _ = ⊥

-- why a text isn't made ready, in words
abbrev pub IsUnmade : Language → List ℕ → List ℕ → Type 0
IsUnmade language.Mapping text words = IsUnready ReadsMapping text words
IsUnmade language.Check text words = IsUnready ReadsCheck text words
IsUnmade language.Interpolated text words = IsUnreadyText text words

-- the one lint of a text that isn't made ready
abbrev pub IsLintOf : Source → Lint → Type 0
IsLintOf s l = (words : List ℕ) × IsUnmade s.language s.text words × (l ≡ lint s.pointer words)

-- the lint of the first of the texts that isn't made ready
abbrev pub IsFirstLint : List Source → Lint → Type 0
IsFirstLint [] l = ⊥
IsFirstLint (s ∷ ss) l = IsLintOf s l ⊎ ((p : Part) × IsMade s.language s.text p × IsFirstLint ss l)

-- why the texts aren't made ready: the first that isn't, or want of memory, which may come at any time
abbrev pub AreRefused : List Source → Refusal → Type 0
AreRefused ss (refusal.Lint l) = IsFirstLint ss l
AreRefused ss refusal.NoMemory = Unit {0}
