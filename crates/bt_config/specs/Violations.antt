-- The violations of a configuration: all lints, in order of the walk.
use Rattle.std.specs.Prelude.{◌≡◌, ℕ, List, [], ◌∷◌, ◌++◌, map}
use Rattle.bt_schema.specs.declared.lints.Lint.{Lint}
use Rattle.bt_schema.specs.declared.lints.LintKind.{LintKind}
use Rattle.bt_text_lints.specs.Verdicts.{IsVerdict, kinds_of}
use Rattle.bt_text_lints.specs.declared.verdict.Verdict.{Verdict}
use Rattle.bt_value.specs.declared.val.Val.{Val}
use Rattle.bt_walk.specs.Found.{Fact, Located, wrong, text}
use Rattle.bt_walk.specs.Walk.{findings}

abbrev pub lint_at : List ℕ → LintKind → Lint
lint_at at kind = record { pointer = at; kind = kind }

-- What is found at a pointer, as lints: something wrong is one lint, and a text has those that the language of mappings says.
abbrev pub AreLintsOf : List ℕ → Fact → List Lint → Type 0
AreLintsOf at (wrong kind) ls = ls ≡ lint_at at kind ∷ []
AreLintsOf at (text language t) ls = (v : Verdict) × IsVerdict language t v × (ls ≡ map (lint_at at) (kinds_of v))

-- the same of all that is found, one after another
abbrev pub AreLints : List Located → List Lint → Type 0
AreLints [] ls = ls ≡ []
AreLints (f ∷ fs) ls = (own : List Lint) × (rest : List Lint) × AreLintsOf f.pointer f.fact own × AreLints fs rest × (ls ≡ own ++ rest)

-- These are the lints of the configuration: what is found in it, as lints.
abbrev pub AreViolations : Val → List Lint → Type 0
AreViolations config ls = AreLints (findings config) ls
