-- What is found where a configuration has no lint: nothing wrong, and texts that are read.
use Rattle.std.proofs.Common.{◌≡◌, ℕ, List, [], ◌∷◌, ◌++◌, Bool, true, false, map, refl, sym, ◌∙◌}
use Rattle.std.specs.Prelude.{not}
use Rattle.bt_schema.specs.declared.lints.Lint.{Lint}
use Rattle.bt_schema.specs.declared.lints.LintKind.{LintKind}
use Rattle.bt_text_lints.specs.Verdicts.{kinds_of}
use Rattle.bt_walk.specs.Found as found
use Rattle.bt_walk.specs.Found.{Fact, Located, at_pointer, when}
use Rattle.bt_config.specs.Violations.{AreLints, AreLintsOf, lint_at}
use Rattle.bt_compile_laws.proofs.Known.{IsRead, verdict_read}

abbrev pub IsFine : Fact → Type 0
IsFine (found.wrong k) = ⊥
IsFine (found.text how t) = IsRead how t

abbrev pub AllFine : List Located → Type 0
AllFine [] = Unit {0}
AllFine (f ∷ fs) = IsFine f.fact × AllFine fs

pub fine_before : (a b : List Located) → AllFine (a ++ b) → AllFine a
fine_before [] b h = tt
fine_before (f ∷ a) b h = (h.0, fine_before a b h.1)

pub fine_behind : (a b : List Located) → AllFine (a ++ b) → AllFine b
fine_behind [] b h = h
fine_behind (f ∷ a) b h = fine_behind a b h.1

none_there : (l : Lint) (ls : List Lint) → l ∷ ls ≡ [] → ⊥
none_there l ls h = cc

none_before : (a b : List Lint) → a ++ b ≡ [] → a ≡ []
none_before [] b h = refl
none_before (l ∷ a) b h = absurd (none_there l (a ++ b) h)

none_behind : (a b : List Lint) → a ++ b ≡ [] → b ≡ []
none_behind [] b h = h
none_behind (l ∷ a) b h = absurd (none_there l (a ++ b) h)

no_kinds : (at : List ℕ) (ks : List LintKind) → map (lint_at at) ks ≡ [] → ks ≡ []
no_kinds at [] h = refl
no_kinds at (k ∷ ks) h = absurd (none_there (lint_at at k) (map (lint_at at) ks) h)

fine_one : (at : List ℕ) (f : Fact) (ls : List Lint) → AreLintsOf at f ls → ls ≡ [] → IsFine f
fine_one at (found.wrong k) ls h e = none_there (lint_at at k) [] (sym h ∙ e)
fine_one at (found.text how t) ls h e = verdict_read how t h.0 h.1 (no_kinds at (kinds_of h.0) (sym h.2 ∙ e))

pub fine : (fs : List Located) (ls : List Lint) → AreLints fs ls → ls ≡ [] → AllFine fs
fine [] ls h e = tt
fine (f ∷ fs) ls h e =
    let none : h.0 ++ h.1 ≡ [] = sym h.4 ∙ e in
    (fine_one f.pointer f.fact h.0 h.2 (none_before h.0 h.1 none), fine fs h.1 h.3 (none_behind h.0 h.1 none))

-- what a test finds wrong isn't so
pub not_so : (at : List ℕ) (b : Bool) (k : LintKind) (more : List Fact) (rest : List Located) → AllFine (at_pointer at (when (not b) k ++ more) ++ rest) → b ≡ true
not_so at true k more rest h = refl
not_so at false k more rest h = absurd h.0
