-- What is found turned into lints, one after another.
use Rattle.std.proofs.Common.{◌≡◌, List, [], ◌∷◌, ◌++◌, map, refl, sym, ap, ◌∙◌, subst, append_assoc, append-nil, length, arith}
use Rattle.bt_schema.specs.declared.lints.Lint.{Lint}
use Rattle.bt_walk.specs.Found.{Located, located, fact_of}
use Rattle.bt_walk.specs.declared.findings.Finding.{Finding}
use Rattle.bt_config.specs.Violations.{AreLints, AreLintsOf}

-- what comes behind these lints makes them all
abbrev pub Ends : List Located → List Finding → List Lint → Type 0
Ends all left lints = (rest : List Lint) → AreLints (map located left) rest → AreLints all (lints ++ rest)

pub one_more : (all : List Located) (left left' : List Finding) (f : Finding) (lints lints' own : List Lint) → left ≡ f ∷ left' →
    AreLintsOf f.pointer (fact_of f.found) own → lints' ≡ lints ++ own → Ends all left lints → Ends all left' lints'
one_more all left left' f lints lints' own is of new before = λ rest h.
    subst (AreLints all) (sym (ap (λ x. x ++ rest) new ∙ append_assoc lints own rest))
    (before (own ++ rest) (subst (λ (xs : List Finding). AreLints (map located xs) (own ++ rest)) (sym is) (own, rest, of, h, refl)))

-- nothing is left
pub ended : (all : List Located) (left : List Finding) (lints : List Lint) → length left ≡ 0 → Ends all left lints → AreLints all lints
ended all [] lints none before = subst (AreLints all) (append-nil lints) (before [] refl)
ended all (f ∷ left) lints none before = absurd (omega arith)
