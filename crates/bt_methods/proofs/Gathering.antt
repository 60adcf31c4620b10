-- What a loop over outcomes has gathered so far.
use Rattle.std.proofs.Common.{◌≡◌, ℕ, List, [], ◌∷◌, ◌++◌, Bool, true, false, Option, Some, None, option_map, refl, sym, ap, append_assoc}
use Rattle.bt_value.specs.declared.val.Val.{Val}
use Rattle.bt_methods.specs.Outcomes.{gather}
use Rattle.bt_methods.specs.declared.outcomes.Combined.{Combined}

-- values that stand before others, as long as all were values
abbrev pub before : Bool → List Val → Option (List Val) → Option (List Val)
before true got (Some xs) = Some (got ++ xs)
before true got None = None
before false got xs = None

abbrev pub after : Bool → List Val → Option (List ℕ) → Option (List Val) → Combined
after all got failure xs = gather failure (before all got xs)

pub after_start : (f : Option (List ℕ)) (xs : Option (List Val)) → after true [] f xs ≡ gather f xs
after_start f (Some xs) = refl
after_start f None = refl

pub after_value : (all : Bool) (got : List Val) (x : Val) (f : Option (List ℕ)) (xs : Option (List Val))
    → after all got f (option_map (λ ys. x ∷ ys) xs) ≡ after all (got ++ x ∷ []) f xs
after_value true got x f (Some xs) = ap (λ ys. gather f (Some ys)) (sym (append_assoc got (x ∷ []) xs))
after_value true got x f None = refl
after_value false got x f xs = refl

pub after_other : (all : Bool) (got : List Val) (f : Option (List ℕ)) (xs : Option (List Val)) → after all got f None ≡ after false got f xs
after_other true got f xs = refl
after_other false got f xs = refl
