-- What loops over a list have gathered so far.
use Rattle.std.proofs.Common.{◌≡◌, List, [], ◌∷◌, ◌++◌, Result, Ok, Err, refl, sym, ap, append_assoc}
use Rattle.bt_kinds.specs.Targets.{both}
use Rattle.bt_kinds.specs.declared.kinds.Kind.{Kind}

abbrev pub after : {A : Type 0} → List A → Result (List A) Kind → Result (List A) Kind
after got (Ok xs) = Ok (got ++ xs)
after got (Err t) = Err t

pub after_nothing : {A : Type 0} (r : Result (List A) Kind) → after [] r ≡ r
after_nothing (Ok xs) = refl
after_nothing (Err t) = refl

pub after_one : {A : Type 0} (got : List A) (x : A) (r : Result (List A) Kind) → after got (both (Ok x) r) ≡ after (got ++ x ∷ []) r
after_one got x (Ok xs) = ap Ok (sym (append_assoc got (x ∷ []) xs))
after_one got x (Err t) = refl
