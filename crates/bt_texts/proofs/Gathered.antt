-- What loops over a list have gathered so far.
use Rattle.std.proofs.Common.{◌≡◌, List, [], ◌∷◌, ◌++◌, Option, Some, None, refl, sym, ap, append_assoc}
use Rattle.bt_value.specs.declared.val.Val.{Val}
use Rattle.bt_texts.specs.Conversions.{one_more}

abbrev pub after_some : List Val → Option (List Val) → Option (List Val)
after_some got (Some xs) = Some (got ++ xs)
after_some got None = None

pub some_nothing : (r : Option (List Val)) → after_some [] r ≡ r
some_nothing (Some xs) = refl
some_nothing None = refl

pub some_one : (got : List Val) (x : Val) (r : Option (List Val)) → after_some got (one_more (Some x) r) ≡ after_some (got ++ x ∷ []) r
some_one got x (Some xs) = ap Some (sym (append_assoc got (x ∷ []) xs))
some_one got x None = refl
