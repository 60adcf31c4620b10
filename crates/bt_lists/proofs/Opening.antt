-- What loops over lists of lists have gathered so far.
use Rattle.std.proofs.Common.{◌≡◌, List, [], ◌++◌, Result, Ok, Err, refl, sym, ap, append_assoc}
use Rattle.std.proofs.lemmas.List.{append-nil}
use Rattle.std.specs.List.{flat_map}
use Rattle.bt_value.specs.declared.val.Val.{Val}
use Rattle.bt_lists.specs.Lists.{after_all}
use Rattle.bt_kinds.specs.Targets.{both}
use Rattle.bt_kinds.specs.declared.kinds.Kind.{Kind}

pub opened_nothing : (got : List Val) → after_all got (Ok []) ≡ Ok got
opened_nothing got = ap Ok (append-nil got)

pub opened_one : (got xs : List Val) (r : Result (List (List Val)) Kind) → after_all got (both (Ok xs) r) ≡ after_all (got ++ xs) r
opened_one got xs (Ok yss) = ap Ok (sym (append_assoc got xs (flat_map (λ ys. ys) yss)))
opened_one got xs (Err kd) = refl
