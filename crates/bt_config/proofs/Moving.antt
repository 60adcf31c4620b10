-- Moved members have the keys of the members.
use Rattle.std.proofs.Common.{◌≡◌, ◌<◌, ◌+◌, ℕ, List, [], ◌∷◌, ◌++◌, length, take, get_or, refl, sym, ap, subst}
use Rattle.std.specs.Cmp.Lexicographic.{slice_cmp}
use Rattle.std.specs.List.Sorted.{IsStrictlySortedBy}
use Rattle.std.specs.Map.{keys_of}
use Rattle.std.specs.Ordering.{nat_cmp}
use Rattle.bt_value.specs.Keys.{Rising}
use Rattle.bt_value.specs.declared.val.Val.{Val}
use Rattle.bt_value.proofs.Rise.{Rising-take, take-next}
use Rattle.bt_schema.specs.declared.places.Place.{Place}
use Rattle.bt_config.specs.Migrated as spec
use Rattle.std.specs.Prelude.{Bool}

-- the keys of the moved members and one more
keys : (codecs : Bool) (s : Place) (es : List (List ℕ × Val)) (k : List ℕ) (v w : Val) →
    keys_of (spec.moved_members codecs s (spec.with_moves es) ++ (k, w) ∷ []) ≡ keys_of (es ++ (k, v) ∷ [])
keys codecs s [] k v w = refl
keys codecs s (e ∷ es) k v w = ap (λ ks. e.0 ∷ ks) (keys codecs s es k v w)

pub Rising-next : (codecs : Bool) (s : Place) (es : List (List ℕ × Val)) (i : ℕ) (d : List ℕ × Val) (w : Val) → Rising es → i < length es →
    Rising (spec.moved_members codecs s (spec.with_moves (take i es)) ++ ((get_or es i d).0, w) ∷ [])
Rising-next codecs s es i d w r h =
    let next : Rising (take i es ++ get_or es i d ∷ []) = subst Rising (take-next es i d h) (Rising-take es (i + 1) r) in
    subst (IsStrictlySortedBy (slice_cmp nat_cmp)) (sym (keys codecs s (take i es) (get_or es i d).0 (get_or es i d).1 w)) next
