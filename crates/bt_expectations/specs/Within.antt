-- Whether what is expected is within a value: an object has every expected member, with the value of it within; a list has at least as
-- many elements as expected, each with the expected one at its place within; any other value is equal.
use Rattle.std.specs.Prelude.{ℕ, List, [], ◌∷◌, map, Bool, true, false, ◌&&◌, Option, Some, None}
use Rattle.bt_value.specs.Keys.{find}
use Rattle.bt_value.specs.Order.{equals}
use Rattle.bt_value.specs.declared.val.Val.{Val, fold-Val, out-Val}
use Rattle.bt_value.specs.declared.val.Val.TheOpen.{Val-F}
use Rattle.bt_value.specs.declared.val.Val.TheVariants as val

-- whether a test passes of the value, where there is one
abbrev pub passes_on : (Val → Bool) → Option Val → Bool
passes_on test (Some v) = test v
passes_on test None = false

-- each expected member is there, with what is expected of it
abbrev pub members_within : List (List ℕ × (Val → Bool)) → List (List ℕ × Val) → Bool
members_within [] found = true
members_within (m ∷ ms) found = passes_on m.1 (find m.0 found) && members_within ms found

-- each expected element is at its place
abbrev pub items_within : List (Val → Bool) → List Val → Bool
items_within [] found = true
items_within (test ∷ tests) [] = false
items_within (test ∷ tests) (v ∷ found) = test v && items_within tests found

abbrev pub in_object : List (List ℕ × (Val → Bool)) → Val-F Val → Bool
in_object ms (Val-F.Obj found) = members_within ms found
in_object ms _ = false

abbrev pub in_list : List (Val → Bool) → Val-F Val → Bool
in_list tests (Val-F.Arr found) = items_within tests found
in_list tests _ = false

abbrev pub within_step : Val-F (Val → Bool) → Val → Bool
within_step Val-F.Null v = equals val.Null v
within_step (Val-F.Bool b) v = equals (val.Bool b) v
within_step (Val-F.Int n) v = equals (val.Int n) v
within_step (Val-F.Str s) v = equals (val.Str s) v
within_step (Val-F.Bytes b) v = equals (val.Bytes b) v
within_step (Val-F.Arr tests) v = in_list tests (out-Val v)
within_step (Val-F.Obj ms) v = in_object ms (out-Val v)

-- whether the first value, which is expected, is within the second
abbrev pub is_within : Val → Val → Bool
is_within = fold-Val (Val → Bool) within_step
