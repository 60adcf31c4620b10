-- The lists of processors that pointers name.
use Rattle.std.specs.Prelude.{ℕ, List, [], ◌∷◌, Bool, true, false, Option, Some, None, option_and_then, if◌then◌else◌, eqb}
use Rattle.std.specs.List.{slice_split}
use Rattle.bt_value.specs.Paths.{at_path}
use Rattle.bt_value.specs.declared.val.Val.{Val, out-Val}
use Rattle.bt_value.specs.declared.val.Val.TheOpen.{Val-F}
use Rattle.bt_schema.specs.declared.places.Place.{Place}
use Rattle.bt_schema.specs.declared.places.Place.TheVariants as place
use Rattle.bt_schema.specs.Policies.{Members}
use Rattle.bt_schema.specs.Table.{form_of, element, member}
use Rattle.bt_walk.specs.Members.{is_list, is_walked}

abbrev pub place_of_items : Place → Option Place
place_of_items here = if is_list (form_of here) then Some (element here) else None

abbrev pub place_of_member : List ℕ → Place → Members Val → Option Place
place_of_member name here ms = if is_walked (form_of here) here ms then member true here name else None

-- The place to which one name leads. Nothing is reached below a value that the walk doesn't enter. Names of either version count.
abbrev pub place_below : List ℕ → Place → Val-F Val → Option Place
place_below name here (Val-F.Arr vs) = place_of_items here
place_below name here (Val-F.Obj ms) = place_of_member name here ms
place_below name here _ = None

abbrev pub both : Option Place → Option Val → Option (Place × Val)
both (Some there) (Some v) = Some (there, v)
both _ _ = None

-- the place and the value to which one name leads
abbrev pub step : List ℕ → Place × Val → Option (Place × Val)
step name p = both (place_below name p.0 (out-Val p.1)) (at_path (name ∷ []) p.1)

-- the same of one name after another
abbrev pub reach : List (List ℕ) → Place × Val → Option (Place × Val)
reach [] p = Some p
reach (name ∷ names) p = option_and_then (reach names) (step name p)

abbrev pub is_processors : Place → Val-F Val → Bool
is_processors place.Processors (Val-F.Arr vs) = true
is_processors _ _ = false

abbrev pub is_list_there : Option (Place × Val) → Bool
is_list_there (Some p) = is_processors p.0 (out-Val p.1)
is_list_there None = false

abbrev pub names_of_list : List (List ℕ) → Val → Bool
names_of_list ([] ∷ names) config = is_list_there (reach names (place.Top, config))
names_of_list _ config = false

-- The pointer names a list of processors: the one of `pipeline`, or one inside it. Between its `/` stand the names that lead there,
-- and none before the first.
abbrev pub is_target : Val → List ℕ → Bool
is_target config pointer = names_of_list (slice_split (λ b. eqb b 47) pointer) config
