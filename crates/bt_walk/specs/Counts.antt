-- How many leaves, holds and sources stand in an output or an input.
use Rattle.std.specs.Prelude.{ℕ, pos, List, [], ◌∷◌, Bool, ◌&&◌, ◌||◌, false, nat_lt, ◌+◌, ◌*◌, Option, Some, None, if◌then◌else◌, codes, length}
use Rattle.bt_value.specs.Keys.{find}
use Rattle.bt_value.specs.declared.val.Val.{Val, out-Val}
use Rattle.bt_value.specs.declared.val.Val.TheOpen.{Val-F}
use Rattle.bt_schema.specs.declared.places.Place.{Place}
use Rattle.bt_schema.specs.declared.places.Place.TheVariants as place
use Rattle.bt_schema.specs.Policies.{Members, fields, is_hold}
use Rattle.bt_schema.specs.Table.{form_of, element, member}
use Rattle.bt_walk.specs.declared.counts.What.{What}
use Rattle.bt_walk.specs.declared.counts.What.TheVariants as what
use Rattle.bt_walk.specs.Meaning.{Meaning}
use Rattle.bt_walk.specs.Members.{is_list, is_walked}

abbrev pub items_in : Val-F Val → ℕ
items_in (Val-F.Arr vs) = length vs
items_in _ = 0

-- What a value itself is: a leaf is an output `stdout` or `file`, a hold a `broker` whose batching is on, and a source the input
-- `stdin` or one of the paths of the input `file`.
abbrev pub own_count : What → Place → Val → ℕ
own_count what.Leaf place.Stdout v = 1
own_count what.Leaf place.FileOutput v = 1
own_count what.Hold there v = if is_hold there v then 1 else 0
own_count what.Source place.Stdin v = 1
own_count what.Source place.Paths v = items_in (out-Val v)
own_count _ there v = 0

-- one more than a number from 1 to 8, else 1
abbrev pub copies_in : Val-F Val → ℕ
copies_in (Val-F.Int (pos n)) = if nat_lt 0 n && nat_lt n 9 then n + 1 else 1
copies_in _ = 1

abbrev pub copies_of : Option Val → ℕ
copies_of None = 1
copies_of (Some v) = copies_in (out-Val v)

-- `retry` makes a copy of its child for each time that it tries again. Where `max_retries` has a lint, the child is counted once
abbrev pub copies : Place → Val → ℕ
copies place.Retry v = copies_of (find (codes "max_retries") (fields v))
copies _ v = 1

-- how many stand at and below a value
abbrev pub within : What → Bool → Place → Meaning → ℕ
within w newer there m = copies there m.is * (own_count w there m.is + m.count w newer there)

-- nothing is counted below a member that isn't known
abbrev pub within_member : What → Bool → Option Place → Meaning → ℕ
within_member w newer None m = 0
within_member w newer (Some there) m = within w newer there m

abbrev pub within_members : What → Bool → Place → Members Meaning → ℕ
within_members w newer here [] = 0
within_members w newer here (m ∷ ms) = within_member w newer (member newer here m.0) m.1 + within_members w newer here ms

abbrev pub within_items : What → Bool → Place → List Meaning → ℕ
within_items w newer there [] = 0
within_items w newer there (m ∷ ms) = within w newer there m + within_items w newer there ms

abbrev pub count_list : What → Bool → Place → List Meaning → ℕ
count_list w newer here ms = if is_list (form_of here) then within_items w newer (element here) ms else 0

abbrev pub count_object : What → Bool → Place → Members Meaning → ℕ
count_object w newer here ms = if is_walked (form_of here) here ms then within_members w newer here ms else 0

-- how many stand below a value: where the walk goes on, those of its elements or members
abbrev pub count_step : Val-F Meaning → What → Bool → Place → ℕ
count_step (Val-F.Arr ms) w newer here = count_list w newer here ms
count_step (Val-F.Obj ms) w newer here = count_object w newer here ms
count_step _ w newer here = 0

-- An input has at most 64 sources, and an output at most 256 leaves and 64 holds.
abbrev pub too_many : Bool → Place → Meaning → Bool
too_many newer place.Input m = nat_lt 64 (within what.Source newer place.Input m)
too_many newer place.Output m = nat_lt 256 (within what.Leaf newer place.Output m) || nat_lt 64 (within what.Hold newer place.Output m)
too_many newer there m = false
