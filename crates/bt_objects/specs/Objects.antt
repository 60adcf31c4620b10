-- The methods on objects, and those on paths.
use Rattle.std.specs.Prelude.{ℕ, zero, suc, List, [], ◌∷◌, ◌++◌, map, codes, Bool, ◌==◌, Option, Some, None, is_some, Result, Ok, Err}
use Rattle.std.specs.List.{fold, slice_split}
use Rattle.bt_value.specs.Keys.{find}
use Rattle.bt_value.specs.Paths.{at_path, without_at, or_null}
use Rattle.bt_value.specs.declared.val.Val.{Val}
use Rattle.bt_value.specs.declared.val.Val.TheVariants as v
use Rattle.bt_value.specs.declared.message.Out.{Out}
use Rattle.bt_value.specs.declared.message.Out.TheVariants.{Value}
use Rattle.bt_kinds.specs.Limits.{limited}
use Rattle.bt_kinds.specs.Kinds.{on}
use Rattle.bt_kinds.specs.Moving.{put}
use Rattle.bt_lists.specs.Lists.{opened}
use Rattle.bt_kinds.specs.Targets.{two, string, strings, object}
use Rattle.bt_kinds.specs.declared.kinds.Kind.{Kind}

-- the members of an object, with their keys
abbrev pub Pairs : Type 0
Pairs = List (List ℕ × Val)

-- a member's key as a string
abbrev pub key_of : List ℕ × Val → Val
key_of m = v.Str m.0

-- a member's value
abbrev pub value_of : List ℕ × Val → Val
value_of m = m.1

-- a member as an object
abbrev pub member_of : List ℕ × Val → Val
member_of m = v.Obj (put (codes "value") m.1 (put (codes "key") (v.Str m.0) []))

-- `keys()`: the list of the keys, in rising order of their bytes
abbrev pub keys : Val → Out
keys x = on (codes "keys") (object x) (λ ms. Value (v.Arr (map key_of ms)))

-- `values()`: the list of the values, in order of their keys
abbrev pub values : Val → Out
values x = on (codes "values") (object x) (λ ms. Value (v.Arr (map value_of ms)))

-- `key_values()`: the list of the members, each as an object with `key` and `value`, or `too deep`
abbrev pub key_values : Val → Out
key_values x = on (codes "key_values") (object x) (λ ms. limited (codes "key_values") (v.Arr (map member_of ms)))

-- two objects go together by f, and any other two values by the last
abbrev pub if_objects : (Pairs → Pairs → Pairs) → Result Pairs Kind → Result Pairs Kind → Val → Val
if_objects f (Ok ms) (Ok ns) other = v.Obj (f ms ns)
if_objects f (Ok ms) (Err kd) other = other
if_objects f (Err kd) ns other = other

-- what a name has in both, for a name that the second has
abbrev pub merged_value : (Pairs → Pairs → Pairs) → Option Val → Val → Val
merged_value f None y = y
merged_value f (Some x) y = if_objects f (object x) (object y) (v.Arr (opened x ++ opened y))

-- members with one more put among them, merged with what its name had
abbrev pub merged_on : (Pairs → Pairs → Pairs) → Pairs → List ℕ × Val → Pairs
merged_on f got m = put m.0 (merged_value f (find m.0 got) m.1) got

-- members of both names that are objects merge, down to so many levels; others become a list
unfoldable pub merged : ℕ → Pairs → Pairs → Pairs
merged zero ms ns = ms
merged (suc n) ms ns = fold (merged_on (merged n)) ms ns

-- `merge(o)`: the members of both objects, or `too deep`; no value is deeper than 127, so that 128 levels are all
abbrev pub merge : Val → Val → Out
merge x y = on (codes "merge") (two (object x) (object y)) (λ p. limited (codes "merge") (v.Obj (merged 128 p.0 p.1)))

-- what a name has in both, for a name that the second has: objects are assigned, and any other value of the second stands
abbrev pub assigned_value : (Pairs → Pairs → Pairs) → Option Val → Val → Val
assigned_value f None y = y
assigned_value f (Some x) y = if_objects f (object x) (object y) y

-- members with one more put among them, assigned to what its name had
abbrev pub assigned_on : (Pairs → Pairs → Pairs) → Pairs → List ℕ × Val → Pairs
assigned_on f got m = put m.0 (assigned_value f (find m.0 got) m.1) got

-- members of both names that are objects are assigned; for others the second's stands
unfoldable pub assigned : ℕ → Pairs → Pairs → Pairs
assigned zero ms ns = ms
assigned (suc n) ms ns = fold (assigned_on (assigned n)) ms ns

-- `assign(o)`: the members of both objects; no value is deeper than 127, so that 128 levels are all
abbrev pub assign : Val → Val → Out
assign x y = on (codes "assign") (two (object x) (object y)) (λ p. Value (v.Obj (assigned 128 p.0 p.1)))

-- the names of a path between its dots
abbrev pub names : List ℕ → List (List ℕ)
names p = slice_split (λ b. b == 46) p

-- `exists(p)`: whether something stands at the path
abbrev pub exists : Val → Val → Out
exists x p = on (codes "exists") (string p) (λ s. Value (v.Bool (is_some (at_path (names s) x))))

-- `get(p)`: what stands at the path, or null
abbrev pub get : Val → Val → Out
get x p = on (codes "get") (string p) (λ s. Value (or_null (at_path (names s) x)))

-- a value without what stands at a path
abbrev pub without_path : Val → List ℕ → Val
without_path x p = without_at (names p) x

-- `without(p, ..)`: the object without what stands at the paths
abbrev pub without : Val → List Val → Out
without x ps = on (codes "without") (object x) (λ ms. on (codes "without") (strings ps) (λ ss. Value (fold without_path (v.Obj ms) ss)))
