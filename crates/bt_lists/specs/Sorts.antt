-- Lists in rising order.
use Rattle.std.specs.Prelude.{List, [], ◌∷◌, map, codes, if◌then◌else◌}
use Rattle.std.specs.Ordering.{nat_cmp, int_cmp, is_gt}
use Rattle.std.specs.Cmp.Lexicographic.{slice_cmp}
use Rattle.std.specs.declared.cmp.Ordering.{Ordering}
use Rattle.bt_value.specs.declared.val.Val.{Val}
use Rattle.bt_value.specs.declared.val.Val.TheVariants as v
use Rattle.bt_value.specs.declared.message.Out.{Out}
use Rattle.bt_value.specs.declared.message.Out.TheVariants.{Value}
use Rattle.bt_kinds.specs.Kinds.{on, wrong, kind_of}
use Rattle.bt_kinds.specs.Targets.{numbers, strings, array}
use Rattle.bt_kinds.specs.declared.kinds.Kind.{Kind}
use Rattle.bt_kinds.specs.declared.kinds.Kind.TheVariants as k
use Rattle.bt_lists.specs.declared.sorts.Order.{Order}
use Rattle.bt_lists.specs.declared.sorts.Order.TheVariants as so

-- x before the first element that it is no greater than
unfoldable pub insert_by : {X : Type 0} → (X → X → Ordering) → X → List X → List X
insert_by cmp x [] = x ∷ []
insert_by cmp x (y ∷ ys) = if is_gt (cmp x y) then y ∷ insert_by cmp x ys else x ∷ y ∷ ys

-- the elements in rising order: the only such list where the order tells all elements apart
unfoldable pub sorted : {X : Type 0} → (X → X → Ordering) → List X → List X
sorted cmp [] = []
sorted cmp (x ∷ xs) = insert_by cmp x (sorted cmp xs)

-- a list of numbers in rising order, or the wrong type of the first element that is none
abbrev pub numbers_sorted : List Val → Out
numbers_sorted xs = on (codes "sort") (numbers xs) (λ ns. Value (v.Arr (map v.Int (sorted int_cmp ns))))

-- a list of strings in rising order of their bytes, or the wrong type of the first element that is none
abbrev pub strings_sorted : List Val → Out
strings_sorted xs = on (codes "sort") (strings xs) (λ ss. Value (v.Arr (map v.Str (sorted (slice_cmp nat_cmp) ss))))

-- what a kind of the first element decides
abbrev sorting_at : Kind → Order
sorting_at k.Number = so.Numbers
sorting_at k.String = so.Strings
sorting_at kd = so.Neither kd

-- the kind of the first element decides
unfoldable pub first_sorting : Val → Order
first_sorting x = sorting_at (kind_of x)

-- what a list is to be sorted as
abbrev pub sorting_of : List Val → Order
sorting_of [] = so.Empty
sorting_of (x ∷ xs) = first_sorting x

-- the list in rising order, or the wrong type of its first element
abbrev pub sorted_as : Order → List Val → Out
sorted_as so.Empty xs = Value (v.Arr [])
sorted_as so.Numbers xs = numbers_sorted xs
sorted_as so.Strings xs = strings_sorted xs
sorted_as (so.Neither kd) xs = wrong (codes "sort") kd

-- `sort()`: of a list of numbers or of strings, in rising order
abbrev pub sort : Val → Out
sort x = on (codes "sort") (array x) (λ xs. sorted_as (sorting_of xs) xs)
