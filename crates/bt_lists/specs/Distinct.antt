-- Lists without the later ones of equal elements.
use Rattle.std.specs.Prelude.{List, [], ◌∷◌, ◌++◌, Bool, not, nat_lt, filter, codes, if◌then◌else◌}
use Rattle.std.specs.List.{list_any}
use Rattle.std.specs.Ordering.{is_eq}
use Rattle.bt_value.specs.Depth.{depth}
use Rattle.bt_value.specs.Order.{compare}
use Rattle.bt_value.specs.declared.val.Val.{Val}
use Rattle.bt_value.specs.declared.val.Val.TheVariants as v
use Rattle.bt_value.specs.declared.message.Out.{Out}
use Rattle.bt_value.specs.declared.message.Out.TheVariants.{Value}
use Rattle.bt_kinds.specs.Kinds.{on, failure}
use Rattle.bt_kinds.specs.Targets.{array}

-- whether two values are equal: the order tells neither before the other
abbrev pub are_equal : Val → Val → Bool
are_equal x y = is_eq (compare x y)

-- each element, and behind it those of the later ones that don't equal it
abbrev pub distinct : List Val → List Val
distinct [] = []
distinct (x ∷ xs) = x ∷ filter (λ y. not (are_equal x y)) (distinct xs)

-- a list's elements without the later ones of equal ones, or `too deep`
abbrev pub unless_deep : Bool → List Val → Out
unless_deep deep xs = if deep then failure (codes "unique") (codes "too deep") else Value (v.Arr (distinct xs))

-- `unique()`: the list without later equal elements; no value nests deeper than 127, and the case of one that does is never met
abbrev pub unique : Val → Out
unique x = on (codes "unique") (array x) (unless_deep (nat_lt 127 (depth x)))

-- for each element of a list that stands behind others, whether it equals none before it
abbrev pub firsts_behind : List Val → List Val → List Bool
firsts_behind before [] = []
firsts_behind before (x ∷ xs) = not (list_any (λ y. are_equal y x) before) ∷ firsts_behind (before ++ x ∷ []) xs

-- the elements whose mark is true
abbrev pub marked : List Val → List Bool → List Val
marked [] ms = []
marked (x ∷ xs) [] = []
marked (x ∷ xs) (m ∷ ms) = if m then x ∷ marked xs ms else marked xs ms
