-- The methods on numbers.
use Rattle.std.specs.Prelude.{ℕ, ℤ, pos, ◌+ℤ◌, unsigned_abs, List, [], ◌∷◌, codes}
use Rattle.std.specs.Int.{int_min, int_max}
use Rattle.std.specs.List.{fold}
use Rattle.bt_value.specs.declared.val.Val.{Val}
use Rattle.bt_value.specs.declared.val.Val.TheVariants as v
use Rattle.bt_value.specs.declared.message.Out.{Out}
use Rattle.bt_value.specs.declared.message.Out.TheVariants.{Value}
use Rattle.bt_kinds.specs.Kinds.{on, failure}
use Rattle.bt_kinds.specs.Limits.{int}
use Rattle.bt_kinds.specs.Targets.{number, numbers, array}

-- without its sign
abbrev pub abs : Val → Out
abs x = on (codes "abs") (number x) (λ n. int (codes "abs") (pos (unsigned_abs n)))

-- the sum of all, whatever the sums on the way are
abbrev pub total : List ℤ → ℤ
total ns = fold ◌+ℤ◌ (pos 0) ns

-- `out of range` exactly where the sum of all is past 64 bits
abbrev pub sum : Val → Out
sum x = on (codes "sum") (array x) (λ xs. on (codes "sum") (numbers xs) (λ ns. int (codes "sum") (total ns)))

-- the best of a list, or `empty`
abbrev pub best : List ℕ → (ℤ → ℤ → ℤ) → List ℤ → Out
best name better [] = failure name (codes "empty")
best name better (n ∷ ns) = Value (v.Int (fold better n ns))

-- the least of a list of numbers
abbrev pub min : Val → Out
min x = on (codes "min") (array x) (λ xs. on (codes "min") (numbers xs) (best (codes "min") int_min))

-- the greatest of a list of numbers
abbrev pub max : Val → Out
max x = on (codes "max") (array x) (λ xs. on (codes "max") (numbers xs) (best (codes "max") int_max))
