-- Members under their keys.
use Rattle.std.specs.Prelude.{ℕ, List}
use Rattle.std.specs.BTreeMap.{insert_entry}
use Rattle.std.specs.Cmp.Lexicographic.{slice_cmp}
use Rattle.std.specs.Ordering.{nat_cmp}
use Rattle.bt_value.specs.declared.val.Val.{Val}

-- the members with this one: in the place of the one that has the key, or else where the key belongs in the rising order
abbrev pub put : List ℕ → Val → List (List ℕ × Val) → List (List ℕ × Val)
put n x ms = insert_entry (slice_cmp nat_cmp) ms n x
