-- The value of JSON data with a mark at each number that is no value. Private clauses alone cite it.
use Rattle.std.specs.Prelude.{ℕ, ℤ, List, [], ◌∷◌, Option, Some, None}
use Rattle.serde_json.specs.Data.{Data, null, boolean, number, string, array, object, Items, no_items, item, Members, no_members, member}
use Rattle.serde_json.specs.Find.{as_i64}
use Rattle.bt_value.specs.declared.val.Val.{Val, Null, Bool as Boolean, Int, Str, Bytes, Arr, Obj}

-- a whole number of 64 bits, and empty bytes for any other
abbrev pub mark : Option ℤ → Val
mark (Some n) = Int n
mark None = Bytes []

abbrev mutual
  pub marked : Data → Val
  marked null = Null
  marked (boolean b) = Boolean b
  marked (number n) = mark (as_i64 n)
  marked (string s) = Str s
  marked (array ds) = Arr (marked_items ds)
  marked (object ms) = Obj (marked_members ms)

  pub marked_items : Items → List Val
  marked_items no_items = []
  marked_items (item d ds) = marked d ∷ marked_items ds

  pub marked_members : Members → List (List ℕ × Val)
  marked_members no_members = []
  marked_members (member k d ms) = (k, marked d) ∷ marked_members ms
