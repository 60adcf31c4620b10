-- Lists and objects.
use Rattle.std.specs.Prelude.{ℕ, List, [], ◌∷◌, codes, Option, Some, None, Result, Ok, Err, if◌then◌else◌}
use Rattle.bt_value.specs.declared.val.Val.{Val}
use Rattle.bt_value.specs.declared.val.Val.TheVariants as v
use Rattle.bt_value.specs.declared.message.Out.{Out}
use Rattle.bt_value.specs.declared.message.Out.TheVariants.{Value, Failed, Deleted, Nothing}
use Rattle.bt_tree.specs.declared.tree.Member.{Member}
use Rattle.bt_kinds.specs.Limits.{limited}
use Rattle.bt_kinds.specs.Moving.{put}
use Rattle.bt_meaning.specs.Contexts.{Where, Sense, Pairs}
use Rattle.bt_meaning.specs.Outcomes.{is_failed}

-- One more before those behind it: what stands in its place, or no place for it. The first that can't be is the result.
abbrev pub one_more : {A : Type 0} → Result (Option A) Out → Result (List A) Out → Result (List A) Out
one_more (Err o) rest = Err o
one_more (Ok None) rest = rest
one_more (Ok (Some x)) (Ok xs) = Ok (x ∷ xs)
one_more (Ok (Some x)) (Err o) = Err o

-- a member of a literal, which leaves out what is deleted and nothing
abbrev pub included : Out → Result (Option Val) Out
included (Value x) = Ok (Some x)
included (Failed t) = Err (Failed t)
included Deleted = Ok None
included Nothing = Ok None

-- what the members give, from the left, up to one that fails
abbrev pub gathered : List Sense → Where → Result (List Val) Out
gathered [] c = Ok []
gathered (q ∷ qs) c = one_more (included (q.at c)) (gathered qs c)

-- a list that nests to 127 at most
abbrev pub as_list : List ℕ → Result (List Val) Out → Out
as_list name (Ok xs) = limited name (v.Arr xs)
as_list name (Err o) = o

-- a list literal
abbrev pub list_value : List Sense → Where → Out
list_value qs c = as_list (codes "literal") (gathered qs c)

-- a member put in, unless it is deleted or nothing
abbrev pub with_member : List ℕ → Out → Pairs → Pairs
with_member n (Value x) got = put n x got
with_member n o got = got

-- the members of an object, put in one after another, so that of equal keys the last that isn't left out stands
abbrev pub members : List (Member Sense) → Where → Pairs → Out
members [] c got = limited (codes "literal") (v.Obj got)
members (x ∷ xs) c got = if is_failed (x.query.at c) then x.query.at c else members xs c (with_member x.key (x.query.at c) got)

-- an object literal
abbrev pub object_value : List (Member Sense) → Where → Out
object_value xs c = members xs c []
