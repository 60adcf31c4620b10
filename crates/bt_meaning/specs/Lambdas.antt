-- Methods that evaluate a query on each element of a list or an object.
use Rattle.std.specs.Prelude.{ℕ, suc, ℤ, List, [], ◌∷◌, codes, flat_map, slice_get, Bool, true, false, Option, Some, None, Result, Ok, Err, if◌then◌else◌}
use Rattle.std.specs.Ordering.{nat_cmp, int_cmp, ordering_then}
use Rattle.std.specs.declared.cmp.Ordering.{Ordering}
use Rattle.std.specs.Cmp.Lexicographic.{slice_cmp}
use Rattle.bt_value.specs.Keys.{put_all}
use Rattle.bt_value.specs.declared.val.Val.{Val}
use Rattle.bt_value.specs.declared.val.Val.TheVariants as v
use Rattle.bt_value.specs.declared.message.Out.{Out}
use Rattle.bt_value.specs.declared.message.Out.TheVariants.{Value, Failed, Deleted, Nothing}
use Rattle.bt_tree.specs.declared.tree.Arg.{Arg}
use Rattle.bt_kinds.specs.Kinds.{on, wrong}
use Rattle.bt_kinds.specs.Limits.{limited}
use Rattle.bt_kinds.specs.Moving.{put}
use Rattle.bt_kinds.specs.Targets.{array, object, string, number, boolean}
use Rattle.bt_kinds.specs.declared.kinds.Kind.{Kind}
use Rattle.bt_lists.specs.Sorts.{sorted}
use Rattle.bt_meaning.specs.Contexts.{Where, Sense, Pairs, element}
use Rattle.bt_meaning.specs.Outcomes.{then_value, part_of, is_failed, is_true}
use Rattle.bt_meaning.specs.Literals.{one_more, as_list}
use Rattle.bt_meaning.specs.declared.forms.Each.{Each}
use Rattle.bt_meaning.specs.declared.forms.Each.TheVariants as e

-- a list, or else an object, or else a wrong type
abbrev pub list_or_object : List ℕ → Result (List Val) Kind → Result Pairs Kind → (List Val → Out) → (Pairs → Out) → Out
list_or_object name (Ok xs) object go on_members = go xs
list_or_object name (Err kd) object go on_members = on name object on_members

-- a member of an object as an element
abbrev pub member_element : List ℕ × Val → Val
member_element m = v.Obj (put (codes "value") m.1 (put (codes "key") (v.Str m.0) []))

-- members put in one after another behind others, so that of equal keys the later stands
abbrev pub put_in : Pairs → Result Pairs Out → Result Pairs Out
put_in got (Ok ps) = Ok (put_all got ps)
put_in got (Err o) = Err o

-- map_each --------------------------------------------------------------

-- what an element becomes: a value replaces it, Deleted removes it, and Nothing keeps it
abbrev pub replaced : Val → Out → Result (Option Val) Out
replaced old (Value x) = Ok (Some x)
replaced old (Failed t) = Err (Failed t)
replaced old Deleted = Ok None
replaced old Nothing = Ok (Some old)

-- the elements of a list, replaced
abbrev pub each : Arg Sense → List Val → Where → Result (List Val) Out
each f [] c = Ok []
each f (x ∷ xs) c = one_more (replaced x (element f x c)) (each f xs c)

-- under a key
abbrev pub keyed : List ℕ → Result (Option Val) Out → Result (Option (List ℕ × Val)) Out
keyed n (Ok (Some x)) = Ok (Some (n, x))
keyed n (Ok None) = Ok None
keyed n (Err o) = Err o

-- the members of an object, whose values are replaced
abbrev pub each_member : Arg Sense → Pairs → Where → Result Pairs Out
each_member f [] c = Ok []
each_member f (m ∷ ms) c = one_more (keyed m.0 (replaced m.1 (element f (member_element m) c))) (each_member f ms c)

-- an object that nests to 127 at most
abbrev pub as_object : List ℕ → Result Pairs Out → Out
as_object name (Ok ms) = limited name (v.Obj ms)
as_object name (Err o) = o

-- `map_each`: each element or member replaced
abbrev pub map_each : Arg Sense → Where → Val → Out
map_each f c x = list_or_object (codes "map_each") (array x) (object x)
    (λ xs. as_list (codes "map_each") (each f xs c)) (λ ms. as_object (codes "map_each") (put_in [] (each_member f ms c)))

-- map_each_key ----------------------------------------------------------

-- a value under a key that was given
abbrev pub renamed : Val → Result (List ℕ) Out → Result (Option (List ℕ × Val)) Out
renamed x (Ok n) = Ok (Some (n, x))
renamed x (Err o) = Err o

-- the members of an object, whose keys are replaced by strings; the element is the key
abbrev pub each_key : Arg Sense → Pairs → Where → Result Pairs Out
each_key f [] c = Ok []
each_key f (m ∷ ms) c = one_more (renamed m.1 (part_of (codes "map_each_key") string (element f (v.Str m.0) c))) (each_key f ms c)

-- elements and members as a value
abbrev pub list_of : Result (List Val) Out → Out
list_of (Ok xs) = Value (v.Arr xs)
list_of (Err o) = o

-- members as an object, which nests no deeper than before
abbrev pub object_from : Result Pairs Out → Out
object_from (Ok ms) = Value (v.Obj ms)
object_from (Err o) = o

-- `map_each_key`: each key replaced; of equal keys the later stands
abbrev pub map_each_key : Arg Sense → Where → Val → Out
map_each_key f c x = on (codes "map_each_key") (object x) (λ ms. object_from (put_in [] (each_key f ms c)))

-- filter ----------------------------------------------------------------

-- stays where true is given; a failure stands
abbrev pub kept : {A : Type 0} → A → Out → Result (Option A) Out
kept a (Value x) = if is_true x then Ok (Some a) else Ok None
kept a (Failed t) = Err (Failed t)
kept a Deleted = Ok None
kept a Nothing = Ok None

-- the elements for which the query is true
abbrev pub filtered : Arg Sense → List Val → Where → Result (List Val) Out
filtered f [] c = Ok []
filtered f (x ∷ xs) c = one_more (kept x (element f x c)) (filtered f xs c)

-- the members for which it is true
abbrev pub filtered_members : Arg Sense → Pairs → Where → Result Pairs Out
filtered_members f [] c = Ok []
filtered_members f (m ∷ ms) c = one_more (kept m (element f (member_element m) c)) (filtered_members f ms c)

-- `filter`: the elements or members for which the query is true
abbrev pub filter : Arg Sense → Where → Val → Out
filter f c x = list_or_object (codes "filter") (array x) (object x) (λ xs. list_of (filtered f xs c)) (λ ms. object_from (put_in [] (filtered_members f ms c)))

-- any and all -----------------------------------------------------------

-- one true decides, and else the rest does
abbrev pub any_next : Result Bool Out → Out → Out
any_next (Ok true) rest = Value (v.Bool true)
any_next (Ok false) rest = rest
any_next (Err o) rest = o

-- true at the first element for which the query is true, and false without one
abbrev pub any_of : Arg Sense → List Val → Where → Out
any_of f [] c = Value (v.Bool false)
any_of f (x ∷ xs) c = any_next (part_of (codes "any") boolean (element f x c)) (any_of f xs c)

-- `any`: of a list; each result that is looked at is a boolean
abbrev pub any : Arg Sense → Where → Val → Out
any f c x = on (codes "any") (array x) (λ xs. any_of f xs c)

-- one false decides, and else the rest does
abbrev pub all_next : Result Bool Out → Out → Out
all_next (Ok true) rest = rest
all_next (Ok false) rest = Value (v.Bool false)
all_next (Err o) rest = o

-- false at the first element for which the query is false, and true without one
abbrev pub all_from : Arg Sense → List Val → Where → Out
all_from f [] c = Value (v.Bool true)
all_from f (x ∷ xs) c = all_next (part_of (codes "all") boolean (element f x c)) (all_from f xs c)

-- an empty list has none
abbrev pub all_of : Arg Sense → List Val → Where → Out
all_of f [] c = Value (v.Bool false)
all_of f (x ∷ xs) c = all_from f (x ∷ xs) c

-- `all`: of a list
abbrev pub all : Arg Sense → Where → Val → Out
all f c x = on (codes "all") (array x) (λ xs. all_of f xs c)

-- fold ------------------------------------------------------------------

-- a tally and an element as one object
abbrev pub tally_element : Val → Val → Val
tally_element tally x = v.Obj (put (codes "value") x (put (codes "tally") tally []))

-- the tally with one element more; the object of the two nests to 127 at most
abbrev pub tallied : Arg Sense → Where → Val → Val → Out
tallied f c tally x = then_value (codes "fold") (limited (codes "fold") (tally_element tally x)) (λ p. then_value (codes "fold") (element f p c) Value)

-- the tally over the elements, from the left, until it is no value
abbrev pub folded : Arg Sense → List Val → Where → Out → Out
folded f xs c (Failed t) = Failed t
folded f xs c Deleted = Deleted
folded f xs c Nothing = Nothing
folded f [] c (Value tally) = Value tally
folded f (x ∷ xs) c (Value tally) = folded f xs c (tallied f c tally x)

-- of a list, from a value
abbrev pub fold_value : Out → Val → Arg Sense → Where → Out
fold_value start x f c = on (codes "fold") (array x) (λ xs. then_value (codes "fold") start (λ s. folded f xs c (Value s)))

-- `fold`: the first argument is evaluated before the target's kind is looked at
abbrev pub fold_of : Out → Out → Arg Sense → Where → Out
fold_of o start f c = if is_failed o then o else if is_failed start then start else then_value (codes "fold") o (λ x. fold_value start x f c)

-- sort_by ---------------------------------------------------------------

-- a key with its element's place
abbrev pub placed : {A : Type 0} → ℕ → Result A Out → Result (Option (A × ℕ)) Out
placed i (Ok a) = Ok (Some (a, i))
placed i (Err o) = Err o

-- the keys of elements that stand from a place on, each with its place
abbrev pub keys_from : {A : Type 0} → (Val → Result A Kind) → Arg Sense → ℕ → List Val → Where → Result (List (A × ℕ)) Out
keys_from part f i [] c = Ok []
keys_from part f i (x ∷ xs) c = one_more (placed i (part_of (codes "sort_by") part (element f x c))) (keys_from part f (suc i) xs c)

-- by key, and those of equal keys by place
abbrev pub key_cmp : {A : Type 0} → (A → A → Ordering) → A × ℕ → A × ℕ → Ordering
key_cmp cmp p q = ordering_then (cmp p.0 q.0) (nat_cmp p.1 q.1)

-- what there is, as a list
abbrev pub alone : Option Val → List Val
alone (Some x) = x ∷ []
alone None = []

-- the elements at places
abbrev pub at_places : {A : Type 0} → List Val → List (A × ℕ) → List Val
at_places xs ps = flat_map (λ p. alone (slice_get xs p.1)) ps

-- the elements by rising keys; those of equal keys keep their order
abbrev pub in_order : {A : Type 0} → (A → A → Ordering) → List Val → Result (List (A × ℕ)) Out → Out
in_order cmp xs (Ok ps) = Value (v.Arr (at_places xs (sorted (key_cmp cmp) ps)))
in_order cmp xs (Err o) = o

-- the kind of the first key decides: all are numbers, or all are strings
abbrev pub sorted_as : Result ℤ Kind → Result (List ℕ) Kind → Arg Sense → List Val → Where → Out
sorted_as (Ok n) string_key f xs c = in_order int_cmp xs (keys_from number f 0 xs c)
sorted_as (Err kd) (Ok s) f xs c = in_order (slice_cmp nat_cmp) xs (keys_from string f 0 xs c)
sorted_as (Err kd) (Err kind) f xs c = wrong (codes "sort_by") kind

-- a list without elements is sorted; else the kind of its first key decides
abbrev pub sorted_by : Arg Sense → List Val → Where → Out
sorted_by f [] c = Value (v.Arr [])
sorted_by f (x ∷ xs) c = then_value (codes "sort_by") (element f x c) (λ key. sorted_as (number key) (string key) f (x ∷ xs) c)

-- `sort_by`: of a list
abbrev pub sort_by : Arg Sense → Where → Val → Out
sort_by f c x = on (codes "sort_by") (array x) (λ xs. sorted_by f xs c)

-- one case for each method with a query on each element
abbrev pub each_of : Each → Arg Sense → Where → Val → Out
each_of e.MapEach f c x = map_each f c x
each_of e.MapEachKey f c x = map_each_key f c x
each_of e.Filter f c x = filter f c x
each_of e.Any f c x = any f c x
each_of e.All f c x = all f c x
each_of e.SortBy f c x = sort_by f c x
