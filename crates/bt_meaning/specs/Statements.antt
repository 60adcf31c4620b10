-- What statements write: the document, the metadata and the variables.
use Rattle.std.specs.Prelude.{ℕ, ◌+◌, List, [], ◌∷◌, ◌++◌, codes, length, nat_lt, Bool, true, false, Option, Some, None, Result, Ok, Err}
use Rattle.std.specs.Str.{bytes_eq}
use Rattle.std.specs.Map.{remove_entry}
use Rattle.bt_value.specs.Depth.{depth}
use Rattle.bt_value.specs.Paths.{set_at, without_at}
use Rattle.bt_value.specs.declared.val.Val.{Val}
use Rattle.bt_value.specs.declared.val.Val.TheVariants as v
use Rattle.bt_value.specs.declared.message.Out.{Out}
use Rattle.bt_value.specs.declared.message.Out.TheVariants.{Value, Failed, Deleted, Nothing}
use Rattle.bt_tree.specs.declared.tree.Key.{Key}
use Rattle.bt_kinds.specs.Kinds.{kind_name}
use Rattle.bt_kinds.specs.Moving.{put}
use Rattle.bt_kinds.specs.Targets.{object}
use Rattle.bt_kinds.specs.declared.kinds.Kind.{Kind}
use Rattle.bt_meaning.specs.Contexts.{Where, Pairs}
use Rattle.bt_meaning.specs.Outcomes.{key_text}
use Rattle.bt_meaning.specs.declared.state.Root.{Root}
use Rattle.bt_meaning.specs.declared.state.Root.TheVariants.{Unset, Gone, Set, Unread}
use Rattle.bt_meaning.specs.declared.state.State.{State}

-- what `root` gives: the document so far, and null where it is unset or gone
abbrev pub document_so_far : Root → Out
document_so_far Unset = Value v.Null
document_so_far Gone = Value v.Null
document_so_far (Set x) = Value x
document_so_far (Unread t) = Failed t

-- where a statement's query is evaluated: with the document and the variables so far
abbrev pub at_state : Where → State → Where
at_state c s = record c { root = document_so_far s.root; vars = s.vars }

-- the document below which a path leads; one that is unset or gone first becomes an object without members
abbrev pub below : Root → Result Val (List ℕ)
below Unset = Ok (v.Obj [])
below Gone = Ok (v.Obj [])
below (Set x) = Ok x
below (Unread t) = Err t

-- the document with a value in it, where there is such a one and the value nests to 127 at most there
abbrev pub set_found : Option Val → Bool → Result Root (List ℕ)
set_found None too_deep = Err (codes "root: path through a value that is not an object")
set_found (Some d) true = Err (codes "root: too deep")
set_found (Some d) false = Ok (Set d)

-- a value put at a path in a document; the value itself is a step, so the path and its depth make up the depth
abbrev pub set_in : List (List ℕ) → Val → Val → Result Root (List ℕ)
set_in ns x d = set_found (set_at ns x d) (nat_lt 127 (length ns + depth x))

-- the same below the root, where it has a document
abbrev pub put_below : List (List ℕ) → Val → Result Val (List ℕ) → Result Root (List ℕ)
put_below ns x (Ok d) = set_in ns x d
put_below ns x (Err t) = Err t

-- what stands at a path taken away
abbrev pub delete_below : List (List ℕ) → Result Val (List ℕ) → Result Root (List ℕ)
delete_below ns (Ok d) = Ok (Set (without_at ns d))
delete_below ns (Err t) = Err t

-- The document after an assignment to it, or to what stands at a path of one name or more: a value is put there, Deleted
-- removes, Nothing leaves all as it is, and a failure is one of the statement.
abbrev pub assigned : List (List ℕ) → Out → Root → Result Root (List ℕ)
assigned ns (Failed t) r = Err t
assigned ns Nothing r = Ok r
assigned [] (Value x) r = Ok (Set x)
assigned [] Deleted r = Ok Gone
assigned (n ∷ ns) (Value x) r = put_below (n ∷ ns) x (below r)
assigned (n ∷ ns) Deleted r = delete_below (n ∷ ns) (below r)

-- the variables after `let`, and metadata after an assignment to one key
abbrev pub bound : List ℕ → Out → Pairs → Result Pairs (List ℕ)
bound n (Failed t) xs = Err t
bound n Nothing xs = Ok xs
bound n (Value x) xs = Ok (put n x xs)
bound n Deleted xs = Ok (remove_entry (bytes_eq n) xs)

-- the metadata that an object is
abbrev pub all_replaced : Result Pairs Kind → Result Pairs (List ℕ)
all_replaced (Ok ms) = Ok ms
all_replaced (Err kd) = Err (codes "meta: wrong type " ++ kind_name kd)

-- the metadata after an assignment to all of it: an object replaces it, and Deleted removes all
abbrev pub meta_all : Out → Pairs → Result Pairs (List ℕ)
meta_all (Failed t) xs = Err t
meta_all Nothing xs = Ok xs
meta_all (Value x) xs = all_replaced (object x)
meta_all Deleted xs = Ok []

-- the metadata after an assignment
abbrev pub meta_assigned : Option Key → Out → Pairs → Result Pairs (List ℕ)
meta_assigned (Some n) o xs = bound (key_text n) o xs
meta_assigned None o xs = meta_all o xs

-- a state after an assignment to its root, or why it failed
abbrev pub with_root : State → Result Root (List ℕ) → Result State (List ℕ)
with_root s (Ok r) = Ok (record s { root = r })
with_root s (Err t) = Err t

-- the same to its variables
abbrev pub with_vars : State → Result Pairs (List ℕ) → Result State (List ℕ)
with_vars s (Ok xs) = Ok (record s { vars = xs })
with_vars s (Err t) = Err t

-- the same to its metadata
abbrev pub with_meta : State → Result Pairs (List ℕ) → Result State (List ℕ)
with_meta s (Ok xs) = Ok (record s { meta = xs })
with_meta s (Err t) = Err t
