-- What a mapping makes of a message, whether a check passes, and the text of an interpolation.
use Rattle.std.specs.Prelude.{ℕ, Bool, List, [], ◌∷◌, ◌++◌, codes, decimal, Option, Some, None, unwrap_or, Result, Ok, Err, map, length}
use Rattle.bt_value.specs.declared.val.Val.TheVariants as v
use Rattle.bt_value.specs.declared.message.Msg.{Msg}
use Rattle.bt_value.specs.declared.message.Out.{Out}
use Rattle.bt_value.specs.declared.message.Out.TheVariants.{Value, Nothing}
use Rattle.bt_tree.specs.declared.tree.Mapping.{Mapping}
use Rattle.bt_tree.specs.declared.tree.Mapping.TheVariants as m
use Rattle.bt_tree.specs.declared.tree.Stmt.{Stmt}
use Rattle.bt_tree.specs.declared.tree.Stmt.TheVariants as st
use Rattle.bt_texts.specs.Conversions.{stringed}
use Rattle.bt_meaning.specs.Contexts.{Where, Pairs}
use Rattle.bt_meaning.specs.Contents.{document, this_of, root_given, content_of}
use Rattle.bt_meaning.specs.Outcomes.{key_text, passes}
use Rattle.bt_meaning.specs.Value.{value}
use Rattle.bt_meaning.specs.Statements.{at_state, assigned, bound, meta_assigned, with_root, with_vars, with_meta}
use Rattle.bt_meaning.specs.Maps.{applied}
use Rattle.bt_meaning.specs.declared.message.Spot.{Spot}
use Rattle.bt_meaning.specs.declared.message.Mapped.{Mapped}
use Rattle.bt_meaning.specs.declared.message.Mapped.TheVariants.{Changed, Dropped, Flagged}
use Rattle.bt_meaning.specs.declared.state.Root.{Root}
use Rattle.bt_meaning.specs.declared.state.Root.TheVariants.{Unset, Gone, Set, Unread}
use Rattle.bt_meaning.specs.declared.state.State.{State}

-- the text of a statement that failed, by the line on which it begins
unfoldable pub failed_assignment : ℕ → List ℕ → List ℕ
failed_assignment line t = codes "failed assignment (line " ++ decimal line ++ codes "): " ++ t

-- a failure with the line of its statement
abbrev pub in_line : ℕ → Result State (List ℕ) → Result State (List ℕ)
in_line line (Ok s) = Ok s
in_line line (Err t) = Err (failed_assignment line t)

-- one statement; maps are known in the whole mapping and write nothing
abbrev pub statement : Where → Stmt → State → Result State (List ℕ)
statement c (st.Root at line ns q) s = in_line line (with_root s (assigned (map key_text ns) (value q (at_state c s)) s.root))
statement c (st.Meta line n q) s = in_line line (with_meta s (meta_assigned n (value q (at_state c s)) s.meta))
statement c (st.Let line n q) s = in_line line (with_vars s (bound n (value q (at_state c s)) s.vars))
statement c (st.Map at n xs) s = Ok s

-- statements in order; one that fails is the last
abbrev pub statements : Where → List Stmt → Result State (List ℕ) → Result State (List ℕ)
statements c ss (Err t) = Err t
statements c [] (Ok s) = Ok s
statements c (x ∷ xs) (Ok s) = statements c xs (statement c x s)

-- a mapping that is one query means an assignment of it to the root
abbrev pub body : Where → Mapping → State → Result State (List ℕ)
body c (m.Query line q) s = in_line line (with_root s (assigned [] (value q (at_state c s)) s.root))
body c (m.Statements ss) s = statements c ss (Ok s)

-- the statements among which a mapping's maps stand
abbrev pub maps_of : Mapping → List Stmt
maps_of (m.Query line q) = []
maps_of (m.Statements ss) = ss

-- the top of a mapping: no named contexts, no variables and no root
abbrev pub top : Mapping → Msg → Spot → Where
top m msg spot = record { this = this_of msg.content; names = []; vars = []; root = Value v.Null; msg = msg; spot = spot; apply = applied (length (maps_of m)) (maps_of m) msg spot }

-- the root at the start: unset, or the document of the message that is handed in
abbrev pub start_root : Option Msg → Root
start_root None = Unset
start_root (Some m) = root_given (document m.content)

-- What statements begin with: no root and the message's metadata, or the document and the metadata of a message that is handed in.
abbrev pub start : Msg → Option Msg → State
start msg root = record { root = start_root root; meta = (unwrap_or root msg).meta; vars = [] }

-- the message with this content and metadata; bytes in the document that are no text have no content
abbrev pub with_content : Msg → Pairs → Option (List ℕ) → Mapped
with_content base meta (Some b) = Changed (record base { content = b; meta = meta })
with_content base meta None = Flagged (codes "root: bad text")

-- What becomes of a message, whose flag stays: a root that is gone drops it, and one that is unset, or was never read, leaves its content.
abbrev pub ended : Msg → Pairs → Root → Mapped
ended base meta Gone = Dropped
ended base meta (Set x) = with_content base meta (content_of x)
ended base meta Unset = Changed (record base { meta = meta })
ended base meta (Unread t) = Changed (record base { meta = meta })

-- what becomes of a message where its statements ran, or one of them failed
abbrev pub finished : Msg → Result State (List ℕ) → Mapped
finished base (Ok s) = ended base s.meta s.root
finished base (Err t) = Flagged t

-- The mapping runs on a message; with another handed in as root it builds on that one, while `this`, `@` and the functions speak of the first.
abbrev pub mapped : Mapping → Msg → Option Msg → Spot → Mapped
mapped m msg root spot = finished (unwrap_or root msg) (body (top m msg spot) m (start msg root))

-- what a mapping that is one query gives
abbrev pub query_in : Mapping → Where → Out
query_in (m.Query line q) c = value q c
query_in (m.Statements ss) c = Nothing

-- whether a mapping that is one query gives true at its top
abbrev pub checks : Mapping → Msg → Spot → Bool
checks m msg spot = passes (query_in m (top m msg spot))

-- a query's text in an interpolation: its string, and `null` where it has none
abbrev pub shown : Out → List ℕ
shown (Value x) = unwrap_or (stringed x) (codes "null")
shown o = codes "null"
