-- What maps give of a value.
use Rattle.std.specs.Prelude.{ℕ, zero, suc, List, [], ◌∷◌, map, Option, Some, None, Result, Ok, Err, if◌then◌else◌}
use Rattle.std.specs.Str.{bytes_eq}
use Rattle.bt_value.specs.declared.val.Val.{Val}
use Rattle.bt_value.specs.declared.val.Val.TheVariants as v
use Rattle.bt_value.specs.declared.message.Msg.{Msg}
use Rattle.bt_value.specs.declared.message.Out.{Out}
use Rattle.bt_value.specs.declared.message.Out.TheVariants.{Value, Failed, Deleted, Nothing}
use Rattle.bt_tree.specs.declared.tree.MapStmt.{MapStmt}
use Rattle.bt_tree.specs.declared.tree.MapStmt.TheVariants as ms
use Rattle.bt_tree.specs.declared.tree.Stmt.{Stmt}
use Rattle.bt_tree.specs.declared.tree.Stmt.TheVariants as st
use Rattle.bt_meaning.specs.Contexts.{Where}
use Rattle.bt_meaning.specs.Outcomes.{key_text}
use Rattle.bt_meaning.specs.Value.{value}
use Rattle.bt_meaning.specs.Statements.{at_state, assigned, bound, with_root, with_vars}
use Rattle.bt_meaning.specs.declared.message.Spot.{Spot}
use Rattle.bt_meaning.specs.declared.state.Root.{Root}
use Rattle.bt_meaning.specs.declared.state.Root.TheVariants.{Unset, Gone, Set, Unread}
use Rattle.bt_meaning.specs.declared.state.State.{State}

-- one statement of a map's body
abbrev pub map_step : Where → MapStmt → State → Result State (List ℕ)
map_step c (ms.Root at ns q) s = with_root s (assigned (map key_text ns) (value q (at_state c s)) s.root)
map_step c (ms.Let n q) s = with_vars s (bound n (value q (at_state c s)) s.vars)

-- what a root is as a map's result: Nothing where it is unset, and Deleted where it is gone
abbrev pub root_out : Root → Out
root_out Unset = Nothing
root_out Gone = Deleted
root_out (Set x) = Value x
root_out (Unread t) = Failed t

-- the statements of a body in order; one that fails gives its text alone, without a line
abbrev pub map_steps : Where → List MapStmt → Result State (List ℕ) → Out
map_steps c xs (Err t) = Failed t
map_steps c [] (Ok s) = root_out s.root
map_steps c (x ∷ xs) (Ok s) = map_steps c xs (map_step c x s)

-- a body begins without a root, without metadata and without variables
abbrev pub fresh : State
fresh = record { root = Unset; meta = []; vars = [] }

-- the body of the map of a name
abbrev pub map_of : List ℕ → List Stmt → Option (List MapStmt)
map_of n [] = None
map_of n (st.Map at w xs ∷ ss) = if bytes_eq n w then Some xs else map_of n ss
map_of n (_ ∷ ss) = map_of n ss

-- a body in its context; a name that is no map's gives Nothing
abbrev pub run_map : Option (List MapStmt) → Where → Out
run_map None c = Nothing
run_map (Some xs) c = map_steps c xs (Ok fresh)

-- What the map of a name gives of a value, which is its `this`: it has variables and a root of its own, and no named context.
-- Maps nest at most so deep; maps that don't call each other in a cycle nest no deeper than there are statements.
abbrev pub applied : ℕ → List Stmt → Msg → Spot → List ℕ → Val → Out
applied zero ss msg spot n x = Nothing
applied (suc i) ss msg spot n x = run_map (map_of n ss) (record { this = Value x; names = []; vars = []; root = Value v.Null; msg = msg; spot = spot; apply = applied i ss msg spot })
