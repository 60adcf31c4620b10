-- Where queries are evaluated.
use Rattle.std.specs.Prelude.{ℕ, List, ◌∷◌, Option}
use Rattle.bt_value.specs.declared.val.Val.{Val}
use Rattle.bt_value.specs.declared.message.Msg.{Msg}
use Rattle.bt_value.specs.declared.message.Out.{Out}
use Rattle.bt_value.specs.declared.message.Out.TheVariants.{Value}
use Rattle.bt_tree.specs.declared.tree.Arg.{Arg}
use Rattle.bt_tree.specs.declared.tree.Arg.TheVariants as a
use Rattle.bt_meaning.specs.declared.message.Spot.{Spot}

-- names and their values
abbrev pub Pairs : Type 0
Pairs = List (List ℕ × Val)

-- Where a query is evaluated: what `this` gives; the named contexts in force, the last first; the variables; what `root` gives;
-- the message as it came in; its place and moment; and what the map of a name gives of a value.
pub record Where : Type 0 where
  pub this : Out
  pub names : Pairs
  pub vars : Pairs
  pub root : Out
  pub msg : Msg
  pub spot : Spot
  pub apply : List ℕ → Val → Out

-- What a query is to what stands around it: the value that a case compares by, where it is a literal; the text, where it is a
-- literal text, and else no text; and what it gives in a context.
pub record Sense : Type 0 where
  pub literal : Option Val
  pub text : List ℕ
  pub at : Where → Out

-- the same with another `this`
abbrev pub with_this : Out → Where → Where
with_this o c = record c { this = o }

-- the same with one named context more, and with the same `this`
abbrev pub with_name : List ℕ → Val → Where → Where
with_name n x c = record c { names = (n, x) ∷ c.names }

-- What an argument gives of an element: a lambda names the element and leaves `this`, and a query in its place has it as `this`.
abbrev pub element : Arg Sense → Val → Where → Out
element (a.Query q) x c = q.at (with_this (Value x) c)
element (a.Lambda n q) x c = q.at (with_name n x c)
