-- What a query gives in a context: a value, a failure with its text, Deleted or Nothing.
use Rattle.std.specs.Prelude.{ℕ, List, [], codes, true, false, Option, Some, None, Result, Ok, Err}
use Rattle.bt_value.specs.Keys.{find}
use Rattle.bt_value.specs.Names.{functions}
use Rattle.bt_value.specs.declared.val.Val.TheVariants as v
use Rattle.bt_value.specs.declared.names.FunctionId.{FunctionId}
use Rattle.bt_value.specs.declared.names.Op.TheVariants as op
use Rattle.bt_value.specs.declared.message.Out.{Out}
use Rattle.bt_value.specs.declared.message.Out.TheVariants.{Value, Nothing}
use Rattle.bt_tree.specs.declared.tree.Query.{Query, fold-Query}
use Rattle.bt_tree.specs.declared.tree.Query.TheOpen.{Query-F}
use Rattle.bt_kinds.specs.Limits.{limited}
use Rattle.bt_meaning.specs.Contexts.{Where, Sense}
use Rattle.bt_meaning.specs.Outcomes.{key_text, or_null, name_value, variable}
use Rattle.bt_meaning.specs.Operators.{operands, terms, logic, coal, prefixed}
use Rattle.bt_meaning.specs.Branches.{literal_of, matched, branches}
use Rattle.bt_meaning.specs.Literals.{list_value, object_value}
use Rattle.bt_meaning.specs.Functions.{function}
use Rattle.bt_meaning.specs.Methods.{outcomes, suffixes}

-- a function by its name; a name that is none gives Nothing
abbrev pub function_on : Option FunctionId → Result (List Out) Out → Where → Out
function_on None os c = Nothing
function_on (Some id) (Err o) c = o
function_on (Some id) (Ok os) c = function id os c.msg c.spot

-- the text of a literal text, and else no text
abbrev pub written : Query-F Sense → List ℕ
written (Query-F.Quoted w) = w.text
written _ = []

-- one case for each form
abbrev pub value_of : Query-F Sense → Where → Out
value_of Query-F.Null c = Value v.Null
value_of Query-F.True c = Value (v.Bool true)
value_of Query-F.False c = Value (v.Bool false)
value_of (Query-F.Int z) c = Value (v.Int z)
value_of (Query-F.Quoted w) c = Value (v.Str w.text)
value_of Query-F.This c = c.this
value_of (Query-F.Root at) c = c.root
value_of (Query-F.Name w) c = name_value (find w.text c.names) w.text c.this
value_of (Query-F.Var w) c = variable (find w.text c.vars) w.text
value_of Query-F.Metadata c = limited (codes "@") (v.Obj c.msg.meta)
value_of (Query-F.Meta n) c = Value (or_null (find (key_text n) c.msg.meta))
value_of (Query-F.Call w args) c = function_on (find w.text functions) (outcomes args c) c
value_of (Query-F.Paren q) c = q.at c
value_of (Query-F.List qs) c = list_value qs c
value_of (Query-F.Object xs) c = object_value xs c
value_of (Query-F.Item q xs) c = suffixes xs c (q.at c)
value_of (Query-F.Prefix o q) c = prefixed o (q.at c)
value_of (Query-F.Product q ts) c = terms ts c (q.at c)
value_of (Query-F.Sum q ts) c = terms ts c (q.at c)
value_of (Query-F.Compare q o r) c = operands o (q.at c) (r.at c)
value_of (Query-F.And q qs) c = logic op.And false qs c (q.at c)
value_of (Query-F.Or q qs) c = logic op.Or true qs c (q.at c)
value_of (Query-F.Coalesce q qs) c = coal qs c (q.at c)
value_of (Query-F.Match q xs) c = matched q xs c
value_of (Query-F.If bs e) c = branches bs e c

-- a query by what its parts are
abbrev pub sense_of : Query-F Sense → Sense
sense_of q = record { literal = literal_of q; text = written q; at = value_of q }

-- a query by its parts, from the innermost on
abbrev pub sense : Query → Sense
sense = fold-Query Sense sense_of

-- what a query gives
abbrev pub value : Query → Where → Out
value q = (sense q).at
