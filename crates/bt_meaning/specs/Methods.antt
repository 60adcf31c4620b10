-- What methods give, by how they take their target and arguments.
use Rattle.std.specs.Prelude.{ℕ, List, [], ◌∷◌, codes, slice_get, Option, Some, None, Result, Ok, Err, if◌then◌else◌}
use Rattle.bt_value.specs.Keys.{find}
use Rattle.bt_value.specs.Names.{methods}
use Rattle.bt_value.specs.declared.val.Val.{Val}
use Rattle.bt_value.specs.declared.names.MethodId.{MethodId}
use Rattle.bt_value.specs.declared.message.Out.{Out}
use Rattle.bt_value.specs.declared.message.Out.TheVariants.{Value, Failed, Deleted, Nothing}
use Rattle.bt_tree.specs.declared.tree.Arg.{Arg}
use Rattle.bt_tree.specs.declared.tree.Arg.TheVariants as a
use Rattle.bt_tree.specs.declared.tree.Suffix.{Suffix}
use Rattle.bt_tree.specs.declared.tree.Suffix.TheVariants as s
use Rattle.bt_meaning.specs.Contexts.{Where, Sense, element}
use Rattle.bt_meaning.specs.Outcomes.{then_value, is_failed, settles, segment, digits}
use Rattle.bt_meaning.specs.Literals.{one_more}
use Rattle.bt_meaning.specs.Lambdas as l
use Rattle.bt_methods.specs.Outcomes.{called}
use Rattle.bt_meaning.specs.Forms.{form, each_name}
use Rattle.bt_meaning.specs.declared.forms.Form.{Form}
use Rattle.bt_meaning.specs.declared.forms.Form.TheVariants as fo

-- what an argument gives; a missing one and a lambda in its place count as Nothing
abbrev pub argument : Option (Arg Sense) → Where → Out
argument (Some (a.Query q)) c = q.at c
argument (Some (a.Lambda n q)) c = Nothing
argument None c = Nothing

-- an argument that is written as a text, and else no text
abbrev pub literal_text : Option (Arg Sense) → List ℕ
literal_text (Some (a.Query q)) = q.text
literal_text (Some (a.Lambda n q)) = []
literal_text None = []

-- an argument's outcome, which may be no value
abbrev pub given : Out → Result (Option Out) Out
given (Value x) = Ok (Some (Value x))
given (Failed t) = Err (Failed t)
given Deleted = Ok (Some Deleted)
given Nothing = Ok (Some Nothing)

-- what the arguments give, from the left, up to one that fails
abbrev pub outcomes : List (Arg Sense) → Where → Result (List Out) Out
outcomes [] c = Ok []
outcomes (x ∷ xs) c = one_more (given (argument (Some x) c)) (outcomes xs c)

-- `catch`: the argument where the target failed
abbrev pub caught : Out → Out → Out
caught o q = if is_failed o then q else o

-- `or`: the argument where the target is no value, or null
abbrev pub ored : Out → Out → Out
ored o q = if settles o then o else q

-- the method of the arguments' outcomes; a failure among them stands
abbrev pub called_on : MethodId → Out → Result (List Out) Out → Out
called_on id target (Ok os) = called id target os
called_on id target (Err o) = o

-- a method that takes values alone: the target and the arguments are evaluated first, from the left, and the first failure stands
abbrev pub plain : MethodId → Out → Result (List Out) Out → Out
plain id o os = if is_failed o then o else called_on id o os

-- a query on each element of a target; a missing one gives Nothing
abbrev pub with_query : List ℕ → Out → Option (Arg Sense) → (Arg Sense → Val → Out) → Out
with_query name o None go = Nothing
with_query name o (Some f) go = then_value name o (go f)

-- `fold`, whose query is its second argument
abbrev pub fold_with : Out → Out → Option (Arg Sense) → Where → Out
fold_with o start None c = Nothing
fold_with o start (Some f) c = l.fold_of o start f c

-- one case for each form
abbrev pub by_form : Form → MethodId → List (Arg Sense) → Where → Out → Out
by_form fo.Catch id args c o = caught o (argument (slice_get args 0) c)
by_form fo.Or id args c o = ored o (argument (slice_get args 0) c)
by_form fo.Apply id args c o = then_value (codes "apply") o (λ x. c.apply (literal_text (slice_get args 0)) x)
by_form (fo.Each e) id args c o = with_query (each_name e) o (slice_get args 0) (λ f x. l.each_of e f c x)
by_form fo.Fold id args c o = fold_with o (argument (slice_get args 0) c) (slice_get args 1) c
by_form fo.Plain id args c o = plain id o (outcomes args c)

-- a method by its name; a name that is none gives Nothing
abbrev pub by_method : Option MethodId → List (Arg Sense) → Where → Out → Out
by_method None args c o = Nothing
by_method (Some id) args c o = by_form (form id) id args c o

-- what stands behind a head: a step, a method, or a query in parentheses with what is before it as its element
abbrev pub suffix : Suffix Sense → Where → Out → Out
suffix (s.Name n) c o = segment n o
suffix (s.Quoted n) c o = segment n o
suffix (s.Int z) c o = segment (digits z) o
suffix (s.Method w args) c o = by_method (find w.text methods) args c o
suffix (s.Within f) c o = then_value (codes "()") o (λ x. element f x c)

-- one suffix after another
abbrev pub suffixes : List (Suffix Sense) → Where → Out → Out
suffixes [] c o = o
suffixes (x ∷ xs) c o = suffixes xs c (suffix x c o)
