-- The meanings of the parts of queries, as the functions that evaluate them see them.
use Rattle.std.specs.Prelude.{ℕ, List, [], codes, Bool, false, Option, Some, None, Result, Ok, Err, option_map, map, slice_get}
use Rattle.bt_value.specs.Keys.{find}
use Rattle.bt_value.specs.Names.{methods, functions}
use Rattle.bt_kinds.specs.Targets.{string}
use Rattle.bt_value.specs.declared.val.Val.{Val, Str}
use Rattle.bt_value.specs.declared.names.Op.{Op}
use Rattle.bt_value.specs.declared.names.MethodId.{MethodId}
use Rattle.bt_value.specs.declared.message.Out.{Out}
use Rattle.bt_value.specs.declared.message.Out.TheVariants.{Value, Failed, Deleted, Nothing}
use Rattle.bt_tree.specs.Parts.{in_arg, in_member, in_term, in_case, in_branch, in_suffix, in_option}
use Rattle.bt_tree.specs.declared.tree.Query.{Query}
use Rattle.bt_tree.specs.declared.tree.Member.{Member}
use Rattle.bt_tree.specs.declared.tree.Suffix.{Suffix}
use Rattle.bt_tree.specs.declared.tree.Arg.{Arg}
use Rattle.bt_tree.specs.declared.tree.Term.{Term}
use Rattle.bt_tree.specs.declared.tree.Case.{Case}
use Rattle.bt_tree.specs.declared.tree.Branch.{Branch}
use Rattle.bt_tree.specs.declared.tree.MapStmt.{MapStmt}
use Rattle.bt_meaning.specs.Branches as branch
use Rattle.bt_meaning.specs.Contexts.{Where, Sense, element}
use Rattle.bt_meaning.specs.Forms.{form}
use Rattle.bt_meaning.specs.Literals as literal
use Rattle.bt_meaning.specs.Maps as maps
use Rattle.bt_meaning.specs.Methods as method
use Rattle.bt_meaning.specs.Operators as operator
use Rattle.bt_meaning.specs.Outcomes.{then_value, part_of, is_true}
use Rattle.bt_meaning.specs.Value.{sense, value, function_on}

-- an argument, and arguments, by what their queries are
abbrev pub arg_of : Arg Query → Arg Sense
arg_of = in_arg sense

-- each of them
abbrev pub args_of : List (Arg Query) → List (Arg Sense)
args_of xs = map (in_arg sense) xs

-- the argument at a place
abbrev pub arg_at : ℕ → List (Arg Query) → Option (Arg Sense)
arg_at i xs = slice_get (args_of xs) i

-- lists and objects
abbrev pub list_value : List Query → Where → Out
list_value qs c = literal.list_value (map sense qs) c

-- an object literal
abbrev pub object_value : List (Member Query) → Where → Out
object_value xs c = literal.object_value (map (in_member sense) xs) c

-- operators
abbrev pub terms_value : Query → List (Term Query) → Where → Out
terms_value q ts c = operator.terms (map (in_term sense) ts) c (value q c)

-- `&&` and `||`
abbrev pub logic_value : Op → Bool → Query → List Query → Where → Out
logic_value op w q qs c = operator.logic op w (map sense qs) c (value q c)

-- `|`
abbrev pub coal_value : Query → List Query → Where → Out
coal_value q qs c = operator.coal (map sense qs) c (value q c)

-- branches
abbrev pub cases_value : List (Case Query) → Where → Out
cases_value xs c = branch.first_case (map (in_case sense) xs) c

-- `match`
abbrev pub match_value : Option Query → List (Case Query) → Where → Out
match_value q xs c = branch.matched (in_option sense q) (map (in_case sense) xs) c

-- whether a case matches
abbrev pub test_value : Query → Where → Bool
test_value q c = branch.test_passes (sense q).literal c.this (value q c)

-- `if`
abbrev pub if_value : List (Branch Query) → Option Query → Where → Out
if_value bs e c = branch.branches (map (in_branch sense) bs) (in_option sense e) c

-- calls
abbrev pub args_value : List (Arg Query) → Where → Result (List Out) Out
args_value xs c = method.outcomes (args_of xs) c

-- what one argument gives
abbrev pub arg_value : Arg Query → Where → Out
arg_value x c = method.argument (Some (arg_of x)) c

-- what the first gives
abbrev pub first_value : List (Arg Query) → Where → Out
first_value xs c = method.argument (arg_at 0 xs) c

-- the text of the first, where it is a literal text
abbrev pub literal_text : List (Arg Query) → List ℕ
literal_text xs = method.literal_text (arg_at 0 xs)

-- what it gives of an element
abbrev pub element_value : Arg Query → Val → Where → Out
element_value x v c = element (arg_of x) v c

-- a function by its name
abbrev pub call_value : List ℕ → List (Arg Query) → Where → Out
call_value n xs c = function_on (find n functions) (args_value xs c) c

-- what stands behind a head
abbrev pub item_value : Query → List (Suffix Query) → Where → Out
item_value q xs c = method.suffixes (map (in_suffix sense) xs) c (value q c)

-- one suffix
abbrev pub suffix_value : Suffix Query → Where → Out → Out
suffix_value x c o = method.suffix (in_suffix sense x) c o

-- a method by its name
abbrev pub method_value : List ℕ → List (Arg Query) → Where → Out → Out
method_value n xs c o = method.by_method (find n methods) (args_of xs) c o

-- by its id
abbrev pub form_value : MethodId → List (Arg Query) → Where → Out → Out
form_value id xs c o = method.by_form (form id) id (args_of xs) c o

-- `apply`
abbrev pub apply_value : List (Arg Query) → Where → Out → Out
apply_value xs c o = then_value (codes "apply") o (λ x. c.apply (literal_text xs) x)

-- the body of a map
abbrev pub body_value : List MapStmt → Where → Out
body_value xs c = maps.map_steps c xs (Ok maps.fresh)

-- the key that a query gives of a key
abbrev pub new_key : Arg Sense → List ℕ → Where → Result (List ℕ) Out
new_key f n c = part_of (codes "map_each_key") string (element f (Str n) c)

-- whether what a query gave of an element is true; a failure stands
abbrev pub stays : Out → Result Bool Out
stays (Value x) = Ok (is_true x)
stays (Failed t) = Err (Failed t)
stays Deleted = Ok false
stays Nothing = Ok false
