-- What queries give, and how the rest goes on with it.
use Rattle.std.specs.Prelude.{ℕ, ℤ, pos, negsuc, suc, List, ◌++◌, codes, decimal, Bool, true, false, Option, Some, None, unwrap_or, Result, Ok, Err, if◌then◌else◌}
use Rattle.bt_value.specs.Paths.{step}
use Rattle.bt_value.specs.declared.val.Val.{Val, out-Val}
use Rattle.bt_value.specs.declared.val.Val.TheVariants as v
use Rattle.bt_value.specs.declared.val.Val.TheOpen.{Val-F}
use Rattle.bt_value.specs.declared.message.Out.{Out}
use Rattle.bt_value.specs.declared.message.Out.TheVariants.{Value, Failed, Deleted, Nothing}
use Rattle.bt_tree.specs.declared.tree.Key.{Key}
use Rattle.bt_tree.specs.declared.tree.Key.TheVariants as key
use Rattle.bt_kinds.specs.Kinds.{failure, wrong}
use Rattle.bt_kinds.specs.declared.kinds.Kind.{Kind}
use Rattle.bt_kinds.specs.declared.kinds.Kind.TheVariants as k

-- goes on with a value: a failure stands, and what is no value is a wrong type of the name
abbrev pub then_value : List ℕ → Out → (Val → Out) → Out
then_value name (Value x) go = go x
then_value name (Failed t) go = Failed t
then_value name Deleted go = wrong name k.Deleted
then_value name Nothing go = wrong name k.Nothing

-- the part that is asked for of a value that was given; a failure stands, and what is no value is a wrong type too
abbrev pub or_wrong : {A : Type 0} → List ℕ → Result A Kind → Result A Out
or_wrong name (Ok a) = Ok a
or_wrong name (Err kd) = Err (wrong name kd)

-- the same of an outcome
abbrev pub part_of : {A : Type 0} → List ℕ → (Val → Result A Kind) → Out → Result A Out
part_of name part (Value x) = or_wrong name (part x)
part_of name part (Failed t) = Err (Failed t)
part_of name part Deleted = Err (wrong name k.Deleted)
part_of name part Nothing = Err (wrong name k.Nothing)

-- whether it is a failure
abbrev pub is_failed : Out → Bool
is_failed (Failed t) = true
is_failed o = false

-- by the kind of the value
abbrev truth_at : Val-F Val → Option Bool
truth_at (Val-F.Bool b) = Some b
truth_at _ = None

-- whether it is true, of a boolean
unfoldable pub truth : Val → Option Bool
truth x = truth_at (out-Val x)

-- the value true
abbrev pub is_true : Val → Bool
is_true x = unwrap_or (truth x) false

-- the value true, given
abbrev pub passes : Out → Bool
passes (Value x) = is_true x
passes o = false

-- by the kind of the value
abbrev is_null_at : Val-F Val → Bool
is_null_at Val-F.Null = true
is_null_at _ = false

-- whether it is null
unfoldable pub is_null : Val → Bool
is_null x = is_null_at (out-Val x)

-- a value other than null
abbrev pub settles : Out → Bool
settles (Value x) = if is_null x then false else true
settles o = false

-- the value, or null where there is none
abbrev pub or_null : Option Val → Val
or_null o = unwrap_or o v.Null

-- the value one step further by a name, or null where nothing stands there
abbrev pub member_at : List ℕ → Val → Val
member_at n x = or_null (step n (out-Val x))

-- what stands behind `.` and a name
abbrev pub segment : List ℕ → Out → Out
segment n o = then_value (codes "path") o (λ x. Value (member_at n x))

-- the decimal digits of a number, without leading zeros
unfoldable pub digits : ℤ → List ℕ
digits (pos n) = decimal n
digits (negsuc n) = codes "-" ++ decimal (suc n)

-- a key of metadata or a step of a target, as text
abbrev pub key_text : Key → List ℕ
key_text (key.Name n) = n
key_text (key.Quoted n) = n

-- a name alone: the named context where one is in force, and else that member of `this`
abbrev pub name_value : Option Val → List ℕ → Out → Out
name_value (Some x) n this = Value x
name_value None n this = segment n this

-- a variable, which fails where its `let` was skipped
abbrev pub variable : Option Val → List ℕ → Out
variable (Some x) n = Value x
variable None n = failure (codes "$" ++ n) (codes "not set")
