-- Operators between queries and before them.
use Rattle.std.specs.Prelude.{List, [], ◌∷◌, Bool, true, false, Option, Some, None, if◌then◌else◌}
use Rattle.bt_value.specs.declared.names.Op.{Op}
use Rattle.bt_value.specs.declared.names.Op.TheVariants as op
use Rattle.bt_value.specs.declared.names.PrefixOp.{PrefixOp}
use Rattle.bt_value.specs.declared.message.Out.{Out}
use Rattle.bt_value.specs.declared.message.Out.TheVariants.{Value, Failed, Deleted, Nothing}
use Rattle.bt_tree.specs.declared.tree.Term.{Term}
use Rattle.bt_kinds.specs.Kinds.{kind_of, wrong, op_name, prefix_name}
use Rattle.bt_kinds.specs.Operators.{operate, negate}
use Rattle.bt_kinds.specs.declared.kinds.Kind.{Kind}
use Rattle.bt_kinds.specs.declared.kinds.Kind.TheVariants as k
use Rattle.bt_meaning.specs.Contexts.{Where, Sense}
use Rattle.bt_meaning.specs.Outcomes.{then_value, is_failed, truth, settles}

-- the kinds of operands: a number
abbrev pub is_number : Kind → Bool
is_number k.Number = true
is_number _ = false

-- a number, a string or bytes
abbrev pub is_number_or_text : Kind → Bool
is_number_or_text k.Number = true
is_number_or_text k.String = true
is_number_or_text k.Bytes = true
is_number_or_text _ = false

-- a boolean
abbrev pub is_boolean : Kind → Bool
is_boolean k.Bool = true
is_boolean _ = false

-- the kinds of values that an operator takes on its left
abbrev pub takes : Op → Kind → Bool
takes op.Add kd = is_number_or_text kd
takes op.Sub kd = is_number kd
takes op.Mul kd = is_number kd
takes op.Div kd = is_number kd
takes op.Rem kd = is_number kd
takes op.Equal kd = true
takes op.NotEqual kd = true
takes op.Less kd = is_number_or_text kd
takes op.AtMost kd = is_number_or_text kd
takes op.More kd = is_number_or_text kd
takes op.AtLeast kd = is_number_or_text kd
takes op.And kd = is_boolean kd
takes op.Or kd = is_boolean kd

-- a wrong type names the left one's kind, unless the operator takes it
abbrev pub offending : Op → Kind → Kind → Kind
offending o l r = if takes o l then r else l

-- What an operator gives of what its two operands give: the first failure stands, and what is no value is a wrong type.
abbrev pub operands : Op → Out → Out → Out
operands o (Failed t) r = Failed t
operands o (Value x) (Failed t) = Failed t
operands o (Value x) (Value y) = operate o x y
operands o (Value x) Deleted = wrong (op_name o) (offending o (kind_of x) k.Deleted)
operands o (Value x) Nothing = wrong (op_name o) (offending o (kind_of x) k.Nothing)
operands o Deleted (Failed t) = Failed t
operands o Deleted r = wrong (op_name o) k.Deleted
operands o Nothing (Failed t) = Failed t
operands o Nothing r = wrong (op_name o) k.Nothing

-- operands one after another, from the left, until one fails
abbrev pub terms : List (Term Sense) → Where → Out → Out
terms [] c got = got
terms (t ∷ ts) c got = if is_failed got then got else terms ts c (operands t.op got (t.query.at c))

-- whether it is the boolean w
abbrev pub is_bool : Bool → Option Bool → Bool
is_bool true (Some b) = b
is_bool false (Some true) = false
is_bool false (Some false) = true
is_bool w None = false

-- whether what stands on the left decides: a failure, or the boolean w, which is false for `&&` and true for `||`
abbrev pub decides : Bool → Out → Bool
decides w (Failed t) = true
decides w (Value x) = is_bool w (truth x)
decides w o = false

-- `&&` and `||`, from the left; what stands behind the side that decides isn't evaluated
abbrev pub logic : Op → Bool → List Sense → Where → Out → Out
logic o w [] c got = got
logic o w (q ∷ qs) c got = if decides w got then got else logic o w qs c (operands o got (q.at c))

-- `|`: the first that is a value other than null, so that failures are passed over too, and else the last
abbrev pub coal : List Sense → Where → Out → Out
coal [] c got = got
coal (q ∷ qs) c got = if settles got then got else coal qs c (q.at c)

-- an operator before its operand
abbrev pub prefixed : PrefixOp → Out → Out
prefixed o x = then_value (prefix_name o) x (negate o)
