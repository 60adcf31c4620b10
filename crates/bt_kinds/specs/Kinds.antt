-- Kinds of values, the texts of failures, and the operators as they are written.
use Rattle.std.specs.Prelude.{ℕ, List, ◌++◌, codes, Result, Ok, Err}
use Rattle.bt_value.specs.declared.names.PrefixOp.{PrefixOp}
use Rattle.bt_value.specs.declared.names.PrefixOp.TheVariants as pre
use Rattle.bt_value.specs.declared.val.Val.{Val, out-Val}
use Rattle.bt_value.specs.declared.val.Val.TheOpen.{Val-F}
use Rattle.bt_value.specs.declared.names.Op.{Op}
use Rattle.bt_value.specs.declared.names.Op.TheVariants as op
use Rattle.bt_value.specs.declared.message.Out.{Out}
use Rattle.bt_value.specs.declared.message.Out.TheVariants.{Value, Failed, Deleted}
use Rattle.bt_kinds.specs.declared.kinds.Kind.{Kind}
use Rattle.bt_kinds.specs.declared.kinds.Kind.TheVariants as k

-- the kind of a value by its form
abbrev kind_at : Val-F Val → Kind
kind_at Val-F.Null = k.Null
kind_at (Val-F.Bool b) = k.Bool
kind_at (Val-F.Int n) = k.Number
kind_at (Val-F.Str s) = k.String
kind_at (Val-F.Bytes s) = k.Bytes
kind_at (Val-F.Arr vs) = k.Array
kind_at (Val-F.Obj ms) = k.Object

-- the kind of a value
unfoldable pub kind_of : Val → Kind
kind_of v = kind_at (out-Val v)

-- the kind of what a query gives; no text names that of a failure, whose own text stands instead
unfoldable pub kind_of_out : Out → Kind
kind_of_out (Value v) = kind_of v
kind_of_out Deleted = k.Deleted
kind_of_out _ = k.Nothing

-- the name of a kind in a failure's text
abbrev pub kind_name : Kind → List ℕ
kind_name k.Null = codes "null"
kind_name k.Bool = codes "bool"
kind_name k.Number = codes "number"
kind_name k.String = codes "string"
kind_name k.Bytes = codes "bytes"
kind_name k.Array = codes "array"
kind_name k.Object = codes "object"
kind_name k.Deleted = codes "deleted"
kind_name k.Nothing = codes "nothing"

-- a failure's text is `NAME: REASON`
unfoldable pub failure : List ℕ → List ℕ → Out
failure name reason = Failed (name ++ codes ": " ++ reason)

-- the failure of a value that is of a wrong kind
unfoldable pub wrong : List ℕ → Kind → Out
wrong name kd = Failed (name ++ codes ": wrong type " ++ kind_name kd)

-- the failure of a text that cannot be read as asked
abbrev pub bad_text : List ℕ → Out
bad_text name = failure name (codes "bad text")

-- the failure of a number past its bounds
abbrev pub out_of_range : List ℕ → Out
out_of_range name = failure name (codes "out of range")

-- goes on with what a value holds, where it is of the right kind
abbrev pub on : {A : Type 0} → List ℕ → Result A Kind → (A → Out) → Out
on name (Ok a) f = f a
on name (Err kd) f = wrong name kd

-- an operator as it is written
abbrev pub op_name : Op → List ℕ
op_name op.Add = codes "+"
op_name op.Sub = codes "-"
op_name op.Mul = codes "*"
op_name op.Div = codes "/"
op_name op.Rem = codes "%"
op_name op.Equal = codes "=="
op_name op.NotEqual = codes "!="
op_name op.Less = codes "<"
op_name op.AtMost = codes "<="
op_name op.More = codes ">"
op_name op.AtLeast = codes ">="
op_name op.And = codes "&&"
op_name op.Or = codes "||"

-- an operator before its operand as it is written
abbrev pub prefix_name : PrefixOp → List ℕ
prefix_name pre.Not = codes "!"
prefix_name pre.Minus = codes "-"
