-- What the operators give of two values, and those before an operand of one.
use Rattle.std.specs.Prelude.{ℤ, pos, negsuc, ◌+ℤ◌, ◌-ℤ◌, ◌*ℤ◌, neg_ℤ, int_div, int_rem, ◌++◌, codes, Bool, false, not, ◌&&◌, ◌||◌, ◌==◌, Result, Ok, Err, if◌then◌else◌}
use Rattle.std.specs.Ordering.{nat_cmp, int_cmp, is_lt, is_le, is_gt, is_ge, is_eq}
use Rattle.std.specs.Cmp.Lexicographic.{slice_cmp}
use Rattle.std.specs.declared.cmp.Ordering.{Ordering}
use Rattle.bt_value.specs.Order.{equals}
use Rattle.bt_value.specs.declared.val.Val.{Val}
use Rattle.bt_value.specs.declared.val.Val.TheVariants as v
use Rattle.bt_value.specs.declared.names.Op.{Op}
use Rattle.bt_value.specs.declared.names.Op.TheVariants as op
use Rattle.bt_value.specs.declared.names.PrefixOp.{PrefixOp}
use Rattle.bt_value.specs.declared.names.PrefixOp.TheVariants as pre
use Rattle.bt_value.specs.declared.message.Out.{Out}
use Rattle.bt_value.specs.declared.message.Out.TheVariants.{Value}
use Rattle.bt_kinds.specs.Kinds.{on, failure, op_name}
use Rattle.bt_kinds.specs.Limits.{int}
use Rattle.bt_kinds.specs.Targets.{two, boolean, number, text, bytes_of}
use Rattle.bt_kinds.specs.declared.kinds.Kind.{Kind}
use Rattle.bt_kinds.specs.declared.targets.Chunk.{Chunk}
use Rattle.bt_kinds.specs.declared.targets.Chunk.TheVariants as c
use Rattle.bt_kinds.specs.declared.operators.Operands.{Operands}
use Rattle.bt_kinds.specs.declared.operators.Operands.TheVariants as pr

-- two numbers as operands
abbrev pub numbers_of : Result (ℤ × ℤ) Kind → Result Operands Kind
numbers_of (Ok p) = Ok (pr.Numbers p.0 p.1)
numbers_of (Err kd) = Err kd

-- two texts as operands
abbrev pub texts_of : Result (Chunk × Chunk) Kind → Result Operands Kind
texts_of (Ok p) = Ok (pr.Texts p.0 p.1)
texts_of (Err kd) = Err kd

-- a left side that is a number asks for two numbers, and any other for two texts
abbrev pub by_left : Result ℤ Kind → Result (ℤ × ℤ) Kind → Result (Chunk × Chunk) Kind → Result Operands Kind
by_left (Ok m) ms ts = numbers_of ms
by_left (Err kd) ms ts = texts_of ts

-- two numbers or two texts, or the left one's kind, unless the operator takes the left one: then the right one's
abbrev pub pair : Val → Val → Result Operands Kind
pair x y = by_left (number x) (two (number x) (number y)) (two (text x) (text y))

-- two texts as one: a string where both are
abbrev pub joined : Chunk → Chunk → Val
joined (c.Str s) (c.Str t) = v.Str (s ++ t)
joined (c.Str s) (c.Bytes t) = v.Bytes (s ++ t)
joined (c.Bytes s) t = v.Bytes (s ++ bytes_of t)

-- whether a number is 0
abbrev pub is_zero : ℤ → Bool
is_zero (pos n) = n == 0
is_zero (negsuc n) = false

-- the exact quotient: a zero right side is `zero divisor`, and one that leaves a rest `not exact`
abbrev pub quotient : ℤ → ℤ → Out
quotient m n = if is_zero n then failure (codes "/") (codes "zero divisor") else
    if is_zero (int_rem m n) then int (codes "/") (int_div m n) else failure (codes "/") (codes "not exact")

-- the rest of a division, with the sign of the left
abbrev pub remainder : ℤ → ℤ → Out
remainder m n = if is_zero n then failure (codes "%") (codes "zero divisor") else Value (v.Int (int_rem m n))

-- whether an order of the left to the right side is one that `<`, `<=`, `>` or `>=` asks for
abbrev pub passes_order : Op → Ordering → Bool
passes_order op.Less o = is_lt o
passes_order op.AtMost o = is_le o
passes_order op.More o = is_gt o
passes_order op.AtLeast o = is_ge o
passes_order _ o = is_eq o

-- numbers by value, and texts by bytes
abbrev pub pair_cmp : Operands → Ordering
pair_cmp (pr.Numbers m n) = int_cmp m n
pair_cmp (pr.Texts s t) = slice_cmp nat_cmp (bytes_of s) (bytes_of t)

-- `<`, `<=`, `>` and `>=`: of two numbers or two texts whether they stand in that order, and else a wrong type
abbrev pub ordered : Op → Val → Val → Out
ordered o x y = on (op_name o) (pair x y) (λ p. Value (v.Bool (passes_order o (pair_cmp p))))

-- the sum of two numbers, or two texts joined
abbrev pub plus : Operands → Out
plus (pr.Numbers m n) = int (codes "+") (m +ℤ n)
plus (pr.Texts s t) = Value (joined s t)

-- `+`: of two numbers or two texts
abbrev pub added : Val → Val → Out
added x y = on (codes "+") (pair x y) plus

-- `-`, `*`, `/` and `%` of two numbers
abbrev pub arithmetic : Op → ℤ → ℤ → Out
arithmetic op.Sub m n = int (codes "-") (m -ℤ n)
arithmetic op.Mul m n = int (codes "*") (m *ℤ n)
arithmetic op.Div m n = quotient m n
arithmetic _ m n = remainder m n

-- an operator of two numbers, and else a wrong type
abbrev pub on_numbers : Op → Val → Val → Out
on_numbers o x y = on (op_name o) (two (number x) (number y)) (λ p. arithmetic o p.0 p.1)

-- an operator of two booleans, and else a wrong type
abbrev pub on_booleans : Op → Val → Val → (Bool → Bool → Bool) → Out
on_booleans o x y f = on (op_name o) (two (boolean x) (boolean y)) (λ p. Value (v.Bool (f p.0 p.1)))

-- an operator between two values
unfoldable pub operate : Op → Val → Val → Out
operate op.Add x y = added x y
operate op.Sub x y = on_numbers op.Sub x y
operate op.Mul x y = on_numbers op.Mul x y
operate op.Div x y = on_numbers op.Div x y
operate op.Rem x y = on_numbers op.Rem x y
operate op.Equal x y = Value (v.Bool (equals x y))
operate op.NotEqual x y = Value (v.Bool (not (equals x y)))
operate op.Less x y = ordered op.Less x y
operate op.AtMost x y = ordered op.AtMost x y
operate op.More x y = ordered op.More x y
operate op.AtLeast x y = ordered op.AtLeast x y
operate op.And x y = on_booleans op.And x y ◌&&◌
operate op.Or x y = on_booleans op.Or x y ◌||◌

-- an operator before its operand: `!` of a boolean, `-` of a number
unfoldable pub negate : PrefixOp → Val → Out
negate pre.Not x = on (codes "!") (boolean x) (λ b. Value (v.Bool (not b)))
negate pre.Minus x = on (codes "-") (number x) (λ n. int (codes "-") (neg_ℤ n))
