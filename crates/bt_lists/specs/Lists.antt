-- The methods on lists, and those on values of any kind.
use Rattle.std.specs.Prelude.{ℕ, ℤ, pos, negsuc, suc, ◌-◌, List, [], ◌∷◌, ◌++◌, length, slice_get, codes, ◌==◌, nat_lt, Option, Some, None, Result, Ok, Err, if◌then◌else◌}
use Rattle.std.specs.List.{flat_map}
use Rattle.bt_value.specs.declared.val.Val.{Val, out-Val}
use Rattle.bt_value.specs.declared.val.Val.TheVariants as v
use Rattle.bt_value.specs.declared.val.Val.TheOpen.{Val-F}
use Rattle.bt_value.specs.declared.message.Out.{Out}
use Rattle.bt_value.specs.declared.message.Out.TheVariants.{Value}
use Rattle.bt_kinds.specs.Limits.{limited}
use Rattle.bt_kinds.specs.Kinds.{on, failure, wrong, out_of_range, kind_of, kind_name}
use Rattle.bt_kinds.specs.Moving.{put}
use Rattle.bt_kinds.specs.Targets.{two, both, number, array}
use Rattle.bt_kinds.specs.declared.kinds.Kind.{Kind}
use Rattle.bt_kinds.specs.declared.kinds.Kind.TheVariants as k

-- how much a value by its form holds, or the kind that is given
abbrev size_at : Kind → Val-F Val → Result ℕ Kind
size_at kd (Val-F.Str s) = Ok (length s)
size_at kd (Val-F.Bytes b) = Ok (length b)
size_at kd (Val-F.Arr xs) = Ok (length xs)
size_at kd (Val-F.Obj ms) = Ok (length ms)
size_at kd _ = Err kd

-- bytes, elements or members
unfoldable pub size : Val → Result ℕ Kind
size x = size_at (kind_of x) (out-Val x)

-- `length()`: how many bytes, elements or members it has
abbrev pub length_of : Val → Out
length_of x = on (codes "length") (size x) (λ n. Value (v.Int (pos n)))

-- `not_empty()`: the value, or `empty` where it holds nothing
abbrev pub not_empty : Val → Out
not_empty x = on (codes "not_empty") (size x) (λ n. if n == 0 then failure (codes "not_empty") (codes "empty") else Value x)

-- `type()`: the kind's name
abbrev pub type : Val → Out
type x = Value (v.Str (kind_name (kind_of x)))

-- the value, unless its kind is null
abbrev unless_null : Val → Kind → Out
unless_null x k.Null = wrong (codes "not_null") k.Null
unless_null x _ = Value x

-- `not_null()`: the value; null is a wrong type
unfoldable pub not_null : Val → Out
not_null x = unless_null x (kind_of x)

-- `append(v, ..)`: the list with the values at the end, or `too deep`
abbrev pub append : Val → List Val → Out
append x ys = on (codes "append") (array x) (λ xs. limited (codes "append") (v.Arr (xs ++ ys)))

-- the elements of each of some lists, or the kind of the first value that is none
abbrev pub arrays : List Val → Result (List (List Val)) Kind
arrays [] = Ok []
arrays (x ∷ xs) = both (array x) (arrays xs)

-- with lists at the end of one
abbrev pub after_all : List Val → Result (List (List Val)) Kind → Result (List Val) Kind
after_all xs (Ok yss) = Ok (xs ++ flat_map (λ ys. ys) yss)
after_all xs (Err kd) = Err kd

-- `concat(a, ..)`: the list with the elements of the lists at the end, or `too deep`
abbrev pub concat_all : Val → List Val → Out
concat_all x ys = on (codes "concat") (array x) (λ xs. on (codes "concat") (after_all xs (arrays ys)) (λ zs. limited (codes "concat") (v.Arr zs)))

-- a value by its form, opened out where it is a list
abbrev opened_at : Val → Val-F Val → List Val
opened_at x (Val-F.Arr xs) = xs
opened_at x _ = x ∷ []

-- a list's elements, and any other value alone
unfoldable pub opened : Val → List Val
opened x = opened_at x (out-Val x)

-- `flatten()`: the list with the lists among its elements opened out once
abbrev pub flatten : Val → Out
flatten x = on (codes "flatten") (array x) (λ xs. Value (v.Arr (flat_map opened xs)))

-- an element with its place, as an object with `index` and `value`
abbrev pub entry : ℕ → Val → Val
entry i x = v.Obj (put (codes "value") x (put (codes "index") (v.Int (pos i)) []))

-- each element with its place, from a number on
abbrev pub numbered : ℕ → List Val → List Val
numbered i [] = []
numbered i (x ∷ xs) = entry i x ∷ numbered (suc i) xs

-- `enumerated()`: the list of each element with its place from 0, or `too deep`
abbrev pub enumerated : Val → Out
enumerated x = on (codes "enumerated") (array x) (λ xs. limited (codes "enumerated") (v.Arr (numbered 0 xs)))

-- a place from 0, or from the end where it is negative
abbrev pub place_in : ℕ → ℤ → Option ℕ
place_in n (pos i) = if nat_lt i n then Some i else None
place_in n (negsuc i) = if nat_lt i n then Some (n - suc i) else None

-- the element at a place, where the place is in the list
abbrev pub element_at : List Val → Option ℕ → Option Val
element_at xs None = None
element_at xs (Some i) = slice_get xs i

-- the value that is there, or the failure `out of range`
abbrev pub or_range : List ℕ → Option Val → Out
or_range name None = out_of_range name
or_range name (Some x) = Value x

-- `index(i)`: the element at the place, or `out of range`
abbrev pub index : Val → Val → Out
index x i = on (codes "index") (two (array x) (number i)) (λ p. or_range (codes "index") (element_at p.0 (place_in (length p.0) p.1)))
