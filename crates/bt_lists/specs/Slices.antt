-- Parts of texts and lists, and what is in them.
use Rattle.std.specs.Prelude.{ℕ, ℤ, pos, negsuc, suc, ◌-◌, List, length, slice_index, slice_range, codes, Bool, not, ◌&&◌, nat_lt, nat_le, Option, Some, None, is_some, Result, Ok, Err, if◌then◌else◌}
use Rattle.std.specs.List.{list_any}
use Rattle.memchr.specs.Find.{matches, first_of}
use Rattle.bt_value.specs.declared.val.Val.{Val, out-Val}
use Rattle.bt_value.specs.declared.val.Val.TheVariants as v
use Rattle.bt_value.specs.declared.val.Val.TheOpen.{Val-F}
use Rattle.bt_value.specs.declared.message.Out.{Out}
use Rattle.bt_value.specs.declared.message.Out.TheVariants.{Value}
use Rattle.bt_kinds.specs.Kinds.{on, kind_of, bad_text, out_of_range}
use Rattle.bt_value.specs.Order.{equals}
use Rattle.bt_kinds.specs.Targets.{two, number, text, bytes_of}
use Rattle.bt_kinds.specs.declared.kinds.Kind.{Kind}
use Rattle.bt_lists.specs.declared.slices.Row.{Row}
use Rattle.bt_lists.specs.declared.slices.Row.TheVariants as r

-- the text or list of a value by its form, or the kind that is given
abbrev row_at : Kind → Val-F Val → Result Row Kind
row_at kd (Val-F.Str s) = Ok (r.Str s)
row_at kd (Val-F.Bytes b) = Ok (r.Bytes b)
row_at kd (Val-F.Arr xs) = Ok (r.Arr xs)
row_at kd _ = Err kd

-- a text or a list
unfoldable pub row : Val → Result Row Kind
row x = row_at (kind_of x) (out-Val x)

-- how many bytes or elements it has
abbrev pub size_of : Row → ℕ
size_of (r.Str s) = length s
size_of (r.Bytes b) = length b
size_of (r.Arr xs) = length xs

-- whether a place stands before or after whole characters
abbrev pub is_boundary : List ℕ → ℕ → Bool
is_boundary s i = nat_le i (length s) && not (nat_lt i (length s) && (nat_le 128 (slice_index s i) && nat_lt (slice_index s i) 192))

-- what stands from one place to before another; `bad text` where a place is within a character of a string
unfoldable pub cut : Row → ℕ → ℕ → Out
cut (r.Str s) l h = if is_boundary s l && is_boundary s h then Value (v.Str (slice_range s l h)) else bad_text (codes "slice")
cut (r.Bytes b) l h = Value (v.Bytes (slice_range b l h))
cut (r.Arr xs) l h = Value (v.Arr (slice_range xs l h))

-- a place, where a negative one counts from the end
abbrev pub from_end : ℕ → ℤ → Option ℕ
from_end n (pos i) = Some i
from_end n (negsuc i) = if nat_lt i n then Some (n - suc i) else None

-- the part between two places, or `out of range` unless `0 <= l <= h <= length`
abbrev pub both_ends : Row → Option ℕ → Option ℕ → Out
both_ends c None h = out_of_range (codes "slice")
both_ends c (Some l) None = out_of_range (codes "slice")
both_ends c (Some l) (Some h) = if nat_le l h && nat_le h (size_of c) then cut c l h else out_of_range (codes "slice")

-- the part between two places that may count from the end, to the end where the second is left out
abbrev pub sliced : Row → ℤ → Option ℤ → Out
sliced c l None = both_ends c (from_end (size_of c) l) (Some (size_of c))
sliced c l (Some h) = both_ends c (from_end (size_of c) l) (from_end (size_of c) h)

-- a number that is given
abbrev pub some_number : Result ℤ Kind → Result (Option ℤ) Kind
some_number (Ok n) = Ok (Some n)
some_number (Err kd) = Err kd

-- the end, which is the length where none is given
abbrev pub end_of : Option Val → Result (Option ℤ) Kind
end_of None = Ok None
end_of (Some h) = some_number (number h)

-- `slice(l)` and `slice(l, h)`: of a text or list the part from the first place to before the second
abbrev pub slice : Val → Val → Option Val → Out
slice x l h = on (codes "slice") (two (row x) (two (number l) (end_of h))) (λ p. sliced p.0 p.1.0 p.1.1)

-- whether a text is in bytes; any other value is of a wrong type
abbrev pub text_contained : List ℕ → Val → Out
text_contained s a = on (codes "contains") (text a) (λ t. Value (v.Bool (is_some (first_of (matches s (bytes_of t) 0)))))

-- whether a text is in a text, or an element equals the value
abbrev pub contained : Row → Val → Out
contained (r.Str s) a = text_contained s a
contained (r.Bytes b) a = text_contained b a
contained (r.Arr xs) a = Value (v.Bool (list_any (λ x. equals x a) xs))

-- `contains(v)`: of a text whether the text is in it, and of a list whether an element equals the value
abbrev pub contains : Val → Val → Out
contains x a = on (codes "contains") (row x) (λ c. contained c a)

-- a place in bytes, or -1
abbrev pub place_of : Option ℕ → ℤ
place_of None = negsuc 0
place_of (Some i) = pos i

-- `index_of(t)`: the place of the first occurrence in bytes, or -1
abbrev pub index_of : Val → Val → Out
index_of x a = on (codes "index_of") (two (text x) (text a)) (λ p. Value (v.Int (place_of (first_of (matches (bytes_of p.0) (bytes_of p.1) 0)))))
