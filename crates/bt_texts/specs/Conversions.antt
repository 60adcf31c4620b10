-- The conversions of values.
use Rattle.std.specs.Prelude.{ℕ, ℤ, pos, neg_ℤ, List, [], ◌∷◌, length, drop, slice_index, codes, Bool, true, false, not, ◌&&◌, ◌||◌, ◌==◌, nat_lt, Option, Some, None, option_map, if◌then◌else◌}
use Rattle.std.specs.Str.{bytes_eq, is_utf8, all_ascii_digits}
use Rattle.std.specs.Str.Parse.{digits_value}
use Rattle.bt_value.specs.Plain.{is_i64}
use Rattle.bt_value.specs.Reading.{reading, text as json_text}
use Rattle.bt_value.specs.declared.val.Val.{Val, fold-Val, out-Val}
use Rattle.bt_value.specs.declared.val.Val.TheVariants as v
use Rattle.bt_value.specs.declared.val.Val.TheOpen.{Val-F}
use Rattle.bt_value.specs.declared.message.Out.{Out}
use Rattle.bt_value.specs.declared.message.Out.TheVariants.{Value}
use Rattle.bt_kinds.specs.Kinds.{on, wrong, bad_text, kind_of}
use Rattle.bt_kinds.specs.Moving.{put}
use Rattle.bt_kinds.specs.Operators.{is_zero}
use Rattle.bt_kinds.specs.Targets.{text, bytes_of}

-- a value before some others, where all of them are there
abbrev pub one_more : Option Val → Option (List Val) → Option (List Val)
one_more None rest = None
one_more (Some x) None = None
one_more (Some x) (Some xs) = Some (x ∷ xs)

-- the values, where all of them are there
abbrev pub all : List (Option Val) → Option (List Val)
all [] = Some []
all (o ∷ os) = one_more o (all os)

-- members put behind others under their keys, where all of their values are there
abbrev pub all_members : List (List ℕ × Val) → List (List ℕ × Option Val) → Option (List (List ℕ × Val))
all_members got [] = Some got
all_members got ((n, None) ∷ ms) = None
all_members got ((n, Some x) ∷ ms) = all_members (put n x got) ms

-- the bytes, where they are text
abbrev pub as_text : List ℕ → Option (List ℕ)
as_text b = if is_utf8 b then Some b else None

-- bytes as a string, where they are text
abbrev pub as_string : List ℕ → Option Val
as_string b = if is_utf8 b then Some (v.Str b) else None

-- a value with bytes as strings, by what its elements or members give
abbrev pub texts_step : Val-F (Option Val) → Option Val
texts_step Val-F.Null = Some v.Null
texts_step (Val-F.Bool b) = Some (v.Bool b)
texts_step (Val-F.Int n) = Some (v.Int n)
texts_step (Val-F.Str s) = Some (v.Str s)
texts_step (Val-F.Bytes b) = as_string b
texts_step (Val-F.Arr os) = option_map v.Arr (all os)
texts_step (Val-F.Obj ms) = option_map v.Obj (all_members [] ms)

-- a value with its bytes as strings, where all of them are text
abbrev pub texts_of : Val → Option Val
texts_of = fold-Val (Option Val) texts_step

-- the compact JSON text of a value, where bytes stand as text
abbrev pub written : Val → Option (List ℕ)
written x = option_map json_text (texts_of x)

-- the string of a value by its form, with its JSON text
abbrev stringed_at : Option (List ℕ) → Val-F Val → Option (List ℕ)
stringed_at w (Val-F.Str s) = Some s
stringed_at w (Val-F.Bytes b) = as_text b
stringed_at w _ = w

-- a string as it is, bytes as text, and any other value as compact JSON
unfoldable pub stringed : Val → Option (List ℕ)
stringed x = stringed_at (written x) (out-Val x)

-- a value made of what is there, or the failure `bad text`
abbrev pub or_bad : {A : Type 0} → List ℕ → (A → Val) → Option A → Out
or_bad name f (Some a) = Value (f a)
or_bad name f None = bad_text name

-- `string()`: `bad text` where bytes are no UTF-8
abbrev pub string_of : Val → Out
string_of x = or_bad (codes "string") v.Str (stringed x)

-- the bytes of a value by its form, with its string
abbrev bytes_at : Option (List ℕ) → Val-F Val → Option (List ℕ)
bytes_at s (Val-F.Bytes b) = Some b
bytes_at s _ = s

-- bytes as they are, and else the bytes of the string
unfoldable pub byted : Val → Option (List ℕ)
byted x = bytes_at (stringed x) (out-Val x)

-- `bytes()`: `bad text` where `string()` has it
abbrev pub bytes_result : Val → Out
bytes_result x = or_bad (codes "bytes") v.Bytes (byted x)

-- numbers ---------------------------------------------------------------

-- whether a text begins with `-`
abbrev pub is_minus : List ℕ → Bool
is_minus s = slice_index s 0 == 45

-- what stands behind the `-`, where there is one
abbrev pub digits_of : List ℕ → List ℕ
digits_of s = if is_minus s then drop 1 s else s

-- one or more decimal digits
abbrev pub is_numeral : List ℕ → Bool
is_numeral ds = nat_lt 0 (length ds) && all_ascii_digits ds

-- the number of digits with their sign
abbrev pub signed : List ℕ → ℤ
signed s = if is_minus s then neg_ℤ (pos (digits_value 10 (digits_of s))) else pos (digits_value 10 (digits_of s))

-- an optional `-` and digits, in 64 bits
unfoldable pub number_text : List ℕ → Option ℤ
number_text s = if is_numeral (digits_of s) && is_i64 (signed s) then Some (signed s) else None

-- a value as a number by its form
abbrev number_at : Val → Val-F Val → Out
number_at x (Val-F.Int n) = Value (v.Int n)
number_at x (Val-F.Str s) = or_bad (codes "number") v.Int (number_text s)
number_at x _ = wrong (codes "number") (kind_of x)

-- `number()`: a number as it is, and of a string its number, or `bad text`; any other kind is wrong
unfoldable pub number_of : Val → Out
number_of x = number_at x (out-Val x)

-- booleans --------------------------------------------------------------

-- the strings that are true
abbrev pub says_yes : List ℕ → Bool
says_yes s = bytes_eq s (codes "1") || (bytes_eq s (codes "t") || (bytes_eq s (codes "T") || (bytes_eq s (codes "TRUE") || (bytes_eq s (codes "true") || bytes_eq s (codes "True")))))

-- the strings that are false
abbrev pub says_no : List ℕ → Bool
says_no s = bytes_eq s (codes "0") || (bytes_eq s (codes "f") || (bytes_eq s (codes "F") || (bytes_eq s (codes "FALSE") || (bytes_eq s (codes "false") || bytes_eq s (codes "False")))))

-- whether a string is true, where it says so
abbrev pub truth_of : List ℕ → Option Bool
truth_of s = if says_yes s then Some true else if says_no s then Some false else None

-- a value as a boolean by its form
abbrev bool_at : Val → Val-F Val → Out
bool_at x (Val-F.Bool b) = Value (v.Bool b)
bool_at x (Val-F.Int n) = Value (v.Bool (not (is_zero n)))
bool_at x (Val-F.Str s) = or_bad (codes "bool") v.Bool (truth_of s)
bool_at x _ = wrong (codes "bool") (kind_of x)

-- `bool()`: a boolean as it is, a number is true unless it is 0, and a string where it says so, or `bad text`; any other kind is wrong
unfoldable pub bool_of : Val → Out
bool_of x = bool_at x (out-Val x)

-- JSON ------------------------------------------------------------------

-- the value of a JSON text
unfoldable pub json_value : List ℕ → Option Val
json_value b = if is_utf8 b then reading b else None

-- `parse_json()`: of a text the value of its JSON, or `bad text`
abbrev pub parse_json : Val → Out
parse_json x = on (codes "parse_json") (text x) (λ t. or_bad (codes "parse_json") (λ y. y) (json_value (bytes_of t)))
