-- What values hold: the part that is wanted, or the kind of a value that has none.
use Rattle.std.specs.Prelude.{ℕ, ℤ, List, [], ◌∷◌, Bool, true, false, Result, Ok, Err}
use Rattle.bt_value.specs.declared.val.Val.{Val, out-Val}
use Rattle.bt_value.specs.declared.val.Val.TheVariants as v
use Rattle.bt_value.specs.declared.val.Val.TheOpen.{Val-F}
use Rattle.bt_kinds.specs.Kinds.{kind_of}
use Rattle.bt_kinds.specs.declared.kinds.Kind.{Kind}
use Rattle.bt_kinds.specs.declared.targets.Chunk.{Chunk}
use Rattle.bt_kinds.specs.declared.targets.Chunk.TheVariants as c

-- the boolean of a value by its form, or the kind that is given
abbrev boolean_at : Kind → Val-F Val → Result Bool Kind
boolean_at kd (Val-F.Bool b) = Ok b
boolean_at kd _ = Err kd

-- whether it is true, of a boolean
unfoldable pub boolean : Val → Result Bool Kind
boolean x = boolean_at (kind_of x) (out-Val x)

-- the number of a value by its form, or the kind that is given
abbrev number_at : Kind → Val-F Val → Result ℤ Kind
number_at kd (Val-F.Int n) = Ok n
number_at kd _ = Err kd

-- the number that it is
unfoldable pub number : Val → Result ℤ Kind
number x = number_at (kind_of x) (out-Val x)

-- the string of a value by its form, or the kind that is given
abbrev string_at : Kind → Val-F Val → Result (List ℕ) Kind
string_at kd (Val-F.Str s) = Ok s
string_at kd _ = Err kd

-- the string that it is
unfoldable pub string : Val → Result (List ℕ) Kind
string x = string_at (kind_of x) (out-Val x)

-- the text of a value by its form, or the kind that is given
abbrev text_at : Kind → Val-F Val → Result Chunk Kind
text_at kd (Val-F.Str s) = Ok (c.Str s)
text_at kd (Val-F.Bytes b) = Ok (c.Bytes b)
text_at kd _ = Err kd

-- a text: a string or bytes
unfoldable pub text : Val → Result Chunk Kind
text x = text_at (kind_of x) (out-Val x)

-- the bytes of a text
abbrev pub bytes_of : Chunk → List ℕ
bytes_of (c.Str s) = s
bytes_of (c.Bytes b) = b

-- the text as a value
abbrev pub value_of : Chunk → Val
value_of (c.Str s) = v.Str s
value_of (c.Bytes b) = v.Bytes b

-- the elements of a value by its form, or the kind that is given
abbrev array_at : Kind → Val-F Val → Result (List Val) Kind
array_at kd (Val-F.Arr xs) = Ok xs
array_at kd _ = Err kd

-- the elements of a list
unfoldable pub array : Val → Result (List Val) Kind
array x = array_at (kind_of x) (out-Val x)

-- the members of a value by its form, or the kind that is given
abbrev object_at : Kind → Val-F Val → Result (List (List ℕ × Val)) Kind
object_at kd (Val-F.Obj ms) = Ok ms
object_at kd _ = Err kd

-- the members of an object
unfoldable pub object : Val → Result (List (List ℕ × Val)) Kind
object x = object_at (kind_of x) (out-Val x)

-- two parts, or the kind of the first operand that has none
abbrev pub two : {A B : Type 0} → Result A Kind → Result B Kind → Result (A × B) Kind
two (Ok a) (Ok b) = Ok (a, b)
two (Ok a) (Err kd) = Err kd
two (Err kd) r = Err kd

-- whether a text is a string
abbrev pub is_string : Chunk → Bool
is_string (c.Str s) = true
is_string (c.Bytes b) = false

-- one more part before a list of them: the first kind that is wrong stands
abbrev pub both : {A : Type 0} → Result A Kind → Result (List A) Kind → Result (List A) Kind
both (Ok a) (Ok bs) = Ok (a ∷ bs)
both (Ok a) (Err kd) = Err kd
both (Err kd) r = Err kd

-- the numbers of a list, or the kind of the first element that is none
abbrev pub numbers : List Val → Result (List ℤ) Kind
numbers [] = Ok []
numbers (x ∷ xs) = both (number x) (numbers xs)

-- the strings of a list, or the kind of the first element that is none
abbrev pub strings : List Val → Result (List (List ℕ)) Kind
strings [] = Ok []
strings (x ∷ xs) = both (string x) (strings xs)
