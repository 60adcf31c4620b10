-- A target of no kind that a method takes gives the method's wrong type.
use Rattle.std.proofs.Common.{◌≡◌, ℕ, List, Bool, true, false, Option, Some, None, Result, Err, refl}
use Rattle.std.specs.Prelude.{ℤ}
use Rattle.bt_value.specs.Names.{method_name}
use Rattle.bt_value.specs.declared.val.Val.{Val, out-Val}
use Rattle.bt_value.specs.declared.val.Val.TheOpen.{Val-F}
use Rattle.bt_value.specs.declared.names.MethodId.{MethodId}
use Rattle.bt_value.specs.declared.names.MethodId.TheVariants as m
use Rattle.bt_kinds.specs.Kinds.{wrong, kind_of}
use Rattle.bt_kinds.specs.declared.kinds.Kind.TheVariants as k
use Rattle.bt_kinds.specs.Targets.{string, number, text, array, object}
use Rattle.bt_lists.specs.Lists.{size, not_null}
use Rattle.bt_lists.specs.Slices.{row}
use Rattle.bt_texts.specs.Texts.{join}
use Rattle.bt_texts.specs.Conversions.{number_of, bool_of}
use Rattle.bt_instants.specs.Times.{stamp}
use Rattle.bt_methods.specs.Methods.{method}
use Rattle.bt_methods.specs.Outcomes.{is_value, admits, target_class}
use Rattle.bt_methods.specs.declared.outcomes.Class.TheVariants as c

no_string_by : (x : Val) (o : Val-F Val) → out-Val x ≡ o → admits c.String (kind_of x) ≡ false → string x ≡ Err (kind_of x)
unfolding kind_of string
no_string_by x (Val-F.Str s) is e = let no = rw is at e in cc
no_string_by x _ is e = rw is refl

no_string : (x : Val) → admits c.String (kind_of x) ≡ false → string x ≡ Err (kind_of x)
no_string x e = no_string_by x (out-Val x) refl e

no_number_by : (x : Val) (o : Val-F Val) → out-Val x ≡ o → admits c.Number (kind_of x) ≡ false → number x ≡ Err (kind_of x)
unfolding kind_of number
no_number_by x (Val-F.Int n) is e = let no = rw is at e in cc
no_number_by x _ is e = rw is refl

no_number : (x : Val) → admits c.Number (kind_of x) ≡ false → number x ≡ Err (kind_of x)
no_number x e = no_number_by x (out-Val x) refl e

no_text_by : (x : Val) (o : Val-F Val) → out-Val x ≡ o → admits c.Text (kind_of x) ≡ false → text x ≡ Err (kind_of x)
unfolding kind_of text
no_text_by x (Val-F.Str s) is e = let no = rw is at e in cc
no_text_by x (Val-F.Bytes b) is e = let no = rw is at e in cc
no_text_by x _ is e = rw is refl

no_text : (x : Val) → admits c.Text (kind_of x) ≡ false → text x ≡ Err (kind_of x)
no_text x e = no_text_by x (out-Val x) refl e

no_array_by : (x : Val) (o : Val-F Val) → out-Val x ≡ o → admits c.Array (kind_of x) ≡ false → array x ≡ Err (kind_of x)
unfolding kind_of array
no_array_by x (Val-F.Arr xs) is e = let no = rw is at e in cc
no_array_by x _ is e = rw is refl

no_array : (x : Val) → admits c.Array (kind_of x) ≡ false → array x ≡ Err (kind_of x)
no_array x e = no_array_by x (out-Val x) refl e

no_object_by : (x : Val) (o : Val-F Val) → out-Val x ≡ o → admits c.Object (kind_of x) ≡ false → object x ≡ Err (kind_of x)
unfolding kind_of object
no_object_by x (Val-F.Obj ms) is e = let no = rw is at e in cc
no_object_by x _ is e = rw is refl

no_object : (x : Val) → admits c.Object (kind_of x) ≡ false → object x ≡ Err (kind_of x)
no_object x e = no_object_by x (out-Val x) refl e

no_row_by : (x : Val) (o : Val-F Val) → out-Val x ≡ o → admits c.Row (kind_of x) ≡ false → row x ≡ Err (kind_of x)
unfolding kind_of row
no_row_by x (Val-F.Str s) is e = let no = rw is at e in cc
no_row_by x (Val-F.Bytes b) is e = let no = rw is at e in cc
no_row_by x (Val-F.Arr xs) is e = let no = rw is at e in cc
no_row_by x _ is e = rw is refl

no_row : (x : Val) → admits c.Row (kind_of x) ≡ false → row x ≡ Err (kind_of x)
no_row x e = no_row_by x (out-Val x) refl e

no_size_by : (x : Val) (o : Val-F Val) → out-Val x ≡ o → admits c.Sized (kind_of x) ≡ false → size x ≡ Err (kind_of x)
unfolding kind_of size
no_size_by x (Val-F.Str s) is e = let no = rw is at e in cc
no_size_by x (Val-F.Bytes b) is e = let no = rw is at e in cc
no_size_by x (Val-F.Arr xs) is e = let no = rw is at e in cc
no_size_by x (Val-F.Obj ms) is e = let no = rw is at e in cc
no_size_by x _ is e = rw is refl

no_size : (x : Val) → admits c.Sized (kind_of x) ≡ false → size x ≡ Err (kind_of x)
no_size x e = no_size_by x (out-Val x) refl e

no_stamp_by : (x : Val) (o : Val-F Val) → out-Val x ≡ o → admits c.NumberOrString (kind_of x) ≡ false → stamp x ≡ Err (kind_of x)
unfolding kind_of stamp
no_stamp_by x (Val-F.Str s) is e = let no = rw is at e in cc
no_stamp_by x (Val-F.Int n) is e = let no = rw is at e in cc
no_stamp_by x _ is e = rw is refl

no_stamp : (x : Val) → admits c.NumberOrString (kind_of x) ≡ false → stamp x ≡ Err (kind_of x)
no_stamp x e = no_stamp_by x (out-Val x) refl e

null_by : (x : Val) (o : Val-F Val) → out-Val x ≡ o → admits c.NotNull (kind_of x) ≡ false → not_null x ≡ wrong (method_name m.NotNull) (kind_of x)
unfolding kind_of not_null
null_by x Val-F.Null is e = rw is refl
null_by x _ is e = let no = rw is at e in cc

null : (x : Val) → admits c.NotNull (kind_of x) ≡ false → not_null x ≡ wrong (method_name m.NotNull) (kind_of x)
null x e = null_by x (out-Val x) refl e

string_kind : (x : Val) (s : List ℕ) → out-Val x ≡ Val-F.Str s → kind_of x ≡ k.String
unfolding kind_of
string_kind x s is = rw is refl

number_kind : (x : Val) (n : ℤ) → out-Val x ≡ Val-F.Int n → kind_of x ≡ k.Number
unfolding kind_of
number_kind x n is = rw is refl

bool_kind : (x : Val) (b : Bool) → out-Val x ≡ Val-F.Bool b → kind_of x ≡ k.Bool
unfolding kind_of
bool_kind x b is = rw is refl

no_numeral_by : (x : Val) (o : Val-F Val) → out-Val x ≡ o → admits c.NumberOrString (kind_of x) ≡ false → number_of x ≡ wrong (method_name m.Number) (kind_of x)
unfolding number_of
no_numeral_by x (Val-F.Str s) is e = let no = rw (string_kind x s is) at e in cc
no_numeral_by x (Val-F.Int n) is e = let no = rw (number_kind x n is) at e in cc
no_numeral_by x _ is e = rw is refl

no_numeral : (x : Val) → admits c.NumberOrString (kind_of x) ≡ false → number_of x ≡ wrong (method_name m.Number) (kind_of x)
no_numeral x e = no_numeral_by x (out-Val x) refl e

no_truth_by : (x : Val) (o : Val-F Val) → out-Val x ≡ o → admits c.Truth (kind_of x) ≡ false → bool_of x ≡ wrong (method_name m.Bool) (kind_of x)
unfolding bool_of
no_truth_by x (Val-F.Str s) is e = let no = rw (string_kind x s is) at e in cc
no_truth_by x (Val-F.Int n) is e = let no = rw (number_kind x n is) at e in cc
no_truth_by x (Val-F.Bool b) is e = let no = rw (bool_kind x b is) at e in cc
no_truth_by x _ is e = rw is refl

no_truth : (x : Val) → admits c.Truth (kind_of x) ≡ false → bool_of x ≡ wrong (method_name m.Bool) (kind_of x)
no_truth x e = no_truth_by x (out-Val x) refl e

value_by : (x : Val) (o : Val-F Val) → out-Val x ≡ o → is_value (kind_of x) ≡ true
unfolding kind_of
value_by x Val-F.Null is = rw is refl
value_by x _ is = rw is refl

no_list : (x : Val) (a : Option Val) → admits c.Array (kind_of x) ≡ false → join x a ≡ wrong (method_name m.Join) (kind_of x)
no_list x None e = rw (no_array x e) refl
no_list x (Some a) e = rw (no_array x e) refl

pub refused : (id : MethodId) (x : Val) (args : List Val) → admits (target_class id) (kind_of x) ≡ false → method id x args ≡ wrong (method_name id) (kind_of x)
unfolding method
refused m.Number x args e = no_numeral x e
refused m.Bool x args e = no_truth x e
refused m.NotNull x args e = null x e
refused m.Join x args e = no_list x _ e
refused m.Uppercase x args e = rw (no_string x e) refl
refused m.Lowercase x args e = rw (no_string x e) refl
refused m.Trim x args e = rw (no_string x e) refl
refused m.TrimPrefix x args e = rw (no_string x e) refl
refused m.TrimSuffix x args e = rw (no_string x e) refl
refused m.Split x args e = rw (no_string x e) refl
refused m.ReplaceAll x args e = rw (no_string x e) refl
refused m.ReMatch x args e = rw (no_string x e) refl
refused m.ReFindAll x args e = rw (no_string x e) refl
refused m.ReFindObject x args e = rw (no_string x e) refl
refused m.ReReplaceAll x args e = rw (no_string x e) refl
refused m.TsStrptime x args e = rw (no_string x e) refl
refused m.HasPrefix x args e = rw (no_text x e) refl
refused m.HasSuffix x args e = rw (no_text x e) refl
refused m.IndexOf x args e = rw (no_text x e) refl
refused m.ParseJson x args e = rw (no_text x e) refl
refused m.Encode x args e = rw (no_text x e) refl
refused m.Decode x args e = rw (no_text x e) refl
refused m.Contains x args e = rw (no_row x e) refl
refused m.Slice x args e = rw (no_row x e) refl
refused m.NotEmpty x args e = rw (no_size x e) refl
refused m.Length x args e = rw (no_size x e) refl
refused m.Abs x args e = rw (no_number x e) refl
refused m.Sum x args e = rw (no_array x e) refl
refused m.Min x args e = rw (no_array x e) refl
refused m.Max x args e = rw (no_array x e) refl
refused m.Sort x args e = rw (no_array x e) refl
refused m.Unique x args e = rw (no_array x e) refl
refused m.Flatten x args e = rw (no_array x e) refl
refused m.Append x args e = rw (no_array x e) refl
refused m.Concat x args e = rw (no_array x e) refl
refused m.Index x args e = rw (no_array x e) refl
refused m.Enumerated x args e = rw (no_array x e) refl
refused m.Keys x args e = rw (no_object x e) refl
refused m.Values x args e = rw (no_object x e) refl
refused m.KeyValues x args e = rw (no_object x e) refl
refused m.Merge x args e = rw (no_object x e) refl
refused m.Assign x args e = rw (no_object x e) refl
refused m.Without x args e = rw (no_object x e) refl
refused m.TsUnix x args e = rw (no_stamp x e) refl
refused m.TsUnixMilli x args e = rw (no_stamp x e) refl
refused m.TsStrftime x args e = rw (no_stamp x e) refl
refused _ x args e = let taken = value_by x (out-Val x) refl in cc
