-- What each function and each method of the mapping language takes.
use Rattle.std.specs.Prelude.{ℕ, Bool, true, false, ◌&&◌, nat_le, List, [], ◌∷◌, codes, length, Option, Some, None, ◌||◌}
use Rattle.std.specs.List.{list_all}
use Rattle.std.specs.Str.{bytes_eq}
use Rattle.bt_value.specs.declared.names.MethodId.{MethodId}
use Rattle.bt_value.specs.declared.names.MethodId.TheVariants as m
use Rattle.bt_value.specs.declared.names.FunctionId.{FunctionId}
use Rattle.bt_value.specs.declared.names.FunctionId.TheVariants as f
use Rattle.bt_calls.specs.declared.table.Slot.{Slot}
use Rattle.bt_calls.specs.declared.table.Slot.TheVariants as slot
use Rattle.bt_calls.specs.declared.table.Signature.{Signature}
use Rattle.bt_tree.specs.declared.tree.Word.{Word}
use Rattle.bt_time.specs.Format.{is_format, is_whole}
use Rattle.bt_calls.specs.Shapes.{Shape, text, lambda}

-- so many arguments, the first of one kind and the others of another
abbrev pub exactly : ℕ → Slot → Slot → Signature
exactly n first others = record { least = n; most = Some n; first = first; others = others }

abbrev pub none : Signature
none = exactly 0 slot.Query slot.Query

abbrev pub one : Slot → Signature
one first = exactly 1 first slot.Query

-- queries, from `least` to `most`
abbrev pub queries : ℕ → Option ℕ → Signature
queries least most = record { least = least; most = most; first = slot.Query; others = slot.Query }

-- the methods, in the order of their names' table
unfoldable pub method_takes : MethodId → Signature
method_takes m.Catch = one slot.Query
method_takes m.Or = one slot.Query
method_takes m.Apply = one slot.Map
method_takes m.String = none
method_takes m.Bytes = none
method_takes m.Number = none
method_takes m.Bool = none
method_takes m.Type = none
method_takes m.NotNull = none
method_takes m.NotEmpty = none
method_takes m.Length = none
method_takes m.Exists = one slot.Query
method_takes m.Get = one slot.Query
method_takes m.Uppercase = none
method_takes m.Lowercase = none
method_takes m.Trim = none
method_takes m.TrimPrefix = one slot.Query
method_takes m.TrimSuffix = one slot.Query
method_takes m.HasPrefix = one slot.Query
method_takes m.HasSuffix = one slot.Query
method_takes m.Contains = one slot.Query
method_takes m.IndexOf = one slot.Query
method_takes m.Split = one slot.Query
method_takes m.Join = queries 0 (Some 1)
method_takes m.ReplaceAll = queries 2 (Some 2)
method_takes m.Slice = queries 1 (Some 2)
method_takes m.ParseJson = none
method_takes m.Encode = one slot.Scheme
method_takes m.Decode = one slot.Scheme
method_takes m.ReMatch = one slot.Pattern
method_takes m.ReFindAll = one slot.Pattern
method_takes m.ReFindObject = one slot.Pattern
method_takes m.ReReplaceAll = exactly 2 slot.Pattern slot.Query
method_takes m.Abs = none
method_takes m.Sum = none
method_takes m.Min = none
method_takes m.Max = none
method_takes m.Keys = none
method_takes m.Values = none
method_takes m.KeyValues = none
method_takes m.Merge = one slot.Query
method_takes m.Assign = one slot.Query
method_takes m.Without = queries 1 None
method_takes m.MapEach = one slot.Lambda
method_takes m.MapEachKey = one slot.Lambda
method_takes m.Filter = one slot.Lambda
method_takes m.Any = one slot.Lambda
method_takes m.All = one slot.Lambda
method_takes m.Fold = exactly 2 slot.Query slot.Lambda
method_takes m.Sort = none
method_takes m.SortBy = one slot.Lambda
method_takes m.Unique = none
method_takes m.Flatten = none
method_takes m.Append = queries 1 None
method_takes m.Concat = queries 1 None
method_takes m.Index = one slot.Query
method_takes m.Enumerated = none
method_takes m.TsUnix = none
method_takes m.TsUnixMilli = none
method_takes m.TsStrftime = one slot.Format
method_takes m.TsStrptime = one slot.WholeFormat

unfoldable pub function_takes : FunctionId → Signature
function_takes f.Deleted = none
function_takes f.Nothing = none
function_takes f.Content = none
function_takes f.Error = none
function_takes f.Errored = none
function_takes f.Meta = one slot.Query
function_takes f.BatchIndex = none
function_takes f.BatchSize = none
function_takes f.Range = queries 2 (Some 3)
function_takes f.Throw = one slot.Query
function_takes f.Now = none

-- the schemes of `encode` and `decode`
abbrev pub is_scheme : List ℕ → Bool
is_scheme u = bytes_eq u (codes "base64") || (bytes_eq u (codes "base64url") || bytes_eq u (codes "hex"))

-- the literal text that an argument is
abbrev pub text_in : Shape → Option Word
text_in (text w) = Some w
text_in _ = None

-- Whether an argument may stand in a place. Where a query may stand, a literal text may too, and in the place of a lambda a
-- plain query may stand.
abbrev pub takes : Slot → Shape → Bool
takes slot.Lambda x = true
takes slot.Query lambda = false
takes slot.Query x = true
takes slot.Map (text w) = true
takes slot.Pattern (text w) = true
takes slot.Scheme (text w) = is_scheme w.text
takes slot.Format (text w) = is_format w.text
takes slot.WholeFormat (text w) = is_whole w.text
takes _ x = false

-- whether there are no more arguments than a number, where there is one
abbrev pub at_most : ℕ → Option ℕ → Bool
at_most n None = true
at_most n (Some m) = nat_le n m

-- whether each argument may stand in its place
abbrev pub all_take : Slot → Slot → List Shape → Bool
all_take first others [] = true
all_take first others (x ∷ xs) = takes first x && list_all (takes others) xs

-- whether the arguments are such as are taken, in number and kind
abbrev pub fits : Signature → List Shape → Bool
fits s xs = nat_le s.least (length xs) && (at_most (length xs) s.most && all_take s.first s.others xs)
