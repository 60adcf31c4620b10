-- The fields of a configuration's tests. A field that is absent, or that has a lint, reads as its default.
use Rattle.std.specs.Prelude.{ℕ, List, [], codes, Option, Some, None}
use Rattle.bt_value.specs.Keys.{find}
use Rattle.bt_value.specs.declared.val.Val.{Val, out-Val}
use Rattle.bt_value.specs.declared.val.Val.TheOpen.{Val-F}

-- ---- what a value is at each place where it may stand

abbrev pub string_in : Val-F Val → List ℕ
string_in (Val-F.Str t) = t
string_in _ = []

abbrev pub string : Val → List ℕ
string v = string_in (out-Val v)

abbrev pub elements_in : Val-F Val → List Val
elements_in (Val-F.Arr vs) = vs
elements_in _ = []

abbrev pub elements : Val → List Val
elements v = elements_in (out-Val v)

abbrev pub members_in : Val-F Val → List (List ℕ × Val)
members_in (Val-F.Obj ms) = ms
members_in _ = []

abbrev pub members : Val → List (List ℕ × Val)
members v = members_in (out-Val v)

-- ---- fields, and what they are where they are absent

abbrev pub field : List ℕ → Val → Option Val
field key v = find key (members v)

abbrev pub string_or : List ℕ → Option Val → List ℕ
string_or default (Some v) = string v
string_or default None = default

abbrev pub elements_of : Option Val → List Val
elements_of (Some v) = elements v
elements_of None = []

abbrev pub members_of : Option Val → List (List ℕ × Val)
members_of (Some v) = members v
members_of None = []

-- `tests` [`[]`]
abbrev pub tests_of : Val → List Val
tests_of config = elements_of (field (codes "tests") config)

abbrev pub name_of : Val → List ℕ
name_of test = string_or [] (field (codes "name") test)

abbrev pub at_pipeline : List ℕ
at_pipeline = codes "/pipeline/processors"

-- `target_processors` [`/pipeline/processors`]
abbrev pub target_of : Val → List ℕ
target_of test = string_or at_pipeline (field (codes "target_processors") test)

abbrev pub input_batch : Val → List Val
input_batch test = elements_of (field (codes "input_batch") test)

abbrev pub output_batches : Val → List Val
output_batches test = elements_of (field (codes "output_batches") test)
