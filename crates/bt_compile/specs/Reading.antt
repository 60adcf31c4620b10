-- What the processors of a configuration are to be made as: one row for each kind. A field that is absent, or that has a lint, reads
-- as its default.
use Rattle.std.specs.Prelude.{ℕ, ℤ, pos, negsuc, List, [], ◌∷◌, ◌++◌, Bool, false, ◌&&◌, nat_le, Option, Some, None, if◌then◌else◌, map, codes}
use Rattle.std.specs.Str.{bytes_eq}
use Rattle.bt_value.specs.Keys.{find}
use Rattle.bt_value.specs.declared.val.Val.{Val, fold-Val}
use Rattle.bt_value.specs.declared.val.Val.TheOpen.{Val-F}
use Rattle.bt_schema.specs.Pointer.{under}
use Rattle.bt_ready.specs.declared.ready.Ready.{Ready}
use Rattle.bt_schema.specs.declared.forms.Language.{Language}
use Rattle.bt_schema.specs.declared.forms.Language.TheVariants as language
use Rattle.bt_messages.specs.declared.tree.Branch.{Branch}
use Rattle.bt_messages.specs.declared.tree.Case.{Case}
use Rattle.bt_messages.specs.declared.tree.MessageProcessor.{MessageProcessor}
use Rattle.bt_messages.specs.declared.tree.MessageProcessor.TheVariants as single
use Rattle.bt_proc.specs.declared.tree.Format.{Format}
use Rattle.bt_proc.specs.declared.tree.Format.TheVariants as format
use Rattle.bt_proc.specs.declared.tree.Group.{Group}
use Rattle.bt_proc.specs.declared.tree.Processor.{Processor}
use Rattle.bt_proc.specs.declared.tree.Processor.TheVariants as processor
use Rattle.bt_compile.specs.Kinds.{Chosen, chosen}
use Rattle.bt_compile.specs.Outlines.{Outline, below, blank, formed, listed, no_pieces, optional_as, plain, text_as}
use Rattle.bt_compile.specs.declared.kinds.Kind.{Kind}
use Rattle.bt_compile.specs.declared.kinds.Kind.TheVariants as kind
use Rattle.bt_making.specs.Sources.{source}

-- What a value is at each place where it may stand.
pub record Reading : Type 0 where
  -- a text, a boolean, a size
  pub text : List ℕ
  pub is_set : Bool
  pub number : ℕ
  -- a processor that gives one message or none for each, a list of such, and what stands in a `switch` and a `branch`
  pub single : Outline MessageProcessor
  pub singles : Outline (List MessageProcessor)
  pub switch_case : Outline (Case MessageProcessor)
  pub switch_cases : Outline (List (Case MessageProcessor))
  pub branch : Outline (Branch MessageProcessor)
  -- any processor, a list of them, and the fields of the others
  pub processor : Outline Processor
  pub processors : Outline (List Processor)
  pub group : Outline (Group Processor)
  pub groups : Outline (List (Group Processor))
  pub size : ℕ
  pub value : List ℕ
  pub format : Format

abbrev pub Fields : Type 0
Fields = List (List ℕ × Reading)

-- ---- fields, and what they are where they are absent

abbrev pub text_of : Option Reading → List ℕ
text_of (Some r) = r.text
text_of None = []

abbrev pub is_set_of : Option Reading → Bool
is_set_of (Some r) = r.is_set
is_set_of None = false

abbrev pub number_of : Option Reading → ℕ
number_of (Some r) = r.number
number_of None = 1

abbrev pub singles_of : Option Reading → Outline (List MessageProcessor)
singles_of (Some r) = r.singles
singles_of None = plain []

abbrev pub processors_of : Option Reading → Outline (List Processor)
processors_of (Some r) = r.processors
processors_of None = plain []

-- a text of a field, which may be empty, and lists of processors of a field
abbrev pub optional_at : Language → List ℕ → Fields → Outline (Option Ready)
optional_at how key ms = below key (optional_as how (text_of (find key ms)))

abbrev pub text_at : Language → List ℕ → Fields → Outline Ready
text_at how key ms = below key (text_as how (text_of (find key ms)))

abbrev pub singles_at : List ℕ → Fields → Outline (List MessageProcessor)
singles_at key ms = below key (singles_of (find key ms))

abbrev pub processors_at : List ℕ → Fields → Outline (List Processor)
processors_at key ms = below key (processors_of (find key ms))

-- a size is from 1 to 16384
abbrev pub size_of : ℤ → ℕ
size_of (pos n) = if nat_le 1 n && nat_le n 16384 then n else 1
size_of (negsuc n) = 1

abbrev pub format_of : List ℕ → Format
format_of text = if bytes_eq text (codes "json_array") then format.JsonArray else format.Lines

-- ---- processors that give one message or none for each

-- a processor that isn't one: all messages stay as they are
abbrev pub idle_single : MessageProcessor
idle_single = single.Try []

-- a case of a `switch`: `check` [""], `fallthrough` [false], `processors` [`[]`]
abbrev pub switch_case_in : Fields → Outline (Case MessageProcessor)
switch_case_in ms =
    let check = optional_at language.Check (codes "check") ms in
    let inside = singles_at (codes "processors") ms in
    record {
      form = record { check = check.form; processors = inside.form; fallthrough = is_set_of (find (codes "fallthrough") ms) };
      texts = λ at. check.texts at ++ inside.texts at;
    }

-- `branch`: `processors` [`[]`], `request_map` [""], `result_map` [""]
abbrev pub branch_in : Fields → Outline (Branch MessageProcessor)
branch_in ms =
    let inside = singles_at (codes "processors") ms in
    let request = optional_at language.Mapping (codes "request_map") ms in
    let back = optional_at language.Mapping (codes "result_map") ms in
    record {
      form = record { request = request.form; processors = inside.form; result = back.form };
      texts = λ at. inside.texts at ++ request.texts at ++ back.texts at;
    }

-- one row for each kind; one that may change the number of messages has no place here
abbrev pub single_as : Kind → Reading → Outline MessageProcessor
single_as kind.Mapping r = formed single.Mapping (text_as language.Mapping r.text)
single_as kind.Try r = formed single.Try r.singles
single_as kind.ForEach r = formed single.ForEach r.singles
single_as kind.Catch r = formed single.Catch r.singles
single_as kind.Switch r = formed single.Switch r.switch_cases
single_as kind.Branch r = formed single.Branch r.branch
single_as _ r = plain idle_single

abbrev pub single_in : Option (Chosen Reading) → Outline MessageProcessor
single_in (Some c) = below c.key (single_as c.kind c.value)
single_in None = plain idle_single

-- ---- any processors

abbrev pub idle : Processor
idle = processor.Try []

-- a group of a `group_by`: `check`, `processors` [`[]`]
abbrev pub group_in : Fields → Outline (Group Processor)
group_in ms =
    let check = text_at language.Check (codes "check") ms in
    let inside = processors_at (codes "processors") ms in
    record {
      form = record { check = check.form; processors = inside.form };
      texts = λ at. check.texts at ++ inside.texts at;
    }

-- `split`: `size` [1]; `group_by_value`: `value`; `archive` and `unarchive`: `format`
abbrev pub size_in : Fields → ℕ
size_in ms = number_of (find (codes "size") ms)

abbrev pub value_in : Fields → List ℕ
value_in ms = text_of (find (codes "value") ms)

abbrev pub format_in : Fields → Format
format_in ms = format_of (text_of (find (codes "format") ms))

abbrev pub grouped_by : List ℕ → Outline Processor
grouped_by text = record { form = processor.GroupByValue no_pieces; texts = λ at. source language.Interpolated text at ∷ [] }

-- one row for each kind
abbrev pub processor_as : Kind → Reading → Outline Processor
processor_as kind.Mapping r = formed processor.Message (single_as kind.Mapping r)
processor_as kind.Switch r = formed processor.Message (single_as kind.Switch r)
processor_as kind.Branch r = formed processor.Message (single_as kind.Branch r)
processor_as kind.Try r = formed processor.Try r.processors
processor_as kind.ForEach r = formed processor.ForEach r.processors
processor_as kind.Catch r = formed processor.Catch r.processors
processor_as kind.Split r = plain (processor.Split r.size)
processor_as kind.GroupBy r = formed processor.GroupBy r.groups
processor_as kind.GroupByValue r = below (codes "value") (grouped_by r.value)
processor_as kind.Archive r = plain (processor.Archive r.format)
processor_as kind.Unarchive r = plain (processor.Unarchive r.format)

abbrev pub processor_in : Option (Chosen Reading) → Outline Processor
processor_in (Some c) = below c.key (processor_as c.kind c.value)
processor_in None = plain idle

-- ---- values

-- a value that is none of this
abbrev pub nothing : Reading
nothing = record {
  text = [];
  is_set = false;
  number = 1;
  single = plain idle_single;
  singles = plain [];
  switch_case = plain (record { check = None; processors = []; fallthrough = false });
  switch_cases = plain [];
  branch = plain (record { request = None; processors = []; result = None });
  processor = plain idle;
  processors = plain [];
  group = group_in [];
  groups = plain [];
  size = 1;
  value = [];
  format = format.Lines;
}

abbrev pub reading_step : Val-F Reading → Reading
reading_step (Val-F.Str t) = record nothing { text = t }
reading_step (Val-F.Bool b) = record nothing { is_set = b }
reading_step (Val-F.Int n) = record nothing { number = size_of n }
reading_step (Val-F.Arr rs) = record nothing {
  singles = listed (map (λ r. r.single) rs);
  switch_cases = listed (map (λ r. r.switch_case) rs);
  processors = listed (map (λ r. r.processor) rs);
  groups = listed (map (λ r. r.group) rs);
}
reading_step (Val-F.Obj ms) = record nothing {
  single = single_in (chosen ms);
  switch_case = switch_case_in ms;
  branch = branch_in ms;
  processor = processor_in (chosen ms);
  group = group_in ms;
  size = size_in ms;
  value = value_in ms;
  format = format_in ms;
}
reading_step _ = nothing

-- what a value is to be made as
abbrev pub reading : Val → Reading
reading = fold-Val Reading reading_step

abbrev pub met : List (List ℕ × Val) → Fields
met ms = map (λ m. (m.0, reading m.1)) ms
