-- What the input of a configuration is to be made as: one row for each kind. A field that is absent, or that has a lint, reads as its
-- default.
use Rattle.std.specs.Prelude.{ℕ, ◌==◌, ℤ, pos, negsuc, List, [], ◌∷◌, ◌++◌, Bool, true, false, not, ◌&&◌, nat_le, Option, Some, None, is_some, if◌then◌else◌, map, codes}
use Rattle.bt_ports.specs.Contents.{Contents}
use Rattle.bt_value.specs.Keys.{find}
use Rattle.bt_value.specs.declared.val.Val.{Val, fold-Val}
use Rattle.bt_value.specs.declared.val.Val.TheOpen.{Val-F}
use Rattle.bt_outlines.specs.Outlines.{Outline, below, blank, check_as, formed, listed, optional_check_as, plain}
use Rattle.bt_input_plan.specs.Kinds.{Chosen, chosen}
use Rattle.bt_input_plan.specs.Scanners.{Scanner, lines, records, codec_of, comma_of, delimiter_of}
use Rattle.bt_input_plan.specs.declared.kinds.Kind.{Kind}
use Rattle.bt_input_plan.specs.declared.kinds.Kind.TheVariants as kind
use Rattle.bt_input_plan.specs.declared.plan.InputPlan.{InputPlan, out-InputPlan}
use Rattle.bt_input_plan.specs.declared.plan.InputPlan.TheOpen.{InputPlan-F}
use Rattle.bt_input_plan.specs.declared.plan.InputPlan.TheVariants as input
use Rattle.bt_input_plan.specs.declared.plan.InputPolicy.{InputPolicy}

-- What a value is at each place where it may stand.
pub record Reading : Type 0 where
  -- a text, the boolean false, a number, the texts of a list
  pub text : List ℕ
  pub is_false : Bool
  pub number : ℤ
  pub names : List (List ℕ)
  -- the fields of the scanners `lines` and `csv`, a scanner, and the fields of `stdin` or `file`
  pub delimiter : List ℕ
  pub comma : ℕ
  pub header : Bool
  pub scanner : Scanner
  pub scanned : Scanner
  pub paths : List (List ℕ)
  -- a policy, an input, a list of inputs, and the input of another kind, whose fields the value is
  pub policy : Outline InputPolicy
  pub input : Outline InputPlan
  pub inputs : Outline (List InputPlan)
  pub with_fields : Kind → Outline InputPlan

abbrev pub Fields : Type 0
Fields = List (List ℕ × Reading)

-- every item is a batch
abbrev pub off : InputPolicy
off = record { count = 0; byte_size = 0; check = None }

-- the lines of standard input
abbrev pub default : InputPlan
default = input.Stdin (10 ∷ []) off

-- ---- fields, and what they are where they are absent

abbrev pub text_of : Option Reading → List ℕ
text_of (Some r) = r.text
text_of None = []

abbrev pub is_false_of : Option Reading → Bool
is_false_of (Some r) = r.is_false
is_false_of None = false

abbrev pub number_of : Option Reading → ℤ
number_of (Some r) = r.number
number_of None = pos 0

abbrev pub names_of : Option Reading → List (List ℕ)
names_of (Some r) = r.names
names_of None = []

-- a number from 0 to a most, or 0
abbrev pub within : ℕ → ℤ → ℕ
within most (pos n) = if nat_le n most then n else 0
within most (negsuc n) = 0

-- a scanner is of `csv` where it has this member, and else of `lines`
abbrev pub scanner_of : Option Reading → Option Reading → Scanner
scanner_of (Some csv) _ = records csv.comma csv.header
scanner_of None (Some r) = lines r.delimiter
scanner_of None None = lines (10 ∷ [])

-- the scanner stands before the codec; without either, a line ends with a line feed
abbrev pub scanned_of : Option Reading → Option Reading → Scanner
scanned_of (Some r) _ = r.scanner
scanned_of None (Some codec) = lines (codec_of codec.text)
scanned_of None None = lines (10 ∷ [])

abbrev pub policy_of : Option Reading → Outline InputPolicy
policy_of (Some r) = r.policy
policy_of None = plain off

abbrev pub input_of : Option Reading → Outline InputPlan
input_of (Some r) = r.input
input_of None = plain default

abbrev pub inputs_of : Option Reading → Outline (List InputPlan)
inputs_of (Some r) = r.inputs
inputs_of None = plain []

abbrev pub policy_at : List ℕ → Fields → Outline InputPolicy
policy_at key ms = below key (policy_of (find key ms))

abbrev pub input_at : List ℕ → Fields → Outline InputPlan
input_at key ms = below key (input_of (find key ms))

abbrev pub inputs_at : List ℕ → Fields → Outline (List InputPlan)
inputs_at key ms = below key (inputs_of (find key ms))

-- `policy`: `count` [0], `byte_size` [0], `check` [""]
abbrev pub policy_in : Fields → Outline InputPolicy
policy_in ms =
    let check = below (codes "check") (optional_check_as (text_of (find (codes "check") ms))) in
    record {
      form = record {
        count = within 16384 (number_of (find (codes "count") ms));
        byte_size = within 1073741824 (number_of (find (codes "byte_size") ms));
        check = check.form;
      };
      texts = check.texts;
    }

-- ---- inputs

abbrev pub named : List (List ℕ) → Contents (List ℕ)
named ns = record { list = ns; spare = 0 }

abbrev pub stdin_as : Scanner → InputPlan
stdin_as (lines d) = input.Stdin d off
stdin_as (records c h) = input.Csv (named []) c h

abbrev pub file_as : List (List ℕ) → Scanner → InputPlan
file_as ns (lines d) = input.File (named ns) d off
file_as ns (records c h) = input.Csv (named ns) c h

abbrev pub is_off : InputPolicy → Bool
is_off p = (p.count == 0) && (p.byte_size == 0) && not (is_some p.check)

-- An input with a policy: lines are batched by it as they are read, and the items of any other input are put in other batches.
abbrev pub with_policy : InputPolicy → InputPlan → InputPlan-F InputPlan → InputPlan
with_policy p i (InputPlan-F.Stdin d q) = if is_off q then input.Stdin d p else input.Regroup i p
with_policy p i (InputPlan-F.File ns d q) = if is_off q then input.File ns d p else input.Regroup i p
with_policy p i _ = input.Regroup i p

abbrev pub batched : InputPolicy → InputPlan → InputPlan
batched p i = with_policy p i (out-InputPlan i)

-- `batched`: `policy` [`{}`], whose check is made ready first, and `child`
abbrev pub batched_in : Fields → Outline InputPlan
batched_in ms =
    let policy = policy_at (codes "policy") ms in
    let child = input_at (codes "child") ms in
    record { form = batched policy.form child.form; texts = λ at. policy.texts at ++ child.texts at }

-- `sequence`: `inputs`
abbrev pub sequence_in : Fields → Outline InputPlan
sequence_in ms = formed input.Sequence (inputs_at (codes "inputs") ms)

-- `read_until`: `check`, `input`
abbrev pub until_in : Fields → Outline InputPlan
until_in ms =
    let check = below (codes "check") (check_as (text_of (find (codes "check") ms))) in
    let child = input_at (codes "input") ms in
    record { form = input.Until child.form blank; texts = λ at. check.texts at ++ child.texts at }

-- one row for each kind that has other inputs below it
abbrev pub with_fields_in : Kind → Fields → Outline InputPlan
with_fields_in kind.Batched ms = batched_in ms
with_fields_in kind.Sequence ms = sequence_in ms
with_fields_in kind.ReadUntil ms = until_in ms
with_fields_in _ ms = plain default

-- one row for each kind
abbrev pub input_as : Kind → Reading → Outline InputPlan
input_as kind.Stdin r = plain (stdin_as r.scanned)
input_as kind.File r = plain (file_as r.paths r.scanned)
input_as kind.Batched r = r.with_fields kind.Batched
input_as kind.Sequence r = r.with_fields kind.Sequence
input_as kind.ReadUntil r = r.with_fields kind.ReadUntil

abbrev pub input_in : Option (Chosen Reading) → Outline InputPlan
input_in (Some c) = below c.key (input_as c.kind c.value)
input_in None = plain default

-- ---- values

-- a value that is none of this
abbrev pub nothing : Reading
nothing = record {
  text = [];
  is_false = false;
  number = pos 0;
  names = [];
  delimiter = 10 ∷ [];
  comma = 44;
  header = true;
  scanner = lines (10 ∷ []);
  scanned = lines (10 ∷ []);
  paths = [];
  policy = plain off;
  input = plain default;
  inputs = plain [];
  with_fields = λ k. plain default;
}

abbrev pub reading_step : Val-F Reading → Reading
reading_step (Val-F.Str t) = record nothing { text = t }
reading_step (Val-F.Bool b) = record nothing { is_false = not b }
reading_step (Val-F.Int n) = record nothing { number = n }
reading_step (Val-F.Arr rs) = record nothing {
  names = map (λ r. r.text) rs;
  inputs = listed (map (λ r. r.input) rs);
}
reading_step (Val-F.Obj ms) = record nothing {
  delimiter = delimiter_of (text_of (find (codes "custom_delimiter") ms));
  comma = comma_of (text_of (find (codes "custom_delimiter") ms));
  header = not (is_false_of (find (codes "parse_header_row") ms));
  scanner = scanner_of (find (codes "csv") ms) (find (codes "lines") ms);
  scanned = scanned_of (find (codes "scanner") ms) (find (codes "codec") ms);
  paths = names_of (find (codes "paths") ms);
  policy = policy_in ms;
  input = input_in (chosen ms);
  with_fields = λ k. with_fields_in k ms;
}
reading_step _ = nothing

-- what a value is to be made as
abbrev pub reading : Val → Reading
reading = fold-Val Reading reading_step

abbrev pub met : List (List ℕ × Val) → Fields
met ms = map (λ m. (m.0, reading m.1)) ms
