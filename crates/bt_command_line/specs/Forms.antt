-- The forms of the commands, as simple commands of `clap`.
use Rattle.std.specs.Prelude.{◌==◌, true, false, ℕ, Bool, List, Option, Some, None, option_and_then, length, codes, slice_get, if◌then◌else◌}
use Rattle.std.specs.Str.{bytes_eq}
use Rattle.clap.specs.Words.{App, Row, Rule, Text, fault_of, first_of, matches_of, new_app, new_rule, with_rule}
use Rattle.clap.specs.declared.builder.action.ArgAction.TheVariants.{SetTrue}
use Rattle.bt_command_line.specs.declared.commands.Word.{Word}
use Rattle.bt_command_line.specs.declared.commands.Word.TheVariants as word

-- an option with a value: `--NAME VALUE`
abbrev pub option_rule : List ℕ → Rule
option_rule name = record (new_rule name) { long = Some name }

-- the same, which must be there
abbrev pub required_rule : List ℕ → Rule
required_rule name = record (option_rule name) { required = true }

-- a flag: `--NAME`
abbrev pub flag_rule : List ℕ → Rule
flag_rule name = record (new_rule name) { long = Some name; action = Some SetTrue }

-- an argument, which must be there
abbrev pub argument_rule : List ℕ → Rule
argument_rule name = record (new_rule name) { required = true }

-- the configuration's file: `-c FILE` or `--config FILE`, which must be there
abbrev pub config_rule : Rule
config_rule = record (option_rule (codes "config")) { short = Some 99; required = true }

-- a command without the flags `-h` and `--help`
abbrev pub bare : List ℕ → App
bare name = let a = new_app name in record a { top = record a.top { disable_help_flag = true } }

-- the form of each command:
--   run -c FILE [--answers FILE] [--trace PREFIX]
--   lint [--migrate] FILE
--   test FILE
--   blobl [--raw] [--pretty] MAPPING
--   load N SEED
--   audit -c FILE --trace PREFIX
abbrev pub app : Word → App
app word.Run = with_rule (with_rule (with_rule (bare (codes "run")) config_rule) (option_rule (codes "answers"))) (option_rule (codes "trace"))
app word.Lint = with_rule (with_rule (bare (codes "lint")) (flag_rule (codes "migrate"))) (argument_rule (codes "file"))
app word.Test = with_rule (bare (codes "test")) (argument_rule (codes "file"))
app word.Blobl = with_rule (with_rule (with_rule (bare (codes "blobl")) (flag_rule (codes "raw"))) (flag_rule (codes "pretty"))) (argument_rule (codes "mapping"))
app word.Load = with_rule (with_rule (bare (codes "load")) (argument_rule (codes "number"))) (argument_rule (codes "seed"))
app word.Audit = with_rule (with_rule (bare (codes "audit")) config_rule) (required_rule (codes "trace"))

-- the command that a word names
abbrev pub named : List ℕ → Option Word
named t =
    if bytes_eq t (codes "run") then Some word.Run
    else if bytes_eq t (codes "lint") then Some word.Lint
    else if bytes_eq t (codes "test") then Some word.Test
    else if bytes_eq t (codes "blobl") then Some word.Blobl
    else if bytes_eq t (codes "load") then Some word.Load
    else if bytes_eq t (codes "audit") then Some word.Audit
    else None

-- the command that the first word names
abbrev pub command_of : List Text → Option Word
command_of words = option_and_then named (slice_get words 0)

-- The words, the first of them the command's own, are of the command's form: `clap` has no fault of them. An option or a flag that
-- is given twice is such a fault, and so is a word that the form doesn't have.
unfoldable pub has_form : Word → List Text → Bool
has_form w words = length (fault_of (app w) words) == 0

-- what `clap` reads of the words: which are options, flags, values and arguments
unfoldable pub rows : Word → List Text → List Row
rows w words = matches_of (app w) words

-- the value of an option or an argument, where it is given
abbrev pub value_in : Text → List Row → Option Text
value_in name rows = first_of name rows

abbrev pub is_true : Option Text → Bool
is_true (Some t) = bytes_eq t (codes "true")
is_true None = false

-- whether a flag is given
abbrev pub flag_in : Text → List Row → Bool
flag_in name rows = is_true (first_of name rows)
