-- The commands that words are read as.
use Rattle.std.specs.Prelude.{◌≡◌, ◌≤◌, ◌<◌, ◌^◌, ℕ, true, List, Some, option_map, codes, IsSomeAnd}
use Rattle.std.specs.Str.Parse.{IsNumeral, digits_value}
use Rattle.clap.specs.Words.{Row, Text}
use Rattle.bt_command_line.specs.declared.commands.Command.{Command}
use Rattle.bt_command_line.specs.declared.commands.Command.TheVariants as command
use Rattle.bt_command_line.specs.declared.commands.Word.{Word}
use Rattle.bt_command_line.specs.declared.commands.Word.TheVariants as word
use Rattle.bt_command_line.specs.Forms.{command_of, has_form, rows, value_in, flag_in}

-- the text is a run of decimal digits, and they are the number
abbrev pub IsNumber : ℕ → List ℕ → Type 0
IsNumber n t = IsNumeral 10 t × (digits_value 10 t ≡ n)

-- the word of a command
abbrev pub word_of : Command → Word
word_of (command.Run config answers trace) = word.Run
word_of (command.Lint migrate file) = word.Lint
word_of (command.Test file) = word.Test
word_of (command.Blobl raw pretty mapping) = word.Blobl
word_of (command.Load number seed) = word.Load
word_of (command.Audit config trace) = word.Audit

-- the parts of a command are those that were read
abbrev pub HasParts : Command → List Row → Type 0
HasParts (command.Run config answers trace) rs =
    (value_in (codes "config") rs ≡ Some config.now) × (value_in (codes "answers") rs ≡ option_map (λ t. t.now) answers)
    × (value_in (codes "trace") rs ≡ option_map (λ t. t.now) trace)
HasParts (command.Lint migrate file) rs = (flag_in (codes "migrate") rs ≡ migrate) × (value_in (codes "file") rs ≡ Some file.now)
HasParts (command.Test file) rs = value_in (codes "file") rs ≡ Some file.now
HasParts (command.Blobl raw pretty mapping) rs =
    (flag_in (codes "raw") rs ≡ raw) × (flag_in (codes "pretty") rs ≡ pretty) × (value_in (codes "mapping") rs ≡ Some mapping.now)
HasParts (command.Load number seed) rs =
    IsSomeAnd (value_in (codes "number") rs) (IsNumber number) × (1 ≤ number) × (number ≤ 1000000)
    × IsSomeAnd (value_in (codes "seed") rs) (IsNumber seed) × (seed < 2 ^ 64)
HasParts (command.Audit config trace) rs = (value_in (codes "config") rs ≡ Some config.now) × (value_in (codes "trace") rs ≡ Some trace.now)

-- no command of this word has the parts that were read
abbrev pub NoParts : Word → List Row → Type 0
NoParts w rs = (c : Command) → word_of c ≡ w → HasParts c rs → ⊥

-- words of a command's form are read as it
abbrev pub ReadsAs : Word → List Text → Command → Type 0
ReadsAs w words c = (word_of c ≡ w) × (has_form w words ≡ true) × HasParts c (rows w words)

-- The words are the command: the first names it, all are of its form, and its parts are those that they have.
abbrev pub IsCommand : List Text → Command → Type 0
IsCommand words c = (command_of words ≡ Some (word_of c)) × ReadsAs (word_of c) words c
