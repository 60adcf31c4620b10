-- The lines of `err`, each without its line break.
use Rattle.std.specs.Prelude.{ℕ, List, ◌++◌, Option, Some, None, codes, decimal}
use Rattle.bt_ports.specs.declared.parts.What.{What}
use Rattle.bt_ports.specs.declared.parts.What.TheVariants as what
use Rattle.bt_ports.specs.declared.parts.Asked.{Asked}

abbrev pub usage_line : List ℕ
usage_line = codes "usage: benthos run, lint, test, blobl or load"

abbrev pub no_memory_line : List ℕ
no_memory_line = codes "no memory"

-- the name that a call was given, or a dash where it was given none
abbrev pub name_of : Option (List ℕ) → List ℕ
name_of None = codes "-"
name_of (Some name) = name

-- what is said of a call that failed, by what it asked for
abbrev pub cannot : What → List ℕ → List ℕ
cannot what.File name = codes "file " ++ name ++ codes ": cannot read"
cannot what.Source name = codes "source " ++ name ++ codes ": cannot open"
cannot what.Sink name = codes "sink " ++ name ++ codes ": cannot open"
cannot what.Answers name = codes "answers " ++ name ++ codes ": cannot open"
cannot what.Trace name = codes "trace " ++ name ++ codes ": cannot open"

abbrev pub failure_line : Asked → List ℕ
failure_line call = cannot call.what (name_of call.name)

-- the bound was met: so many bytes were taken
abbrev pub bound_line : ℕ → List ℕ
bound_line bytes = codes "input: " ++ decimal bytes ++ codes " bytes taken"

-- a line of the input is longer than its limit
abbrev pub long_line : ℕ → List ℕ
long_line n = codes "line " ++ decimal n ++ codes ": longer than 65536 bytes"
