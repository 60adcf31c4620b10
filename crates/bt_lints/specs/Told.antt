-- How lints are told.
use Rattle.std.specs.Prelude.{ℕ, List, ◌++◌, codes, decimal}
use Rattle.bt_lints.specs.declared.lint.MapLintKind.{MapLintKind}
use Rattle.bt_lints.specs.declared.lint.MapLintKind.TheVariants as kind

abbrev pub kind_text : MapLintKind → List ℕ
kind_text kind.UnknownFunction = codes "unknown function"
kind_text kind.UnknownMethod = codes "unknown method"
kind_text kind.WrongArguments = codes "wrong arguments"
kind_text kind.UnknownVariable = codes "unknown variable"
kind_text kind.UnknownMap = codes "unknown map"
kind_text kind.MapCycle = codes "map cycle"
kind_text kind.DuplicateMap = codes "duplicate map"
kind_text kind.RootInCheck = codes "root in a check"

-- a text, and a place by its line and its column
abbrev pub told_at : List ℕ → ℕ → ℕ → List ℕ
told_at text line column = text ++ codes " at line " ++ decimal line ++ codes " column " ++ decimal column
