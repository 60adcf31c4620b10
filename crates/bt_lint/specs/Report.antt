-- What `lint` prints.
use Rattle.std.specs.Prelude.{ℕ, List, [], ◌∷◌, ◌++◌, Bool, true, false, map, if◌then◌else◌}
use Rattle.std.specs.List.{flat_map}
use Rattle.bt_config.specs.Migrated.{migrated}
use Rattle.bt_schema.specs.Lines.{line}
use Rattle.bt_schema.specs.declared.lints.Lint.{Lint}
use Rattle.bt_value.specs.Reading.{text}
use Rattle.bt_value.specs.declared.val.Val.{Val}

-- a line with its line break
abbrev pub ended : List ℕ → List ℕ
ended bytes = bytes ++ 10 ∷ []

-- the line of a lint with its line break
abbrev pub lint_print : Lint → List ℕ
lint_print lint = ended (line lint)

-- The lines that are printed of a configuration with these lints: one for each lint. A configuration without lints is printed in the
-- words of version 2, where that is asked for.
abbrev pub prints_of : Bool → Val → List Lint → List (List ℕ)
prints_of migrate config [] = if migrate then ended (text (migrated config)) ∷ [] else []
prints_of migrate config (lint ∷ lints) = map lint_print (lint ∷ lints)

-- lines one behind the other
abbrev pub joined : List (List ℕ) → List ℕ
joined lines = flat_map (λ l. l) lines

-- whether there is a lint
abbrev pub is_some_lint : List Lint → Bool
is_some_lint [] = false
is_some_lint (lint ∷ lints) = true
