-- Maps that apply one another, and mappings without a lint.
use Rattle.std.specs.Prelude.{ℕ, ◌<◌, List, [], ◌∷◌, length}
use Rattle.std.specs.List.{Contains}
use Rattle.bt_tree.specs.declared.tree.Mapping.{Mapping}
use Rattle.bt_tree.specs.declared.tree.Stmt.{Stmt}
use Rattle.bt_lints.specs.Lints.{IsLint, applications, lint, map_names}
use Rattle.bt_lints.specs.declared.lint.MapLintKind.{MapLintKind}
use Rattle.bt_lints.specs.declared.lint.Use.{Use}
use Rattle.bt_meaning.specs.Mapped.{maps_of}

-- a mapping that is used so has no lint of the kind
abbrev pub HasNo : MapLintKind → Mapping → Use → Type 0
HasNo kind m how = (at : ℕ) → IsLint m how (lint at kind) → ⊥

-- how many maps a mapping has
abbrev pub map_count : Mapping → ℕ
map_count m = length (map_names (maps_of m))

-- the body of a map applies the first of those behind it, where there is one
abbrev pub AppliesFirst : List Stmt → List ℕ → List (List ℕ) → Type 0
AppliesFirst ss n [] = Unit {0}
AppliesFirst ss n (k ∷ ns) = Contains (applications ss) (record { by = n; map = k })

-- a nest: names of maps, the body of each of which applies the next
abbrev pub IsNest : List Stmt → List (List ℕ) → Type 0
IsNest ss [] = Unit {0}
IsNest ss (n ∷ ns) = Contains (map_names ss) n × AppliesFirst ss n ns × IsNest ss ns

-- a numbering of maps by which each applies only maps of lower numbers
abbrev pub IsNumbering : List Stmt → (List ℕ → ℕ) → Type 0
IsNumbering ss number = (a b : List ℕ) → Contains (applications ss) (record { by = a; map = b }) → number b < number a
