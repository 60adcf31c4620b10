-- The sinks of leaves.
use Rattle.std.specs.Prelude.{ℕ, ◌+◌, List, [], ◌∷◌, ◌++◌, if◌then◌else◌, is_some}
use Rattle.std.specs.Str.{bytes_eq}
use Rattle.bt_value.specs.Keys.{find}
use Rattle.bt_output_plan.specs.Drafts.{End}

-- a sink comes in with its first leaf
abbrev pub with_end : List End → End → List End
with_end sinks e = if is_some (find e.0 sinks) then sinks else sinks ++ e ∷ []

-- the same of leaves in their order
abbrev pub with_ends : List End → List End → List End
with_ends sinks [] = sinks
with_ends sinks (e ∷ es) = with_ends (with_end sinks e) es

-- The sinks of leaves, each once, in order of their first leaf, with the closing bytes of that leaf.
abbrev pub sinks_of : List End → List End
sinks_of es = with_ends [] es

-- the number of a sink: its place among the names
abbrev pub place : List (List ℕ) → List ℕ → ℕ
place [] name = 0
place (n ∷ ns) name = if bytes_eq name n then 0 else place ns name + 1
