-- Names among names.
use Rattle.std.specs.Prelude.{ℕ, List, [], ◌∷◌, ◌++◌, Bool, if◌then◌else◌, not, ◌&&◌}
use Rattle.std.specs.List.{list_any}
use Rattle.std.specs.Str.{bytes_eq}
use Rattle.bt_lints.specs.declared.reach.Application.{Application}

abbrev pub has : List (List ℕ) → List ℕ → Bool
has names name = list_any (λ x. bytes_eq x name) names

-- names, and behind them the maps that apply one map and weren't among them
abbrev pub with_appliers : List Application → List ℕ → List (List ℕ) → List (List ℕ)
with_appliers [] name names = names
with_appliers (a ∷ links) name names =
    with_appliers links name (if bytes_eq a.map name && not (has names a.by) then names ++ a.by ∷ [] else names)
