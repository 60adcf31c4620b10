-- Numbers in one of several lists.
use Rattle.std.specs.Prelude.{ℕ, List, Bool, nat_eq}
use Rattle.std.specs.List.{list_any}
use Rattle.std.specs.Set.{is_member}

-- whether one of the lists has a number
abbrev pub is_in_any : List (List ℕ) → ℕ → Bool
is_in_any os q = list_any (λ o. is_member nat_eq o q) os
