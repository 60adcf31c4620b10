-- Bytes put into the records of a demand.
use Rattle.std.specs.Prelude.{◌≡◌, ℕ, ◌+◌, ◌<◌, ◌≤◌, List, length}
use Rattle.bt_demand.specs.Tree.{Trees}
use Rattle.bt_demand.specs.WellFormed.{leaves_in}
use Rattle.bt_outputs.specs.Bytes.{each_with_bytes}
use Rattle.bt_routing.specs.declared.supply.Supply.{Supply}

-- Each record has the bytes that were there, as many fewer are left to be served, and while any is left the bytes stay.
pub record Served (s t : Supply) (old new : Trees) : Type 0 where
  pub filled : (b : List ℕ) → (0 < s.left → s.bytes ≡ b) → new ≡ each_with_bytes b old
  pub left : t.left + length (leaves_in old) ≡ s.left
  pub stays : 0 < t.left → t.bytes ≡ s.bytes

-- where the bytes are for all of them
abbrev pub Fills : Supply → Supply → Trees → Trees → Type 0
Fills s t old new = length (leaves_in old) ≤ s.left → Served s t old new
