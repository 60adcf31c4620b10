-- How many bytes batches have.
use Rattle.std.proofs.Common.{◌≡◌, ℕ, ◌+◌, ◌-◌, ◌^◌, min, List, [], ◌∷◌, ◌++◌, length, arith}
use Rattle.bt_ports.specs.declared.parts.Item.{Item}
use Rattle.bt_intake.specs.Batches.{bytes_in}
use Rattle.bt_intake.specs.Gathering.{size_of}

bytes_in-append : (xs ys : List Item) → bytes_in (xs ++ ys) ≡ bytes_in xs + bytes_in ys
bytes_in-append [] ys = omega arith
bytes_in-append (x ∷ xs) ys = omega (arith, bytes_in-append xs ys)

-- the size of a batch with one item more
pub size-more : (batch : List Item) (i : Item) (size more : ℕ) → size ≡ size_of batch → more ≡ min (2 ^ 64 - 1) (size + length i.bytes) → more ≡ size_of (batch ++ i ∷ [])
size-more batch i size more e m = omega (arith, e, m, bytes_in-append batch (i ∷ []))
