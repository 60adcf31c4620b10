-- Empty chains hold nothing.
use Rattle.std.proofs.Common.{◌≡◌, ℕ, zero, suc, [], arith, refl}
use Rattle.std.specs.Prelude.{replicate}
use Rattle.bt_chains.specs.Places.{total_length}

pub none_chained : (n : ℕ) → total_length (replicate n []) ≡ 0
none_chained zero = refl
none_chained (suc n) = let a = none_chained n in omega arith
