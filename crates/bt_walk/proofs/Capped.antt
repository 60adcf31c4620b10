-- Numbers of which no more than a bound is told.
use Rattle.std.proofs.Common.{◌≡◌, ◌≤◌, ◌*◌, ℕ, min, nat_lt, ◌==◌, arith}
use Rattle.std.proofs.lemmas.Bool.Decides.{nat_tests}

pub capped_product : (k n : ℕ) → 1 ≤ k → min 257 (k * min 257 n) ≡ min 257 (k * n)
capped_product k n h = grind arith

-- a period is past a day, and on, where as much as is told of it is
pub is_past_a_day : (n : ℕ) → nat_lt 86400000 (min 86400001 n) ≡ nat_lt 86400000 n
is_past_a_day n = grind (arith, nat_tests)

pub is_some_time : (n : ℕ) → (min 86400001 n == 0) ≡ (n == 0)
is_some_time n = grind (arith, nat_tests)
