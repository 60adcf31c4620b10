-- Fields of outputs, and what they are where they are absent or have a lint.
use Rattle.std.specs.Prelude.{ℕ, zero, suc, ◌+◌, ◌==◌, ℤ, pos, negsuc, List, [], ◌∷◌, ◌++◌, Bool, true, false, not, ◌&&◌, ◌||◌, nat_le, Option, Some, None, if◌then◌else◌, codes, length}
use Rattle.bt_demand.specs.declared.routes.HoldPolicy.{HoldPolicy}
use Rattle.bt_schema.specs.Texts.{closing_bytes, period}

-- a number from 0 to a most, or 0
abbrev pub within : ℕ → ℤ → ℕ
within most (pos n) = if nat_le n most then n else 0
within most (negsuc n) = 0

-- the tries of a `retry`, the first and 1 to 8 more, or one
abbrev pub tries : ℤ → ℕ
tries (pos n) = if nat_le 1 n && nat_le n 8 then n + 1 else 1
tries (negsuc n) = 1

abbrev pub period_or_none : Option ℕ → ℕ
period_or_none (Some n) = if nat_le n 86400000 then n else 0
period_or_none None = 0

-- the milliseconds of a period of a day at most, or 0
abbrev pub milliseconds : List ℕ → ℕ
milliseconds text = period_or_none (period text)

abbrev pub or_line_feed : Option (List ℕ) → List ℕ
or_line_feed (Some x) = x
or_line_feed None = 10 ∷ []

-- the bytes that an output with this codec writes after each message, or a line feed
abbrev pub closing : List ℕ → List ℕ
closing codec = or_line_feed (closing_bytes true codec)

-- the batching of a broker: when what waits is released, and the check that ends a batch, where the empty text stands for none
pub record Batching : Type 0 where
  pub policy : HoldPolicy
  pub check : List ℕ

abbrev pub off : HoldPolicy
off = record { count = 0; byte_size = 0; period = 0 }

-- batching is on where one of its conditions is
abbrev pub is_on : Batching → Bool
is_on b = not (b.policy.count == 0) || not (b.policy.byte_size == 0) || not (b.policy.period == 0) || not (length b.check == 0)
