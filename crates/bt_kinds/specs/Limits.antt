-- What a value may be at most: a number of 64 bits, and a depth of 127.
use Rattle.std.specs.Prelude.{ℕ, ℤ, List, codes, nat_lt, Option, Some, None, if◌then◌else◌}
use Rattle.bt_value.specs.Depth.{depth}
use Rattle.bt_value.specs.Plain.{is_i64}
use Rattle.bt_value.specs.declared.val.Val.{Val}
use Rattle.bt_value.specs.declared.val.Val.TheVariants as v
use Rattle.bt_value.specs.declared.message.Out.{Out}
use Rattle.bt_value.specs.declared.message.Out.TheVariants.{Value}
use Rattle.bt_kinds.specs.Kinds.{failure, out_of_range}

-- the number, or `out of range` past 64 bits
unfoldable pub int : List ℕ → ℤ → Out
int name z = if is_i64 z then Value (v.Int z) else out_of_range name

-- the number where there is one, or `out of range`
abbrev pub int_of : List ℕ → Option ℤ → Out
int_of name (Some n) = Value (v.Int n)
int_of name None = out_of_range name

-- the value, or `too deep` where lists and objects nest deeper than 127
unfoldable pub limited : List ℕ → Val → Out
limited name x = if nat_lt 127 (depth x) then failure name (codes "too deep") else Value x
