use Rattle.std.proofs.Common.{◌≡◌, map, take}
use Rattle.bt_value.specs.declared.val.Val.{Int}
use Rattle.bt_lists.proofs.sorts.number_values.Given as goal

abbrev pub invariant-loop-n : goal.invariant-loop-n
invariant-loop-n l = l.got ≡ map Int (take l.n-index l.ns)
