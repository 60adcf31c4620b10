use Rattle.std.proofs.Common.{◌≡◌, ◌++◌, map, string_bytes}
use Rattle.std.specs.Vec.Iter.{into_iter_items}
use Rattle.bt_value.specs.declared.val.Val.{Str}
use Rattle.bt_lists.proofs.sorts.string_values.Given as goal

abbrev pub invariant-loop-s : goal.invariant-loop-s
invariant-loop-s l = map Str (map string_bytes l.fn.ss.items) ≡ l.got ++ map Str (map string_bytes (into_iter_items l.s-iterator))
