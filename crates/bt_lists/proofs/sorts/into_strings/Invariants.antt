use Rattle.std.proofs.Common.{◌≡◌, ◌++◌, map, string_bytes}
use Rattle.std.specs.Vec.Iter.{into_iter_items}
use Rattle.bt_lists.proofs.sorts.into_strings.Given as goal

abbrev pub invariant-loop-s : goal.invariant-loop-s
invariant-loop-s l = l.fn.ss.items ≡ map string_bytes l.got.items ++ into_iter_items l.s-iterator
