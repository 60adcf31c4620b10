use Rattle.std.proofs.Common.{◌≡◌, ◌++◌, map, string_bytes}
use Rattle.std.specs.Vec.Iter.{into_iter_items}
use Rattle.bt_value.specs.declared.val.Val.{Str}
use Rattle.bt_matches.proofs.patterns.texts.Given as goal

abbrev pub invariant-loop-string : goal.invariant-loop-string
invariant-loop-string l = map Str (map string_bytes l.fn.strings.items) ≡ l.got ++ map Str (map string_bytes (into_iter_items l.string-iterator))
