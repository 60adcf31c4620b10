use Rattle.std.proofs.Common.{◌≡◌, ◌≤◌, ◌++◌, map, length}
use Rattle.memchr.specs.Find.{matches}
use Rattle.bt_value.specs.declared.val.Val.{Bytes}
use Rattle.bt_texts.specs.Texts as spec
use Rattle.bt_texts.proofs.Cuts.{Later, Within}
use Rattle.bt_texts.proofs.texts.bytes_between.Given as goal

abbrev pub invariant-loop-at : goal.invariant-loop-at
invariant-loop-at l = record {
  so_far : map Bytes (spec.between l.s (length l.t) 0 (matches l.s l.t 0)) ≡ l.got ++ map Bytes (spec.between l.s (length l.t) l.from l.at-iterator);
  here : l.from ≤ length l.s;
  later : Later (Within l.s) (length l.t) l.from l.at-iterator;
}
