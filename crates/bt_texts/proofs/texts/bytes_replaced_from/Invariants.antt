use Rattle.std.proofs.Common.{◌≡◌, ◌≤◌, ◌++◌, length}
use Rattle.memchr.specs.Find.{matches}
use Rattle.bt_texts.specs.Texts as spec
use Rattle.bt_texts.proofs.Cuts.{Later, Within}
use Rattle.bt_texts.proofs.texts.bytes_replaced_from.Given as goal

abbrev pub invariant-loop-at : goal.invariant-loop-at
invariant-loop-at l = record {
  so_far : spec.replaced_from l.s (length l.a) l.t 0 (matches l.s l.a 0) ≡ l.out ++ spec.replaced_from l.s (length l.a) l.t l.from l.at-iterator;
  here : l.from ≤ length l.s;
  later : Later (Within l.s) (length l.a) l.from l.at-iterator;
}
