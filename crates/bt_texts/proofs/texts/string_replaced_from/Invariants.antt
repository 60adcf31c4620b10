use Rattle.std.proofs.Common.{◌≡◌, ◌++◌, length, string_bytes}
use Rattle.std.specs.Str.{IsCharBoundary}
use Rattle.memchr.specs.Find.{matches}
use Rattle.bt_texts.specs.Texts as spec
use Rattle.bt_texts.proofs.Cuts.{Later}
use Rattle.bt_texts.proofs.texts.string_replaced_from.Given as goal

abbrev pub invariant-loop-at : goal.invariant-loop-at
invariant-loop-at l = record {
  so_far : spec.replaced_from l.s (length l.a) l.t 0 (matches l.s l.a 0) ≡ string_bytes l.out ++ spec.replaced_from l.s (length l.a) l.t l.from l.at-iterator;
  here : IsCharBoundary l.s l.from;
  later : Later (IsCharBoundary l.s) (length l.a) l.from l.at-iterator;
}
