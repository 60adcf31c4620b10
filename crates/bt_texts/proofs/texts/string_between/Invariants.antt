use Rattle.std.proofs.Common.{◌≡◌, ◌++◌, map, length}
use Rattle.std.specs.Str.{IsCharBoundary}
use Rattle.memchr.specs.Find.{matches}
use Rattle.bt_value.specs.declared.val.Val.{Str}
use Rattle.bt_texts.specs.Texts as spec
use Rattle.bt_texts.proofs.Cuts.{Later}
use Rattle.bt_texts.proofs.texts.string_between.Given as goal

abbrev pub invariant-loop-at : goal.invariant-loop-at
invariant-loop-at l = record {
  so_far : map Str (spec.between l.s (length l.t) 0 (matches l.s l.t 0)) ≡ l.got ++ map Str (spec.between l.s (length l.t) l.from l.at-iterator);
  here : IsCharBoundary l.s l.from;
  later : Later (IsCharBoundary l.s) (length l.t) l.from l.at-iterator;
}
