use Rattle.std.proofs.Common.{take}
use Rattle.bt_text_lints.specs.Verdicts.{AreJudged, queries}
use Rattle.bt_text_lints.proofs.interpolated.interpolated.Given as goal

abbrev pub invariant-loop-span : goal.invariant-loop-span
invariant-loop-span l = AreJudged (queries l.text (take l.span-index l.span-items)) l.out
