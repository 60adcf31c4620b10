use Rattle.std.proofs.Common.{sym, subst, []}
use Rattle.bt_text_lints.specs.Verdicts.{AreJudged, none}
use Rattle.bt_text_lints.specs.declared.verdict.Verdict.{Verdict}
use Rattle.bt_text_lints.proofs.Queries.{one-further, span-whole}
use Rattle.bt_text_lints.proofs.interpolated.interpolated.Goals as goal

pub loop-span-init : goal.loop-span-init
loop-span-init c = subst (λ (v : Verdict). AreJudged [] v) (sym c.empty-out.ensures) none

pub push_span-requires : goal.push_span-requires
push_span-requires c = λ is. span-whole c.args.text.now c.in_ok-spans.spans.list c.as_slice-span-items.result.now c.loop-span.span-index _ c.utf8.text c.in_ok-spans.ensures c.as_slice-span-items.ensures c.loop-span-test.true is

pub loop-span-preserved : goal.loop-span-preserved
loop-span-preserved c = one-further c.args.text.now c.as_slice-span-items.result.now c.loop-span.span-index _ c.loop-span.out _ c.loop-span-test.true c.loop-span.invariant c.in_ok-push_span.ensures
