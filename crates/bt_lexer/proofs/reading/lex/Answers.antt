use Rattle.std.proofs.Common.{Ok, Err, subst}
use Rattle.std.proofs.lemmas.Result.{err_from_is_err_and}
use Rattle.bt_lexer.specs.Lines.{HasTokens}
use Rattle.bt_lexer.specs.Spans.{IsFaultWithin}
use Rattle.bt_lexer.proofs.ReadLemmas.{gap_then, gap_within, end_reached}
use Rattle.bt_lexer.proofs.SpanLemmas.{fault_within}
use Rattle.bt_lexer.proofs.reading.lex.Goals as goal

pub loop-at-preserved-then-gap-gt0 : goal.loop-at-preserved-then-gap-gt0
loop-at-preserved-then-gap-gt0 c =
    let s = c.as_bytes-bytes.result.now in
    let g = rw c.from_place.ensures at c.gap_len-gap.ensures in
    record {
      within = gap_within s c.loop-at.at c.loop-at.after_dot c.gap_len-gap.result g c.loop-at.invariant.within;
      good = λ us h. c.loop-at.invariant.good us (gap_then s c.loop-at.at c.loop-at.after_dot c.gap_len-gap.result g c.if-gap-gt0.true (Ok us) h);
      bad = λ f h. c.loop-at.invariant.bad f (gap_then s c.loop-at.at c.loop-at.after_dot c.gap_len-gap.result g c.if-gap-gt0.true (Err f) h);
    }

pub returns-clause-tokens : goal.returns-clause-tokens
returns-clause-tokens c =
    let s = c.as_bytes-bytes.result.now in
    subst (λ y. HasTokens y c.loop-at.found.list) c.as_bytes-bytes.ensures.value
    (end_reached s c.loop-at.at c.loop-at.after_dot c.loop-at.found.list c.loop-at.behind c.loop-at-test.false c.loop-at.invariant.good)

pub returns-in_err-token-clause-place : goal.returns-in_err-token-clause-place
returns-in_err-token-clause-place c =
    let s = c.as_bytes-bytes.result.now in
    let fault = c.loop-at.invariant.bad c.in_err-token.field-0.0 c.in_err-token.ensures.fault in
    let p = err_from_is_err_and c.from_residual.result c.from_residual.ensures.1 in
    rw (p.1, p.2) (subst (λ y. IsFaultWithin y 0 c.in_err-token.field-0.0) c.as_bytes-bytes.ensures.value (fault_within s c.in_err-token.field-0.0 fault))
