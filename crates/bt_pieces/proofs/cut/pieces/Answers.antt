use Rattle.std.proofs.Common.{arith}
use Rattle.bt_pieces.proofs.CutLemmas.{cut_more}
use Rattle.bt_pieces.proofs.cut.pieces.Goals as goal

pub loop-mark-preserved : goal.loop-mark-preserved
loop-mark-preserved c =
    let found = c.in-Some.ensures.some in
    record {
      within = omega (arith, found.1.0.high);
      rest = cut_more c.as_bytes-s.result.now c.loop-mark.from c.in-Some.mark c.in-Some.close c.loop-mark.spans.list c.push_literal.new.spans.list c.push.new.spans.list
          found.0 found.1 c.loop-mark.invariant.rest c.in_ok-push_literal.ensures c.in_ok-push.ensures;
    }
