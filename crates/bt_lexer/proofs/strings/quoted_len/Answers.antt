use Rattle.std.proofs.Common.{◌≤◌, ◌+◌, ◌∙◌, sym, ap, length, arith}
use Rattle.std.proofs.lemmas.List.{drop_all}
use Rattle.std.proofs.lemmas.Grind.{common_steps}
use Rattle.bt_lexer.proofs.StringLemmas.{quoted_end, quoted_here, quoted_stuck, quoted_step, quoted_found, quoted_not_found, part_within}
use Rattle.bt_lexer.proofs.strings.quoted_len.Goals as goal

pub returns-then-s-at-eq34 : goal.returns-then-s-at-eq34
returns-then-s-at-eq34 c =
    let s = c.args.s.now in
    quoted_found s (c.loop-at.at + 1) c.requires (sym c.loop-at.invariant.same ∙ quoted_here s c.loop-at.at c.loop-at-test.true c.if-s-at-eq34.true)

pub returns-then-len-eq0 : goal.returns-then-len-eq0
returns-then-len-eq0 c =
    let s = c.args.s.now in
    let len = rw c.from_place.ensures at c.part_len-len.ensures in
    quoted_not_found s (sym c.loop-at.invariant.same ∙ quoted_stuck s c.loop-at.at c.loop-at-test.true c.if-s-at-eq34.false (sym len ∙ c.if-len-eq0.true))

pub overflow_add-at : goal.overflow_add-at
overflow_add-at c =
    let s = c.args.s.now in
    let len = rw c.from_place.ensures at c.part_len-len.ensures in
    let w : c.loop-at.at + c.part_len-len.result ≤ length s = part_within s c.loop-at.at c.part_len-len.result c.loop-at-test.true len in
    grind (arith, common_steps)

pub loop-at-preserved : goal.loop-at-preserved
loop-at-preserved c =
    let s = c.args.s.now in
    let len = rw c.from_place.ensures at c.part_len-len.ensures in
    record {
      within = part_within s c.loop-at.at c.part_len-len.result c.loop-at-test.true len;
      same = sym (quoted_step s c.loop-at.at c.part_len-len.result c.loop-at-test.true c.if-s-at-eq34.false len (omega arith)) ∙ c.loop-at.invariant.same;
    }

pub returns : goal.returns
returns c =
    let s = c.args.s.now in
    quoted_not_found s (sym c.loop-at.invariant.same ∙ ap (λ y. quoted_end y 0 c.loop-at.at) (drop_all c.loop-at.at s c.loop-at-test.false))
