use Rattle.std.proofs.Common.{◌≡◌, ◌∙◌, sym, ap, drop, true, false}
use Rattle.std.proofs.lemmas.List.{drop_all}
use Rattle.bt_lexer.specs.Strings.{begins_tripled}
use Rattle.bt_lexer.proofs.StringLemmas.{tripled_place, tripled_here, tripled_step, tripled_found, tripled_not_found}
use Rattle.bt_lexer.proofs.strings.tripled_len.Goals as goal

pub returns-then-has_three_marks : goal.returns-then-has_three_marks
returns-then-has_three_marks c =
    let s = c.args.s.now in
    let here : begins_tripled (drop c.loop-at.at s) ≡ true = sym (rw (← c.from_place.ensures) c.has_three_marks.ensures) ∙ c.if-has_three_marks.true in
    tripled_found s c.loop-at.at c.requires (sym c.loop-at.invariant ∙ tripled_here s c.loop-at.at c.loop-at-test.true here)

pub loop-at-preserved : goal.loop-at-preserved
loop-at-preserved c =
    let s = c.args.s.now in
    let here : begins_tripled (drop c.loop-at.at s) ≡ false = sym (rw (← c.from_place.ensures) c.has_three_marks.ensures) ∙ c.if-has_three_marks.false in
    sym (tripled_step s c.loop-at.at c.loop-at-test.true here) ∙ c.loop-at.invariant

pub returns : goal.returns
returns c =
    let s = c.args.s.now in
    tripled_not_found s (sym c.loop-at.invariant ∙ ap (λ y. tripled_place y c.loop-at.at) (drop_all c.loop-at.at s c.loop-at-test.false))
