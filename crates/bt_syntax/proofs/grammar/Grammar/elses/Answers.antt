use Rattle.std.proofs.Common.{sym, ◌∙◌}
use Rattle.std.proofs.lemmas.Result.{err_from_is_err_and}
use Rattle.bt_syntax.proofs.ElseTurns.{else_end, else_go, else_err, else_last, else_less, no_else}
use Rattle.bt_syntax.proofs.Progress.{query_takes}
use Rattle.bt_syntax.proofs.grammar.Grammar.elses.Goals as goal

pub returns-in_err-expect_reserved : goal.returns-in_err-expect_reserved
returns-in_err-expect_reserved g c =
    let p = err_from_is_err_and c.from_residual-in_err-expect_reserved.result c.from_residual-in_err-expect_reserved.ensures.1 in
    rw (p.1, p.2) (no_else _ (query_takes c.args.self.now.depth) _ _ _ _ _ c.loop-c.invariant (sym c.sees_reserved.ensures ∙ c.loop-c-test.true) c.in_err-expect_reserved.ensures)

pub returns-then-not-sees_reserved : goal.returns-then-not-sees_reserved
returns-then-not-sees_reserved g c =
    let whole = else_last _ (query_takes c.args.self.now.depth) _ _ _ _ _ c.loop-c.invariant (sym c.sees_reserved.ensures ∙ c.loop-c-test.true) c.in_ok-expect_reserved.ensures (sym c.sees_reserved-in-loop-c.ensures ∙ c.if-not-sees_reserved.true) in
    rw whole c.last.ensures

pub returns-in_err-branch : goal.returns-in_err-branch
returns-in_err-branch g c =
    let p = err_from_is_err_and c.from_residual-in_err-branch.result c.from_residual-in_err-branch.ensures.1 in
    rw (p.1, p.2) (else_err _ (query_takes c.args.self.now.depth) _ _ _ _ _ c.loop-c.invariant (sym c.sees_reserved.ensures ∙ c.loop-c-test.true) c.in_ok-expect_reserved.ensures _ _ (sym c.sees_reserved-in-loop-c.ensures ∙ c.if-not-sees_reserved.false) c.in_err-branch.ensures)

pub loop-c-smaller : goal.loop-c-smaller
loop-c-smaller g c = else_less _ (query_takes c.args.self.now.depth) _ _ _ _ _ c.in_ok-expect_reserved.ensures (sym c.sees_reserved-in-loop-c.ensures ∙ c.if-not-sees_reserved.false) c.in_ok-branch.ensures

pub loop-c-preserved : goal.loop-c-preserved
loop-c-preserved g c =
    rw c.in_ok-push-2.ensures.ok (else_go _ (query_takes c.args.self.now.depth) _ _ _ _ _ c.loop-c.invariant (sym c.sees_reserved.ensures ∙ c.loop-c-test.true) c.in_ok-expect_reserved.ensures _ _ (sym c.sees_reserved-in-loop-c.ensures ∙ c.if-not-sees_reserved.false) c.in_ok-branch.ensures)

pub returns : goal.returns
returns g c = else_end _ (query_takes c.args.self.now.depth) _ _ _ c.loop-c.invariant (sym c.sees_reserved.ensures ∙ c.loop-c-test.false)
