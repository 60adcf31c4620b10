use Rattle.std.proofs.Common.{sym, ◌∙◌, refl}
use Rattle.std.proofs.lemmas.Result.{err_from_is_err_and}
use Rattle.bt_syntax.specs.Reading.{always}
use Rattle.bt_syntax.specs.Readers.{terms}
use Rattle.bt_syntax.specs.Readers as spec
use Rattle.bt_syntax.proofs.Turns.{loop_end, loop_go, loop_err}
use Rattle.bt_syntax.proofs.Progress.{term_takes, query_takes}
use Rattle.bt_syntax.proofs.grammar.Grammar.terms.Goals as goal

pub returns-in_err-term : goal.returns-in_err-term
unfolding terms
returns-in_err-term g c =
    let p = err_from_is_err_and c.from_residual.result c.from_residual.ensures.1 in
    rw (p.1, p.2) (loop_err (spec.is_sum) always _ (term_takes _ (query_takes c.args.self.now.depth)) _ _ _ _ _ c.loop-c.invariant (sym c.sees_sum.ensures ∙ c.loop-c-test.true) c.in_err-term.ensures)

pub loop-c-smaller : goal.loop-c-smaller
loop-c-smaller g c = (term_takes _ (query_takes c.args.self.now.depth)).less _ _ _ c.in_ok-term.ensures

pub loop-c-preserved : goal.loop-c-preserved
unfolding terms
loop-c-preserved g c =
    rw c.in_ok-push.ensures.ok (loop_go (spec.is_sum) always _ (term_takes _ (query_takes c.args.self.now.depth)) _ _ _ _ _ c.loop-c.invariant (sym c.sees_sum.ensures ∙ c.loop-c-test.true) c.in_ok-term.ensures refl)

pub returns : goal.returns
unfolding terms
returns g c = loop_end (spec.is_sum) always _ (term_takes _ (query_takes c.args.self.now.depth)) _ _ _ c.loop-c.invariant (sym c.sees_sum.ensures ∙ c.loop-c-test.false)
