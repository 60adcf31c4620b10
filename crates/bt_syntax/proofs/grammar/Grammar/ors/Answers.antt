use Rattle.std.proofs.Common.{sym, ◌∙◌, refl}
use Rattle.std.proofs.lemmas.Result.{err_from_is_err_and}
use Rattle.bt_lexer.specs.declared.token.Kind.TheVariants as k
use Rattle.bt_syntax.specs.Reading.{always}
use Rattle.bt_syntax.specs.Readers.{ors}
use Rattle.bt_syntax.specs.Readers as spec
use Rattle.bt_syntax.proofs.Turns.{loop_end, loop_go, loop_err}
use Rattle.bt_syntax.proofs.Progress.{or_takes, query_takes}
use Rattle.bt_syntax.proofs.grammar.Grammar.ors.Goals as goal

pub returns-in_err-operand : goal.returns-in_err-operand
unfolding ors
returns-in_err-operand g c =
    let p = err_from_is_err_and c.from_residual.result c.from_residual.ensures.1 in
    rw (p.1, p.2) (loop_err (spec.is k.Or) always _ (or_takes _ (query_takes c.args.self.now.depth)) _ _ _ _ _ c.loop-c.invariant (sym c.sees.ensures ∙ c.loop-c-test.true) c.in_err-operand.ensures)

pub loop-c-smaller : goal.loop-c-smaller
loop-c-smaller g c = (or_takes _ (query_takes c.args.self.now.depth)).less _ _ _ c.in_ok-operand.ensures

pub loop-c-preserved : goal.loop-c-preserved
unfolding ors
loop-c-preserved g c =
    rw c.in_ok-push.ensures.ok (loop_go (spec.is k.Or) always _ (or_takes _ (query_takes c.args.self.now.depth)) _ _ _ _ _ c.loop-c.invariant (sym c.sees.ensures ∙ c.loop-c-test.true) c.in_ok-operand.ensures refl)

pub returns : goal.returns
unfolding ors
returns g c = loop_end (spec.is k.Or) always _ (or_takes _ (query_takes c.args.self.now.depth)) _ _ _ c.loop-c.invariant (sym c.sees.ensures ∙ c.loop-c-test.false)
