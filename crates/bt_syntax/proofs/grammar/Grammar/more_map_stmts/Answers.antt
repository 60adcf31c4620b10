use Rattle.std.proofs.Common.{sym, ◌∙◌, refl}
use Rattle.std.proofs.lemmas.Result.{err_from_is_err_and}
use Rattle.bt_syntax.specs.Reading.{always}
use Rattle.bt_syntax.specs.Readers as spec
use Rattle.bt_syntax.proofs.Turns.{loop_end, loop_go, loop_err}
use Rattle.bt_syntax.proofs.Progress.{next_map_stmt_takes, query_takes}
use Rattle.bt_syntax.proofs.grammar.Grammar.more_map_stmts.Goals as goal

pub returns-in_err-stmt : goal.returns-in_err-stmt
returns-in_err-stmt g c =
    let p = err_from_is_err_and c.from_residual.result c.from_residual.ensures.1 in
    rw (p.1, p.2) (loop_err spec.separates_statement always _ (next_map_stmt_takes _ (query_takes c.args.self.now.depth)) _ _ _ _ _ c.loop-c.invariant (sym c.sees_statement_end.ensures ∙ c.loop-c-test.true) c.in_err-stmt.ensures)

pub loop-c-smaller : goal.loop-c-smaller
loop-c-smaller g c = (next_map_stmt_takes _ (query_takes c.args.self.now.depth)).less _ _ _ c.in_ok-stmt.ensures

pub loop-c-preserved : goal.loop-c-preserved
loop-c-preserved g c =
    rw c.in_ok-push.ensures.ok (loop_go spec.separates_statement always _ (next_map_stmt_takes _ (query_takes c.args.self.now.depth)) _ _ _ _ _ c.loop-c.invariant (sym c.sees_statement_end.ensures ∙ c.loop-c-test.true) c.in_ok-stmt.ensures refl)

pub returns : goal.returns
returns g c = loop_end spec.separates_statement always _ (next_map_stmt_takes _ (query_takes c.args.self.now.depth)) _ _ _ c.loop-c.invariant (sym c.sees_statement_end.ensures ∙ c.loop-c-test.false)
