use Rattle.std.proofs.Common.{sym, ◌∙◌, refl}
use Rattle.std.proofs.lemmas.Result.{err_from_is_err_and}
use Rattle.bt_lexer.specs.declared.token.Kind.TheVariants as k
use Rattle.bt_syntax.specs.Reading.{always}
use Rattle.bt_syntax.specs.Readers as spec
use Rattle.bt_syntax.specs.Readers.{keys}
use Rattle.bt_syntax.proofs.Turns.{loop_end, loop_go, loop_err}
use Rattle.bt_syntax.proofs.Progress.{next_key_takes}
use Rattle.bt_syntax.proofs.statements.keys.Goals as goal

pub returns-in_err-key : goal.returns-in_err-key
unfolding keys
returns-in_err-key c =
    let p = err_from_is_err_and c.from_residual.result c.from_residual.ensures.1 in
    rw (p.1, p.2) (loop_err (spec.is k.Dot) always _ next_key_takes _ _ _ _ _ c.loop-alloc.invariant (sym c.sees.ensures ∙ c.loop-alloc-test.true) c.in_err-key.ensures)

pub loop-alloc-smaller : goal.loop-alloc-smaller
loop-alloc-smaller c = next_key_takes.less _ _ _ c.in_ok-key.ensures

pub loop-alloc-preserved : goal.loop-alloc-preserved
unfolding keys
loop-alloc-preserved c =
    rw c.in_ok-push.ensures.ok (loop_go (spec.is k.Dot) always _ next_key_takes _ _ _ _ _ c.loop-alloc.invariant (sym c.sees.ensures ∙ c.loop-alloc-test.true) c.in_ok-key.ensures refl)

pub returns : goal.returns
unfolding keys
returns c = loop_end (spec.is k.Dot) always _ next_key_takes _ _ _ c.loop-alloc.invariant (sym c.sees.ensures ∙ c.loop-alloc-test.false)
