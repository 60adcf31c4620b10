use Rattle.std.proofs.Common.{List, ℕ, Ok, Err, subst, arith}
use Rattle.bt_lint.specs.Inside.{PrintsBytes}
use Rattle.bt_lint.proofs.Printed.{printed-none, printed-all, printed-next, printed-failed}
use Rattle.bt_lint.proofs.printing.print_lines.Goals as goal

pub loop-line-init : goal.loop-line-init
loop-line-init g c = printed-none g.W.World c.args.lines.now c.args.world.now

pub loop-line-preserved : goal.loop-line-preserved
loop-line-preserved g c =
    let one = subst (λ (x : List ℕ). PrintsBytes g.W.World (Ok tt) x c.loop-line.world c.print_line.new.world) c.line-item.is c.in-Ok.ensures in
    printed-next g.W.World c.args.lines.now c.args.world.now c.loop-line.line-index c.line-item.result c.loop-line-test.true c.loop-line.world c.print_line.new.world c.loop-line.invariant one

pub returns-in-Err : goal.returns-in-Err
returns-in-Err g c =
    let one = subst (λ (x : List ℕ). PrintsBytes g.W.World (Err c.in-Err.failed) x c.loop-line.world c.print_line.new.world) c.line-item.is c.in-Err.ensures in
    printed-failed g.W.World c.args.lines.now c.args.world.now c.loop-line.line-index c.line-item.result c.loop-line-test.true c.loop-line.world c.print_line.new.world c.loop-line.invariant c.in-Err.failed one

pub returns : goal.returns
returns g c = printed-all g.W.World c.args.lines.now c.args.world.now c.loop-line.line-index c.loop-line.world (omega (arith, c.loop-line-test.false)) c.loop-line.invariant
