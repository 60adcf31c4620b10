use Rattle.std.proofs.Common.{take, Ok}
use Rattle.bt_lint.specs.Inside.{PrintsBytes}
use Rattle.bt_lint.specs.Report.{joined}
use Rattle.bt_lint.proofs.printing.print_lines.Given as goal

abbrev pub invariant-loop-line : goal.invariant-loop-line
invariant-loop-line g l = PrintsBytes g.W.World (Ok tt) (joined (take l.line-index l.lines)) l.initial.world l.world
