use Rattle.std.proofs.Common.{List, ℕ, Ok, Err, ap, sym, subst}
use Rattle.bt_lint.specs.Inside.{PrintsBytes}
use Rattle.bt_lint.specs.Report.{joined}
use Rattle.bt_lint.proofs.Whole.{report-unprinted, report-printed, report-failed}
use Rattle.bt_lint.proofs.command.print_report.Goals as goal

pub returns-in-Err : goal.returns-in-Err
returns-in-Err g c = report-unprinted g.W.World c.args.migrate c.args.linted.now c.args.world.now c.out_of_memory.new.world c.out_of_memory.ensures

pub returns-in-Ok-print_lines : goal.returns-in-Ok-print_lines
returns-in-Ok-print_lines g c =
    let printed = subst (λ (ls : List (List ℕ)). PrintsBytes g.W.World (Ok c.in-Ok-print_lines.field-0) (joined ls) c.args.world.now c.print_lines.new.world) c.as_slice.ensures c.in-Ok-print_lines.ensures in
    report-printed g.W.World c.args.migrate c.args.linted.now c.has_lint.result c.in-Ok-print_lines.field-0 c.in-Ok.lines c.args.world.now c.print_lines.new.world c.has_lint.ensures c.in-Ok.ensures printed

pub returns : goal.returns
returns g c =
    let failed = subst (λ (ls : List (List ℕ)). PrintsBytes g.W.World (Err c.in-Err-print_lines.field-0) (joined ls) c.args.world.now c.print_lines.new.world) c.as_slice.ensures c.in-Err-print_lines.ensures in
    report-failed g.W.World c.args.migrate c.args.linted.now c.in-Err-print_lines.field-0 c.in-Ok.lines c.args.world.now c.print_lines.new.world c.say_failure.new.world c.in-Ok.ensures failed c.say_failure.ensures
