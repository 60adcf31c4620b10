use Rattle.std.proofs.Common.{◌++◌}
use Rattle.bt_words.specs.Printing as print
use Rattle.bt_print.proofs.StepLemmas.{on_ok, two}
use Rattle.bt_print.proofs.printer.Printer.compare.Goals as goal

pub returns : goal.returns
returns g c =
    on_ok c.operand.result
    (two c.args.out.now c.query.new.out c.operand.new.out (print.query c.args.left.now) (print.spaced (print.kind_of_op c.args.op) ++ print.query c.args.right.now)
    c.in_ok-query.ensures) c.operand.ensures
