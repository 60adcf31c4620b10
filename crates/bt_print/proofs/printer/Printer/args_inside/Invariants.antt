use Rattle.std.proofs.Common.{◌≡◌, codes, drop}
use Rattle.bt_print.specs.Parts as parts
use Rattle.bt_print.specs.Steps.{joined}
use Rattle.bt_print.proofs.printer.Printer.args_inside.Given as goal

abbrev pub invariant-loop-arg : goal.invariant-loop-arg
invariant-loop-arg g l = joined parts.arg (codes ", ") l.out (drop l.arg-index l.rest) ≡ joined parts.arg (codes ", ") l.initial.out l.rest
