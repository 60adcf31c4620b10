use Rattle.std.proofs.Common.{◌≡◌, codes, drop}
use Rattle.bt_print.specs.Parts as parts
use Rattle.bt_print.specs.Steps.{joined}
use Rattle.bt_print.proofs.printer.Printer.cases.Given as goal

abbrev pub invariant-loop-case : goal.invariant-loop-case
invariant-loop-case g l = joined parts.one_case (codes ", ") l.out (drop l.case-index l.rest) ≡ joined parts.one_case (codes ", ") l.initial.out l.rest
