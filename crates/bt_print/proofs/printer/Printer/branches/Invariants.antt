use Rattle.std.proofs.Common.{◌≡◌, codes, drop}
use Rattle.bt_print.specs.Parts as parts
use Rattle.bt_print.specs.Steps.{joined}
use Rattle.bt_print.proofs.printer.Printer.branches.Given as goal

abbrev pub invariant-loop-branch : goal.invariant-loop-branch
invariant-loop-branch g l = joined parts.branch (codes " else ") l.out (drop l.branch-index l.rest) ≡ joined parts.branch (codes " else ") l.initial.out l.rest
