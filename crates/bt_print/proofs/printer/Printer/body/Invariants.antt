use Rattle.std.proofs.Common.{◌≡◌, codes, drop}
use Rattle.bt_words.specs.Printing as print
use Rattle.bt_print.specs.Steps.{joined}
use Rattle.bt_print.proofs.printer.Printer.body.Given as goal

abbrev pub invariant-loop-stmt : goal.invariant-loop-stmt
invariant-loop-stmt g l = joined print.map_stmt (codes "\n  ") l.out (drop l.stmt-index l.rest) ≡ joined print.map_stmt (codes "\n  ") l.initial.out l.rest
