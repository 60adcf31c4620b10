use Rattle.std.proofs.Common.{◌≡◌, drop}
use Rattle.bt_words.specs.Printing as print
use Rattle.bt_print.specs.Steps.{joined}
use Rattle.bt_print.proofs.printer.Printer.operands.Given as goal

abbrev pub invariant-loop-q : goal.invariant-loop-q
invariant-loop-q g l = joined print.query l.mark l.out (drop l.q-index l.qs) ≡ joined print.query l.mark l.initial.out l.qs
