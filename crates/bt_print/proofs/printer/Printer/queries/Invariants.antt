use Rattle.std.proofs.Common.{◌≡◌, codes, drop}
use Rattle.bt_words.specs.Printing as print
use Rattle.bt_print.specs.Steps.{joined}
use Rattle.bt_print.proofs.printer.Printer.queries.Given as goal

abbrev pub invariant-loop-q : goal.invariant-loop-q
invariant-loop-q g l = joined print.query (codes ", ") l.out (drop l.q-index l.rest) ≡ joined print.query (codes ", ") l.initial.out l.rest
