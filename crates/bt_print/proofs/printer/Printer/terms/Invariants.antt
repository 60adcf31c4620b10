use Rattle.std.proofs.Common.{◌≡◌, drop}
use Rattle.bt_print.specs.Parts as parts
use Rattle.bt_print.specs.Steps.{all_after}
use Rattle.bt_print.proofs.printer.Printer.terms.Given as goal

abbrev pub invariant-loop-term : goal.invariant-loop-term
invariant-loop-term g l = all_after parts.term l.out (drop l.term-index l.terms) ≡ all_after parts.term l.initial.out l.terms
