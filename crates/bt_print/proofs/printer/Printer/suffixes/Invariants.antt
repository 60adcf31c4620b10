use Rattle.std.proofs.Common.{◌≡◌, drop}
use Rattle.bt_print.specs.Parts as parts
use Rattle.bt_print.specs.Steps.{all_after}
use Rattle.bt_print.proofs.printer.Printer.suffixes.Given as goal

abbrev pub invariant-loop-suffix : goal.invariant-loop-suffix
invariant-loop-suffix g l = all_after parts.suffix l.out (drop l.suffix-index l.suffixes) ≡ all_after parts.suffix l.initial.out l.suffixes
