use Rattle.std.proofs.Common.{◌≡◌, drop}
use Rattle.bt_print.specs.Parts as parts
use Rattle.bt_print.specs.Steps.{all_after}
use Rattle.bt_print.proofs.printer.Printer.target.Given as goal

abbrev pub invariant-loop-step : goal.invariant-loop-step
invariant-loop-step g l = all_after parts.step l.out (drop l.step-index l.path) ≡ all_after parts.step l.initial.out l.path
