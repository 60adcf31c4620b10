use Rattle.std.proofs.Common.{◌≡◌, codes, drop}
use Rattle.bt_print.specs.Parts as parts
use Rattle.bt_print.specs.Steps.{joined}
use Rattle.bt_print.proofs.printer.Printer.members.Given as goal

abbrev pub invariant-loop-member : goal.invariant-loop-member
invariant-loop-member g l = joined parts.member (codes ", ") l.out (drop l.member-index l.rest) ≡ joined parts.member (codes ", ") l.initial.out l.rest
