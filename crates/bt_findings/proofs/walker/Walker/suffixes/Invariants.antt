use Rattle.std.proofs.Common.{◌≡◌, drop}
use Rattle.bt_findings.specs.Steps as steps
use Rattle.bt_findings.specs.Steps.{each}
use Rattle.bt_findings.proofs.walker.Walker.suffixes.Given as goal

abbrev pub invariant-loop-suffix : goal.invariant-loop-suffix
invariant-loop-suffix g l = each steps.suffix l.out.list (drop l.suffix-index l.suffixes) ≡ each steps.suffix l.initial.out.list l.suffixes
