use Rattle.std.proofs.Common.{◌≡◌, drop}
use Rattle.bt_findings.specs.Steps as steps
use Rattle.bt_findings.specs.Steps.{each}
use Rattle.bt_findings.proofs.walker.Walker.terms.Given as goal

abbrev pub invariant-loop-term : goal.invariant-loop-term
invariant-loop-term g l = each steps.term l.out.list (drop l.term-index l.terms) ≡ each steps.term l.initial.out.list l.terms
