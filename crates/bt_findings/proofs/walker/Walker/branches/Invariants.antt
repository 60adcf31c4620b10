use Rattle.std.proofs.Common.{◌≡◌, drop}
use Rattle.bt_findings.specs.Steps as steps
use Rattle.bt_findings.specs.Steps.{each}
use Rattle.bt_findings.proofs.walker.Walker.branches.Given as goal

abbrev pub invariant-loop-branch : goal.invariant-loop-branch
invariant-loop-branch g l = each steps.branch l.out.list (drop l.branch-index l.branches) ≡ each steps.branch l.initial.out.list l.branches
