use Rattle.std.proofs.Common.{◌≡◌, drop}
use Rattle.bt_findings.specs.Steps as steps
use Rattle.bt_findings.specs.Steps.{each}
use Rattle.bt_findings.proofs.walker.Walker.members.Given as goal

abbrev pub invariant-loop-member : goal.invariant-loop-member
invariant-loop-member g l = each steps.member l.out.list (drop l.member-index l.members) ≡ each steps.member l.initial.out.list l.members
