use Rattle.std.proofs.Common.{◌≡◌, ◌++◌, drop}
use Rattle.bt_lints.specs.Lints.{applied_by}
use Rattle.bt_lints.proofs.mapping.push_applied.Given as goal

abbrev pub invariant-loop-finding : goal.invariant-loop-finding
invariant-loop-finding l = l.out.list ++ applied_by l.by (drop l.finding-index l.findings) ≡ l.initial.out.list ++ applied_by l.by l.findings
