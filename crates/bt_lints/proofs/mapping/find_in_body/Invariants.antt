use Rattle.std.proofs.Common.{◌≡◌, drop}
use Rattle.bt_findings.specs.Steps.{each}
use Rattle.bt_lints.specs.Lints.{map_stmt_findings}
use Rattle.bt_lints.proofs.mapping.find_in_body.Given as goal

abbrev pub invariant-loop-stmt : goal.invariant-loop-stmt
invariant-loop-stmt l = each map_stmt_findings l.out.list (drop l.stmt-index l.body) ≡ each map_stmt_findings l.initial.out.list l.body
