use Rattle.std.proofs.Common.{◌≡◌, drop}
use Rattle.bt_findings.specs.Steps.{each}
use Rattle.bt_literals.specs.Literals.{stmt_findings}
use Rattle.bt_literals.proofs.found.stmts.Given as goal

abbrev pub invariant-loop-one : goal.invariant-loop-one
invariant-loop-one l = each stmt_findings l.out.list (drop l.one-index l.stmts) ≡ each stmt_findings l.initial.out.list l.stmts
