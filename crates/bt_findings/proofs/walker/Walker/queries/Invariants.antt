use Rattle.std.proofs.Common.{◌≡◌, drop}
use Rattle.bt_findings.specs.Found.{findings}
use Rattle.bt_findings.specs.Steps.{each}
use Rattle.bt_findings.proofs.walker.Walker.queries.Given as goal

abbrev pub invariant-loop-q : goal.invariant-loop-q
invariant-loop-q g l = each findings l.out.list (drop l.q-index l.queries) ≡ each findings l.initial.out.list l.queries
