use Rattle.std.proofs.Common.{◌≡◌, ◌++◌, drop, flat_map}
use Rattle.bt_lints.specs.Lints.{stmt_applications}
use Rattle.bt_lints.proofs.mapping.applications.Given as goal

abbrev pub invariant-loop-stmt : goal.invariant-loop-stmt
invariant-loop-stmt l = l.found.list ++ flat_map stmt_applications (drop l.stmt-index l.stmts) ≡ flat_map stmt_applications l.stmts
