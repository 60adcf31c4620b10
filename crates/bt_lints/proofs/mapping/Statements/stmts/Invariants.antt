use Rattle.std.proofs.Common.{List, [], drop}
use Rattle.bt_lints.specs.Adding.{Adds}
use Rattle.bt_lints.specs.Lints as spec
use Rattle.bt_lints.specs.declared.lint.MapLint.{MapLint}
use Rattle.bt_lints.proofs.mapping.Statements.stmts.Given as goal

abbrev pub invariant-loop-stmt : goal.invariant-loop-stmt
invariant-loop-stmt l =
    (w : List MapLint) →
    Adds (spec.StmtsLint (spec.scope l.self.linter.how l.self.linter.maps.now l.variables.list) l.earlier.list l.self.applications.now (drop l.stmt-index l.stmts)) l.out.list w →
    Adds (spec.StmtsLint (spec.scope l.self.linter.how l.self.linter.maps.now []) [] l.self.applications.now l.stmts) l.initial.out.list w
