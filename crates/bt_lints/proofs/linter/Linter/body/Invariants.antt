use Rattle.std.proofs.Common.{List, [], drop}
use Rattle.std.specs.List.{Contains}
use Rattle.bt_lints.specs.Adding.{Adds}
use Rattle.bt_lints.specs.Lints as spec
use Rattle.bt_lints.specs.declared.lint.MapLint.{MapLint}
use Rattle.bt_lints.proofs.linter.Linter.body.Given as goal

abbrev pub invariant-loop-stmt : goal.invariant-loop-stmt
invariant-loop-stmt l =
    (w : List MapLint) →
    Adds (spec.BodyLint (spec.scope l.self.how l.self.maps.now l.variables.list) (Contains l.leads) (drop l.stmt-index l.body)) l.out.list w →
    Adds (spec.BodyLint (spec.scope l.self.how l.self.maps.now []) (Contains l.leads) l.body) l.initial.out.list w
