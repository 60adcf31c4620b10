use Rattle.std.proofs.Common.{List, drop}
use Rattle.std.specs.List.{Contains}
use Rattle.bt_lints.specs.Adding.{Adds}
use Rattle.bt_lints.specs.Lints as spec
use Rattle.bt_lints.specs.declared.lint.MapLint.{MapLint}
use Rattle.bt_lints.proofs.linter.Linter.findings.Given as goal

abbrev pub invariant-loop-finding : goal.invariant-loop-finding
invariant-loop-finding l =
    let P = spec.FindingLint (spec.scope l.self.how l.self.maps.now l.variables) (Contains l.leads) in
    (w : List MapLint) → Adds (λ x. spec.OneOf (λ f. P f x) (drop l.finding-index l.findings)) l.out.list w →
    Adds (λ x. spec.OneOf (λ f. P f x) l.findings) l.initial.out.list w
