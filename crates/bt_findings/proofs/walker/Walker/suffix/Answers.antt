use Rattle.std.proofs.Common.{◌++◌, map, ap, sym, ◌∙◌}
use Rattle.bt_calls.specs.Shapes.{shape}
use Rattle.bt_findings.specs.Found as spec
use Rattle.bt_findings.specs.Found.{findings}
use Rattle.bt_findings.specs.Steps as steps
use Rattle.bt_findings.specs.Steps.{each}
use Rattle.bt_findings.proofs.FoundLayers.{on_ok, first_each, suffix-Method}
use Rattle.bt_findings.proofs.walker.Walker.suffix.Goals as goal

pub returns-in-Method : goal.returns-in-Method
returns-in-Method g c =
    let u = c.args.out.now.list in
    let call = spec.method_call c.in-Method.name in
    on_ok c.method.result
    (λ h. h ∙ ap (λ xs. each steps.arg (u ++ call (map shape xs)) xs) c.as_slice.ensures ∙ first_each steps.arg u (call (map shape c.in-Method.args)) c.in-Method.args
    ∙ ap (λ v. u ++ v) (sym (suffix-Method c.in-Method.name c.in-Method.args)) ∙ ap (λ x. u ++ steps.suffix x) (sym c.in-Method.is)) c.method.ensures
