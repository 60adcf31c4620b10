use Rattle.std.proofs.Common.{◌++◌, ap, sym, ◌∙◌}
use Rattle.bt_findings.specs.Steps.{each}
use Rattle.bt_findings.proofs.FoundLayers.{on_ok, each_is}
use Rattle.bt_literals.specs.Literals.{map_stmt_findings, stmt_findings}
use Rattle.bt_literals.proofs.found.stmt.Goals as goal

pub returns-in-Map : goal.returns-in-Map
returns-in-Map c =
    let u = c.args.out.now.list in
    on_ok c.body.result
    (λ h. h ∙ ap (each map_stmt_findings u) c.as_slice.ensures ∙ each_is map_stmt_findings u c.in-Map.inner ∙ ap (λ x. u ++ stmt_findings x) (sym c.in-Map.is)) c.body.ensures
