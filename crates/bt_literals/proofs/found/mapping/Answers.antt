use Rattle.std.proofs.Common.{◌++◌, ap, sym, ◌∙◌}
use Rattle.bt_findings.specs.Steps.{each}
use Rattle.bt_findings.proofs.FoundLayers.{on_ok, each_is}
use Rattle.bt_literals.specs.Literals.{stmt_findings, mapping_findings}
use Rattle.bt_literals.proofs.found.mapping.Goals as goal

pub returns-in-Statements : goal.returns-in-Statements
returns-in-Statements c =
    let u = c.args.out.now.list in
    on_ok c.stmts.result
    (λ h. h ∙ ap (each stmt_findings u) c.as_slice.ensures ∙ each_is stmt_findings u c.in-Statements.found ∙ ap (λ x. u ++ mapping_findings x) (sym c.in-Statements.is)) c.stmts.ensures
