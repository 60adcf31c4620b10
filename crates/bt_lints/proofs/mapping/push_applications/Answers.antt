use Rattle.std.proofs.Common.{◌++◌, [], ap, ◌∙◌, sym}
use Rattle.bt_findings.specs.Steps.{each}
use Rattle.bt_findings.proofs.FoundLayers.{on_ok, each_is}
use Rattle.bt_lints.specs.Lints as spec
use Rattle.bt_lints.proofs.mapping.push_applications.Goals as goal

pub returns-in_ok-find_in_body-in-Map : goal.returns-in_ok-find_in_body-in-Map
returns-in_ok-find_in_body-in-Map c =
    let found = c.as_slice-in-Map.ensures ∙ c.in_ok-find_in_body-in-Map.ensures ∙ ap (λ u. each spec.map_stmt_findings u c.as_slice.result.now) c.new-findings.ensures.list
    ∙ each_is spec.map_stmt_findings [] c.as_slice.result.now ∙ ap spec.body_findings c.as_slice.ensures in
    on_ok c.push_applied.result
    (λ h. h ∙ ap (λ fs. c.args.out.now.list ++ spec.applied_by c.in-Map.name fs) found ∙ ap (λ y. c.args.out.now.list ++ spec.stmt_applications y) (sym c.in-Map.is)) c.push_applied.ensures
