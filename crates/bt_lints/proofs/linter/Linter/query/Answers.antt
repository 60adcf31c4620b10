use Rattle.std.proofs.Common.{List, ◌++◌, ap, ◌∙◌, subst}
use Rattle.std.specs.List.{Contains}
use Rattle.bt_findings.specs.Found.{findings}
use Rattle.bt_findings.specs.declared.finding.Finding.{Finding}
use Rattle.bt_findings.proofs.FoundLayers.{on_ok}
use Rattle.bt_lints.specs.Adding.{Adds}
use Rattle.bt_lints.specs.Lints as spec
use Rattle.bt_lints.proofs.linter.Linter.query.Goals as goal

pub returns : goal.returns
returns c =
    let P = spec.FindingLint (spec.scope c.args.self.now.how c.args.self.now.maps.now c.args.variables.now) (Contains c.args.leads.now) in
    let is = c.as_slice.ensures ∙ c.in_ok-find_all.ensures ∙ ap (λ u. u ++ findings c.args.q.now) c.new-findings.ensures.list in
    on_ok c.findings-2.result
    (λ h. subst (λ (fs : List Finding). Adds (λ x. spec.OneOf (λ f. P f x) fs) c.args.out.now.list c.findings-2.new.out.list) is h) c.findings-2.ensures
