use Rattle.std.proofs.Common.{◌∙◌}
use Rattle.bt_findings.proofs.FoundLayers.{on_ok}
use Rattle.bt_lints.specs.Lints as spec
use Rattle.bt_lints.proofs.Leading.{query_outside}
use Rattle.bt_lints.proofs.mapping.Statements.query.Goals as goal

pub returns : goal.returns
returns c =
    let s = spec.scope c.args.self.now.linter.how c.args.self.now.linter.maps.now c.args.variables.now in
    on_ok c.query.result (query_outside s c.as_slice.result.now c.args.q.now _ _ (c.as_slice.ensures ∙ c.new-leads.ensures.list)) c.query.ensures
