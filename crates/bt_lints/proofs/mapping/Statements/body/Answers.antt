use Rattle.std.proofs.Common.{[]}
use Rattle.bt_findings.proofs.FoundLayers.{on_ok}
use Rattle.bt_lints.specs.Lints as spec
use Rattle.bt_lints.specs.Lints.{Reaches}
use Rattle.bt_lints.proofs.Leading.{body_inside}
use Rattle.bt_lints.proofs.mapping.Statements.body.Goals as goal

pub returns : goal.returns
returns c =
    let s = spec.scope c.args.self.now.linter.how c.args.self.now.linter.maps.now [] in
    on_ok c.body.result
    (body_inside s c.as_slice.result.now (λ n. Reaches c.args.self.now.applications.now n c.args.name.now) c.args.body.now _ _
    (λ n. rw (c.as_slice.ensures) (rw c.as_str.ensures at (c.in_ok-leads.ensures n)))) c.body.ensures
