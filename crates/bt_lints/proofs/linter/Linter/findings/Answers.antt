use Rattle.std.specs.List.{Contains}
use Rattle.bt_lints.specs.Lints as spec
use Rattle.bt_lints.proofs.Addings.{adds_end, adds_next}
use Rattle.bt_lints.proofs.linter.Linter.findings.Goals as goal

pub loop-finding-preserved : goal.loop-finding-preserved
loop-finding-preserved c = λ w h.
    let P = spec.FindingLint (spec.scope c.args.self.now.how c.args.self.now.maps.now c.args.variables.now) (Contains c.args.leads.now) in
    c.loop-finding.invariant w
    (adds_next P c.args.findings.now c.loop-finding.finding-index c.finding-item.result _ _ w c.loop-finding-test.true c.finding-item.is c.in_ok-finding.ensures h)

pub returns : goal.returns
returns c =
    let P = spec.FindingLint (spec.scope c.args.self.now.how c.args.self.now.maps.now c.args.variables.now) (Contains c.args.leads.now) in
    c.loop-finding.invariant c.loop-finding.out.list (adds_end P c.args.findings.now c.loop-finding.finding-index _ c.loop-finding-test.false)
