use Rattle.std.proofs.Common.{◌≡◌, IsTrue}
use Rattle.bt_findings.proofs.FoundLayers.{on_ok}
use Rattle.bt_lints.specs.Lints as spec
use Rattle.bt_lints.proofs.Addings.{adds_same}
use Rattle.bt_lints.proofs.linter.push_if.Goals as goal

pub returns-then-holds : goal.returns-then-holds
returns-then-holds c =
    let l = spec.lint c.args.at c.args.kind in
    on_ok c.push.result (adds_same (λ x. x ≡ l) (λ x. IsTrue c.args.holds × (x ≡ l)) _ _ (λ x. ((λ e. (c.if-holds.true, e)), (λ p. p.1)))) c.push.ensures
