use Rattle.bt_findings.proofs.FoundLayers.{on_ok}
use Rattle.bt_lints.proofs.Addings.{adds_both}
use Rattle.bt_lints.proofs.linter.Linter.apply.Goals as goal

pub returns : goal.returns
returns c = on_ok c.cycle.result (λ h. adds_both _ _ _ _ _ c.in_ok-unknown_map.ensures h) c.cycle.ensures
