use Rattle.bt_findings.proofs.FoundLayers.{on_ok}
use Rattle.bt_lints.proofs.Addings.{adds_both}
use Rattle.bt_lints.proofs.linter.Linter.map_stmt.Goals as goal

pub returns-in_ok-root-in-Root : goal.returns-in_ok-root-in-Root
returns-in_ok-root-in-Root c = on_ok c.query.result (λ h. rw c.in-Root.is (adds_both _ _ _ _ _ c.in_ok-root-in-Root.ensures h)) c.query.ensures

pub returns-in-Let : goal.returns-in-Let
returns-in-Let c = on_ok c.query-in-Let.result (λ h. rw c.in-Let.is h) c.query-in-Let.ensures
