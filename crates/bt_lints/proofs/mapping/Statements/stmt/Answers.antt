use Rattle.bt_findings.proofs.FoundLayers.{on_ok}
use Rattle.bt_lints.proofs.Addings.{adds_both}
use Rattle.bt_lints.proofs.mapping.Statements.stmt.Goals as goal

pub returns-in_ok-root-in-Root : goal.returns-in_ok-root-in-Root
returns-in_ok-root-in-Root c = on_ok c.query.result (λ h. rw c.in-Root.is (adds_both _ _ _ _ _ c.in_ok-root-in-Root.ensures h)) c.query.ensures

pub returns-in-Meta : goal.returns-in-Meta
returns-in-Meta c = on_ok c.query-in-Meta.result (λ h. rw c.in-Meta.is h) c.query-in-Meta.ensures

pub returns-in-Let : goal.returns-in-Let
returns-in-Let c = on_ok c.query-in-Let.result (λ h. rw c.in-Let.is h) c.query-in-Let.ensures

pub returns-in_ok-duplicate-in-Map : goal.returns-in_ok-duplicate-in-Map
returns-in_ok-duplicate-in-Map c =
    on_ok c.body.result (λ h. rw c.in-Map.is (adds_both _ _ _ _ _ c.in_ok-duplicate-in-Map.ensures (rw c.as_slice.ensures at h))) c.body.ensures
