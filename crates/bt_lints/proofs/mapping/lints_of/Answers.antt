use Rattle.bt_findings.proofs.FoundLayers.{on_ok}
use Rattle.bt_lints.proofs.mapping.lints_of.Goals as goal

pub returns-in-Query : goal.returns-in-Query
returns-in-Query c = on_ok c.lint_query.result (λ h. rw c.in-Query.is h) c.lint_query.ensures

pub returns-in-Statements : goal.returns-in-Statements
returns-in-Statements c = on_ok c.lint_stmts.result (λ h. rw c.in-Statements.is (rw c.as_slice.ensures at h)) c.lint_stmts.ensures
