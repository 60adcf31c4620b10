use Rattle.std.proofs.Common.{ℕ, List, [], ◌∙◌, subst}
use Rattle.std.specs.List.{Contains}
use Rattle.bt_findings.proofs.FoundLayers.{on_ok}
use Rattle.bt_lints.specs.Adding.{Adds}
use Rattle.bt_lints.specs.Lints as spec
use Rattle.bt_lints.proofs.Leading.{query_outside}
use Rattle.bt_lints.proofs.mapping.lint_query.Goals as goal

pub returns : goal.returns
returns c =
    let maps = c.as_slice.ensures ∙ c.new-none.ensures.list in
    let variables = c.as_slice-2.ensures ∙ c.new-none.ensures.list in
    let leads = c.as_slice-3.ensures ∙ c.new-none.ensures.list in
    let Lints : List (List ℕ) → List (List ℕ) → Type 0 =
    λ a b. Adds (spec.QueryLint (spec.scope c.args.how a b) (Contains c.as_slice-3.result.now) c.args.q.now) c.args.out.now.list c.query.new.out.list in
    on_ok c.query.result
    (λ h. query_outside (spec.scope c.args.how [] []) c.as_slice-3.result.now c.args.q.now _ _ leads
    (subst (λ (b : List (List ℕ)). Lints [] b) variables (subst (λ (a : List (List ℕ)). Lints a c.as_slice-2.result.now) maps h))) c.query.ensures
