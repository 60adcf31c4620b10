use Rattle.std.proofs.Common.{ℕ, List, subst}
use Rattle.bt_lints.specs.Adding.{Adds}
use Rattle.bt_lints.specs.Lints as spec
use Rattle.bt_lints.proofs.Leading.{stmts_end, stmts_next}
use Rattle.bt_lints.proofs.mapping.Statements.stmts.Goals as goal

pub loop-stmt-preserved : goal.loop-stmt-preserved
loop-stmt-preserved c = λ w h.
    let how = c.args.self.now.linter.how in
    let maps = c.args.self.now.linter.maps.now in
    let links = c.args.self.now.applications.now in
    let Lints : List (List ℕ) → List (List ℕ) → Type 0 =
    λ variables earlier. Adds (spec.StmtLint (spec.scope how maps variables) earlier links c.stmt-item.result) c.loop-stmt.out.list c.stmt.new.out.list in
    c.loop-stmt.invariant w
    (stmts_next (spec.scope how maps c.loop-stmt.variables.list) c.loop-stmt.earlier.list links c.args.stmts.now c.loop-stmt.stmt-index c.stmt-item.result _ _ _ _ w
    c.loop-stmt-test.true c.stmt-item.is c.in_ok-push_set.ensures c.in_ok-push_map.ensures
    (subst (λ (e : List (List ℕ)). Lints c.loop-stmt.variables.list e) c.as_slice-in-loop-stmt.ensures
    (subst (λ (n : List (List ℕ)). Lints n c.as_slice-in-loop-stmt.result.now) c.as_slice.ensures c.in_ok-stmt.ensures)) h)

pub returns : goal.returns
returns c =
    let s = spec.scope c.args.self.now.linter.how c.args.self.now.linter.maps.now c.loop-stmt.variables.list in
    c.loop-stmt.invariant c.loop-stmt.out.list
    (stmts_end s c.loop-stmt.earlier.list c.args.self.now.applications.now c.args.stmts.now c.loop-stmt.stmt-index _ c.loop-stmt-test.false)
