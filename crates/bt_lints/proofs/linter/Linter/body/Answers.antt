use Rattle.std.proofs.Common.{ℕ, List, subst}
use Rattle.std.specs.List.{Contains}
use Rattle.bt_lints.specs.Adding.{Adds}
use Rattle.bt_lints.specs.Lints as spec
use Rattle.bt_lints.proofs.Addings.{body_end, body_next}
use Rattle.bt_lints.proofs.linter.Linter.body.Goals as goal

pub loop-stmt-preserved : goal.loop-stmt-preserved
loop-stmt-preserved c = λ w h.
    let s = spec.scope c.args.self.now.how c.args.self.now.maps.now c.loop-stmt.variables.list in
    c.loop-stmt.invariant w
    (body_next s (Contains c.args.leads.now) c.args.body.now c.loop-stmt.stmt-index c.stmt-item.result _ _ _ w c.loop-stmt-test.true c.stmt-item.is
    c.in_ok-push_set.ensures
    (subst (λ (n : List (List ℕ)). Adds (spec.MapStmtLint (spec.scope c.args.self.now.how c.args.self.now.maps.now n) (Contains c.args.leads.now) c.stmt-item.result) c.loop-stmt.out.list c.map_stmt.new.out.list)
    c.as_slice.ensures c.in_ok-map_stmt.ensures) h)

pub returns : goal.returns
returns c =
    let s = spec.scope c.args.self.now.how c.args.self.now.maps.now c.loop-stmt.variables.list in
    c.loop-stmt.invariant c.loop-stmt.out.list (body_end s (Contains c.args.leads.now) c.args.body.now c.loop-stmt.stmt-index _ c.loop-stmt-test.false)
