use Rattle.std.proofs.Common.{◌∙◌, ap, [], ◌∷◌, ◌++◌, arith, ◌<◌, length, slice_get, sym}
use Rattle.bt_lints.specs.Names.{with_appliers}
use Rattle.bt_lints.proofs.Reaching.{found_first, found_step, found_all, closer}
use Rattle.bt_lints.proofs.reach.reaching.Goals as goal

pub loop-next-init : goal.loop-next-init
loop-next-init c =
    found_first c.args.applications.now c.args.target.now _ (c.in_ok-push_name.ensures ∙ ap (λ u. u ++ c.args.target.now ∷ []) c.new-names.ensures.list)

pub loop-next-smaller : goal.loop-next-smaller
loop-next-smaller c =
    let lt : c.loop-next.next < length c.loop-next.names.list = omega (arith, c.loop-next-test.true, c.len.ensures) in
    closer c.args.applications.now c.loop-next.names.list c.loop-next.next c.in_ok-name.name _ lt
    (c.in_ok-push_appliers.ensures ∙ ap (λ u. with_appliers c.args.applications.now u c.loop-next.names.list) c.as_str.ensures)

pub loop-next-preserved : goal.loop-next-preserved
loop-next-preserved c =
    let lt : c.loop-next.next < length c.loop-next.names.list = omega (arith, c.loop-next-test.true, c.len.ensures) in
    found_step c.args.applications.now c.args.target.now c.loop-next.names.list c.loop-next.next c.in_ok-name.name _ c.loop-next.invariant lt
    (ap (λ u. slice_get u c.loop-next.next) (sym c.as_slice.ensures) ∙ c.in_ok-name.ensures)
    (c.in_ok-push_appliers.ensures ∙ ap (λ u. with_appliers c.args.applications.now u c.loop-next.names.list) c.as_str.ensures)

pub returns : goal.returns
returns c = found_all _ _ _ _ c.loop-next.invariant (omega arith)
