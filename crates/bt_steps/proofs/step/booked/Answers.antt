use Rattle.std.proofs.Common.{◌≡◌, true, arith, refl, sym, ◌∙◌}
use Rattle.bt_demand.specs.Find.{begun}
use Rattle.bt_demand.specs.Holding.{active, is_open, booked_in}
use Rattle.bt_demand.specs.Outcomes.{outcome}
use Rattle.bt_demand.specs.View.{tree}
use Rattle.bt_steps.proofs.HoldLaws.{active_le}
use Rattle.bt_steps.proofs.step.booked.Goals as goal

pub returns-then-is_open : goal.returns-then-is_open
returns-then-is_open c =
    let a = active_le (tree c.args.demand.now) in
    let b : begun (tree c.args.demand.now) ≡ true = sym c.begun.ensures ∙ c.if-begun.true in
    let o : is_open (outcome (tree c.args.demand.now)) ≡ true = sym c.is_open.ensures ∙ c.if-is_open.true in
    let v : booked_in (tree c.args.demand.now) ≡ active (tree c.args.demand.now) = rw (b, o) refl in
    omega (arith, c.active.ensures, c.requires)
