use Rattle.std.proofs.Common.{arith, ap, ◌∙◌}
use Rattle.bt_demand.specs.Holding.{every_hold}
use Rattle.bt_demand.specs.View.{tree}
use Rattle.bt_steps.proofs.Steps.{every_step}
use Rattle.bt_steps.proofs.step.take.Goals as goal

pub booked-after-requires : goal.booked-after-requires
booked-after-requires c = let e = ap every_hold c.apply.ensures ∙ every_step c.args.step (tree c.args.demand.now) in omega (arith, c.requires.few)
