use Rattle.std.proofs.Common.{arith, ap}
use Rattle.bt_demand.specs.View.{tree}
use Rattle.bt_demand.specs.Work.{work}
use Rattle.bt_demand.proofs.Falls.{wait_less}
use Rattle.bt_demand.proofs.Flushing.{outcome_grows}
use Rattle.bt_demand.proofs.Moves.{wait_steps}
use Rattle.bt_demand.proofs.Untouched.{wait-untouched}
use Rattle.bt_demand.proofs.demand.Demand.wait.Goals as goal

pub returns-clause-falls : goal.returns-clause-falls
returns-clause-falls c =
    λ next.
    let less = wait_less c.args.number (tree c.args.self.now) next in
    omega (arith, less, ap work c.wait_in.ensures)

pub returns-clause-stays : goal.returns-clause-stays
returns-clause-stays c = rw c.wait_in.ensures (outcome_grows 0 _ _ (wait_steps 0 c.args.number (tree c.args.self.now)))

pub returns-clause-untouched : goal.returns-clause-untouched
returns-clause-untouched c = λ rises next was. rw c.wait_in.ensures (wait-untouched c.args.number (tree c.args.self.now) rises was next)
