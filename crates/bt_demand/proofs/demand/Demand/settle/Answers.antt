use Rattle.std.proofs.Common.{arith, ap}
use Rattle.bt_demand.specs.Steps.{state_for}
use Rattle.bt_demand.specs.View.{tree}
use Rattle.bt_demand.specs.Work.{work}
use Rattle.bt_demand.proofs.Falls.{settle_less}
use Rattle.bt_demand.proofs.Flushing.{outcome_grows}
use Rattle.bt_demand.proofs.Moves.{settle_steps}
use Rattle.bt_demand.proofs.Reached.{next-untouched}
use Rattle.bt_demand.proofs.demand.Demand.settle.Goals as goal

pub returns-clause-falls : goal.returns-clause-falls
returns-clause-falls c =
    λ sink next.
    let less = settle_less c.args.number sink c.args.accepted (tree c.args.self.now) next in
    omega (arith, less, ap work c.settle_leaf.ensures)

pub returns-clause-stays : goal.returns-clause-stays
returns-clause-stays c = rw c.settle_leaf.ensures (outcome_grows 0 _ _ (settle_steps 0 c.args.number (state_for c.args.accepted) (tree c.args.self.now)))

pub returns-clause-untouched : goal.returns-clause-untouched
returns-clause-untouched c = λ sink differ next was. rw c.settle_leaf.ensures (next-untouched c.args.number sink (state_for c.args.accepted) (tree c.args.self.now) differ was next)
