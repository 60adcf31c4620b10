use Rattle.std.proofs.Common.{arith, ap}
use Rattle.bt_demand.specs.View.{tree}
use Rattle.bt_demand.specs.Work.{work}
use Rattle.bt_demand.proofs.Falls.{release_less}
use Rattle.bt_demand.proofs.Flushing.{outcome_grows}
use Rattle.bt_demand.proofs.Moves.{release_steps}
use Rattle.bt_demand.proofs.Untouched.{release-untouched}
use Rattle.bt_demand.proofs.demand.Demand.release.Goals as goal

pub returns-clause-falls : goal.returns-clause-falls
returns-clause-falls c =
    λ waits.
    let less = release_less c.args.number (tree c.args.self.now) waits in
    omega (arith, less, ap work c.release_hold.ensures)

pub returns-clause-stays : goal.returns-clause-stays
returns-clause-stays c = rw c.release_hold.ensures (outcome_grows 0 _ _ (release_steps 0 c.args.number (tree c.args.self.now) (omega arith)))

pub returns-clause-untouched : goal.returns-clause-untouched
returns-clause-untouched c = λ was. rw c.release_hold.ensures (release-untouched c.args.number (tree c.args.self.now) was)
