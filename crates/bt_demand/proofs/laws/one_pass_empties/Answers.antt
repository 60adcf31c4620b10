use Rattle.bt_demand.proofs.Flushing.{late_still, late_stays, late_next}
use Rattle.bt_demand.proofs.Moves.{settle_steps, wait_steps, release_steps}
use Rattle.bt_demand.proofs.Order.{in-order}
use Rattle.bt_demand.proofs.laws.one_pass_empties.Goals as goal

pub returns-clause-still : goal.returns-clause-still
returns-clause-still c = λ n t flat rises. late_still n t (in-order t flat rises)

pub returns-clause-settling : goal.returns-clause-settling
returns-clause-settling c = settle_steps

pub returns-clause-waiting : goal.returns-clause-waiting
returns-clause-waiting c = wait_steps

pub returns-clause-releasing : goal.returns-clause-releasing
returns-clause-releasing c = release_steps

pub returns-clause-stays : goal.returns-clause-stays
returns-clause-stays c = late_stays

pub returns-clause-later : goal.returns-clause-later
returns-clause-later c = late_next
