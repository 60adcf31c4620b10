use Rattle.bt_demand.proofs.Shapes.{still-settled}
use Rattle.bt_demand.proofs.laws.still_is_settled.Goals as goal

pub returns : goal.returns
returns c = still-settled
