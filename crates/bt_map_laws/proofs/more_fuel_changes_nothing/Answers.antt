use Rattle.bt_map_laws.proofs.Fuel.{same_top}
use Rattle.bt_map_laws.proofs.more_fuel_changes_nothing.Goals as goal

pub returns : goal.returns
returns c = same_top
