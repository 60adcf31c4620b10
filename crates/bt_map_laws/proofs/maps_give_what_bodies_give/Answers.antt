use Rattle.bt_map_laws.proofs.Fuel.{bodies_give}
use Rattle.bt_map_laws.proofs.maps_give_what_bodies_give.Goals as goal

pub returns : goal.returns
returns c = bodies_give
