use Rattle.bt_map_laws.proofs.Numbered.{numbered}
use Rattle.bt_map_laws.proofs.maps_are_numbered.Goals as goal

pub returns : goal.returns
returns c = numbered
