use Rattle.bt_outputs.proofs.Filling.{filled}
use Rattle.bt_outputs.proofs.laws.bytes_come_last.Goals as goal

pub returns : goal.returns
returns c = λ o s x bytes. filled o s x bytes
