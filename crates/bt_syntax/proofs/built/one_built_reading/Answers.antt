use Rattle.bt_syntax.proofs.BuiltLemmas.{one_reading}
use Rattle.bt_syntax.proofs.built.one_built_reading.Goals as goal

pub returns : goal.returns
returns c = one_reading
