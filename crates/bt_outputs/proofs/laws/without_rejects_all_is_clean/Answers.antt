use Rattle.bt_outputs.specs.Asked.{no_shift, arrived}
use Rattle.bt_outputs.specs.Numbers.{from_start}
use Rattle.bt_outputs.proofs.Cleaning.{clean}
use Rattle.bt_outputs.proofs.laws.without_rejects_all_is_clean.Goals as goal

pub returns : goal.returns
returns c = λ sinks o end is none x at. clean sinks o from_start end is none no_shift (arrived x at)
