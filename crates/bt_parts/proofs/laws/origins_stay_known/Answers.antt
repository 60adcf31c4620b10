use Rattle.bt_parts.proofs.Standing.{procs_stand}
use Rattle.bt_parts.proofs.laws.origins_stay_known.Goals as goal

pub returns : goal.returns
returns c = λ fs moment items ps h. procs_stand fs moment items ps h
