use Rattle.bt_map_laws.proofs.Agreement as agreement
use Rattle.bt_map_laws.proofs.queries_depend_on_what_they_apply.Goals as goal

pub returns : goal.returns
returns c = agreement.queries_depend_on_what_they_apply
