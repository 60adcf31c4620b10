use Rattle.bt_time.proofs.DayLemmas.{civil_of_is}
use Rattle.bt_time.proofs.ExistLemmas.{civil_of_exists}
use Rattle.bt_time.proofs.civil.one_second_each.Goals as goal

pub returns-clause-civil : goal.returns-clause-civil
returns-clause-civil c = civil_of_is

pub returns-clause-second : goal.returns-clause-second
returns-clause-second c = civil_of_exists
