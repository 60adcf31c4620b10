use Rattle.bt_demand.proofs.Recorded.{recorded_grows, next_fresh, settle_agrees}
use Rattle.bt_demand.proofs.laws.records_decide.Goals as goal

pub returns-clause-settled : goal.returns-clause-settled
returns-clause-settled c = recorded_grows

pub returns-clause-next : goal.returns-clause-next
returns-clause-next c = next_fresh

pub returns-clause-kept : goal.returns-clause-kept
returns-clause-kept c = settle_agrees
