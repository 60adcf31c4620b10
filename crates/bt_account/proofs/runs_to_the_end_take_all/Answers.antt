use Rattle.bt_account.proofs.Delivering.{took_all}
use Rattle.bt_account.proofs.runs_to_the_end_take_all.Goals as goal

pub returns : goal.returns
returns g c = took_all g.I.Intake g.K.Sink g.A.Answerer g.C.Clock g.D.Derive
