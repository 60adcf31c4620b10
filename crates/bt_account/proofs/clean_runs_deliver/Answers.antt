use Rattle.bt_account.proofs.Delivering.{all_delivered}
use Rattle.bt_account.proofs.clean_runs_deliver.Goals as goal

pub returns : goal.returns
returns g c = all_delivered g.I.Intake g.K.Sink g.A.Answerer g.C.Clock g.D.Derive
