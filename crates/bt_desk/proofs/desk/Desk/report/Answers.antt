use Rattle.bt_desk.proofs.Finishing.{stands-counts}
use Rattle.bt_desk.proofs.desk.Desk.report.Goals as goal

pub returns-clause-counts : goal.returns-clause-counts
returns-clause-counts g c = rw (← c.self.view_is) (stands-counts g.I.Intake g.K.Sink g.A.Answerer g.C.Clock _ _ c.self.invariant.stands.1)
