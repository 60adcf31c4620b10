use Rattle.bt_desk.proofs.Finishing.{stands-counts, stands-rises, stands-clean, idle-done}
use Rattle.bt_desk.proofs.desk.Desk.into_parts.Goals as goal

pub returns-clause-rises : goal.returns-clause-rises
returns-clause-rises g c = rw (← c.self.view_is) (stands-rises g.I.Intake g.K.Sink g.A.Answerer g.C.Clock _ _ c.self.invariant.stands.1)

pub returns-clause-clean : goal.returns-clause-clean
returns-clause-clean g c =
    let done = rw (← c.self.view_is) at c.requires.done in
    let s = c.self.invariant.stands.1 in
    rw (← c.self.view_is)
    (stands-clean g.I.Intake g.K.Sink g.A.Answerer g.C.Clock _ _ s (idle-done g.I.Intake g.K.Sink g.A.Answerer g.C.Clock _ _ s done))

pub returns-clause-counts : goal.returns-clause-counts
returns-clause-counts g c = rw (← c.self.view_is) (stands-counts g.I.Intake g.K.Sink g.A.Answerer g.C.Clock _ _ c.self.invariant.stands.1)
