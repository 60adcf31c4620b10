use Rattle.bt_blobl.proofs.Whole.{went-unread}
use Rattle.bt_blobl.proofs.Readiness.{says-running}
use Rattle.bt_blobl.proofs.command.map_by.Goals as goal

pub returns-in-Err-clause-went : goal.returns-in-Err-clause-went
returns-in-Err-clause-went g c = λ t. went-unread g.W.S.Source c.args.text.now c.args.flags _ _ _ _ c.in-Err.ensures.unread

pub returns-in-Ok-clause-says : goal.returns-in-Ok-clause-says
returns-in-Ok-clause-says g c = says-running c.args.text.now c.in-Ok.ready.mapping c.in-Ok.ensures.runs c.map_stdin.result c.map_stdin.ensures.halt
