use Rattle.bt_blobl.proofs.Turns.{turns-taken, turns-starved}
use Rattle.bt_blobl.proofs.lines.map_next.Goals as goal

pub returns-in-Batch-clause-turns : goal.returns-in-Batch-clause-turns
returns-in-Batch-clause-turns g c = turns-taken g.W.S.Source _ _ c.in-Batch.ensures.told c.in-Batch.ensures.same _ _ _ _ _ c.in-Batch.items _ _ c.in-Batch.ensures.gives _ c.map_line.ensures.ends

pub returns-in-NoMemory-clause-turns : goal.returns-in-NoMemory-clause-turns
returns-in-NoMemory-clause-turns g c = turns-starved g.W.S.Source _ _ c.in-NoMemory.ensures.told c.in-NoMemory.ensures.same _ c.args.n _ _ _ _
