use Rattle.std.proofs.Common.{arith}
use Rattle.bt_moves.proofs.Outs.{outs_same}
use Rattle.bt_floor.proofs.floor.Floor.flush_one.Goals as goal

pub returns-then-waits_in-clause-late : goal.returns-then-waits_in-clause-late
returns-then-waits_in-clause-late g c = c.release.ensures.late c.args.node (omega arith)

pub returns-else-waits_in-clause-outs : goal.returns-else-waits_in-clause-outs
returns-else-waits_in-clause-outs g c = outs_same c.args.self.now.ledger
