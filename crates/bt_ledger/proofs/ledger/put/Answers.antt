use Rattle.std.proofs.Common.{arith}
use Rattle.bt_ledger.proofs.Pooled.{push_lists, full_held}
use Rattle.bt_ledger.proofs.ledger.put.Goals as goal

pub unreachable-requires : goal.unreachable-requires
unreachable-requires c = let e = full_held c.args.pool.now c.push_back.ensures.sound c.in-Err.ensures.full.0 in absurd (omega (arith, c.requires.room))

pub returns-clause-chains : goal.returns-clause-chains
returns-clause-chains c = let p = c.in-Ok.ensures.pushed in push_lists c.args.pool.now c.push_back.new.self c.args.entry.node p.0 c.args.entry c.push_back.ensures.sound c.requires.chain p.1
