use Rattle.std.proofs.Common.{arith}
use Rattle.bt_syntax.specs.Readers.{query}
use Rattle.bt_syntax.proofs.Turns.{deeper}
use Rattle.bt_syntax.proofs.grammar.+query.Goals as goal

pub returns : goal.returns
unfolding query
returns t c = rw (deeper (λ n. query n c.args.c.now) c.args.depth (omega arith)) c.level.ensures
