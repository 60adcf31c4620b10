use Rattle.std.proofs.Common.{append_assoc, arith}
use Rattle.bt_walk.proofs.Same.{is_same}
use Rattle.bt_walk.proofs.ends.+push_ends.Goals as goal

pub push_ends-returns : goal.push_ends-returns
push_ends-returns t c = rw (is_same c.args.v.now) (grind (arith, append_assoc))
