use Rattle.std.proofs.Common.{arith}
use Rattle.bt_same.specs.Layers.{SameKey}
use Rattle.bt_same.proofs.Laws.{apart}
use Rattle.bt_same.proofs.mappings.keys.Goals as goal

pub returns-then-a-b : goal.returns-then-a-b
returns-then-a-b c = apart SameKey c.args.a.now c.args.b.now (omega arith)
