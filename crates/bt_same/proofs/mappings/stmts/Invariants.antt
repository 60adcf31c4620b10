use Rattle.std.proofs.Common.{◌↔◌, drop}
use Rattle.bt_same.specs.Layers.{Each, SameStmt}
use Rattle.bt_same.proofs.mappings.stmts.Given as goal

abbrev pub invariant-loop-i : goal.invariant-loop-i
invariant-loop-i l = Each SameStmt (drop l.i l.a) (drop l.i l.b) ↔ Each SameStmt l.a l.b
