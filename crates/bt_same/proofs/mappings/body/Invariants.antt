use Rattle.std.proofs.Common.{◌↔◌, drop}
use Rattle.bt_same.specs.Layers.{Each, SameMapStmt}
use Rattle.bt_same.proofs.mappings.body.Given as goal

abbrev pub invariant-loop-i : goal.invariant-loop-i
invariant-loop-i l = Each SameMapStmt (drop l.i l.a) (drop l.i l.b) ↔ Each SameMapStmt l.a l.b
