use Rattle.std.proofs.Common.{◌↔◌, drop}
use Rattle.bt_same.specs.Layers.{Each, SameKey}
use Rattle.bt_same.proofs.mappings.keys.Given as goal

abbrev pub invariant-loop-i : goal.invariant-loop-i
invariant-loop-i l = Each SameKey (drop l.i l.a) (drop l.i l.b) ↔ Each SameKey l.a l.b
