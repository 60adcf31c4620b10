use Rattle.std.proofs.Common.{take}
use Rattle.bt_units.specs.Expected.{AreMade, named_in}
use Rattle.bt_units.proofs.expected.named_in.Given as goal

abbrev pub invariant-loop-condition : goal.invariant-loop-condition
invariant-loop-condition l = AreMade (named_in l.members (take l.condition-index l.conditions)) l.out
