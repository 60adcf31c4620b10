use Rattle.std.proofs.Common.{◌≡◌, drop, map}
use Rattle.std.specs.List.{list_all}
use Rattle.bt_calls.specs.Shapes.{shape}
use Rattle.bt_calls.specs.Table.{takes}
use Rattle.bt_calls.proofs.fitting.each_takes.Given as goal

abbrev pub invariant-loop-arg : goal.invariant-loop-arg
invariant-loop-arg l = list_all (takes l.slot) (map shape (drop l.arg-index l.args)) ≡ list_all (takes l.slot) (map shape l.args)
