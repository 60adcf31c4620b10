use Rattle.std.proofs.Common.{◌≡◌, map, take}
use Rattle.bt_input_plan.specs.Reading.{reading}
use Rattle.bt_input_plan.proofs.fields.each_name.Given as goal

abbrev pub invariant-loop-item : goal.invariant-loop-item
invariant-loop-item l = l.names.list ≡ map (λ r. r.text) (map reading (take l.item-index l.item-items))
