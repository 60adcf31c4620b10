use Rattle.std.proofs.Common.{◌≡◌, drop}
use Rattle.bt_input_plan.specs.Kinds as spec
use Rattle.bt_input_plan.proofs.kinds.chosen.Given as goal

abbrev pub invariant-loop-field : goal.invariant-loop-field
invariant-loop-field l = spec.chosen (drop l.field-index l.field-items) ≡ spec.chosen l.field-items
