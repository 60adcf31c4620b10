use Rattle.std.proofs.Common.{◌≡◌, ◌≤◌, drop, min}
use Rattle.std.specs.Str.Parse.{digits_value_after}
use Rattle.bt_schema.specs.Texts as spec
use Rattle.bt_schema.proofs.texts.number.Given as goal

abbrev pub invariant-loop-i : goal.invariant-loop-i
invariant-loop-i l = (l.value ≤ 86400001) × (min 86400001 (digits_value_after 10 l.value (spec.digits (drop l.i l.text))) ≡ min 86400001 (digits_value_after 10 0 (spec.digits l.text)))
    × (spec.unit (drop l.i l.text) ≡ spec.unit l.text)
