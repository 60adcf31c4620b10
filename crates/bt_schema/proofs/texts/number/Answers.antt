use Rattle.std.proofs.Common.{◌≡◌, ◌∙◌, ◌+◌, ◌*◌, ◌-◌, min, get_or, sym, arith}
use Rattle.bt_schema.proofs.Capped.{number_step}
use Rattle.bt_schema.proofs.texts.number.Goals as goal

pub loop-i-preserved : goal.loop-i-preserved
loop-i-preserved c =
    let is : c.min-value.result ≡ min 86400001 (c.loop-i.value * 10 + (get_or c.args.text.now c.loop-i.i 0 - 48)) = omega arith in
    let step = number_step c.args.text.now c.loop-i.i c.loop-i.value c.min-value.result c.loop-i-test.true
    (sym c.is_ascii_digit.ensures.value ∙ c.if-not-is_ascii_digit.false) is in
    (omega arith, step.0 ∙ c.loop-i.invariant.1, step.1 ∙ c.loop-i.invariant.2)
