use Rattle.std.proofs.Common.{◌∙◌, ◌++◌, ap, append_assoc, sym}
use Rattle.bt_output_plan.specs.Reading.{repeated}
use Rattle.bt_output_plan.proofs.Repeating.{repeated_next}
use Rattle.bt_output_plan.proofs.numbers.push_copies.Goals as goal

pub loop-i-preserved : goal.loop-i-preserved
loop-i-preserved c =
    c.in_ok-push_all.ensures ∙ ap (λ l. l ++ c.args.more.now) c.loop-i.invariant
    ∙ append_assoc c.args.holds.now.list (repeated c.loop-i.i c.args.more.now) c.args.more.now
    ∙ ap (λ l. c.args.holds.now.list ++ l) (sym (repeated_next c.loop-i.i c.args.more.now))
