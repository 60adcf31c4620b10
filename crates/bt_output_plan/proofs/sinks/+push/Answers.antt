use Rattle.std.proofs.Common.{◌∙◌}
use Rattle.bt_output_plan.specs.Reading.{reading}
use Rattle.bt_output_plan.proofs.Ending.{ends_next}
use Rattle.bt_output_plan.proofs.sinks.+push.Goals as goal

pub push_each-loop-item-preserved : goal.push_each-loop-item-preserved
push_each-loop-item-preserved t c =
    ends_next reading (λ r. r.output.ends) c.as_slice-item-items.result.now c.loop-item.item-index c.item-item.result c.loop-item.sinks.items c.push_output.new.sinks.items
    c.loop-item-test.true c.item-item.is c.in_ok-push_output.ensures ∙ c.loop-item.invariant

pub push_each_case-loop-item-preserved : goal.push_each_case-loop-item-preserved
push_each_case-loop-item-preserved t c =
    ends_next reading (λ r. r.switch_case.ends) c.as_slice-item-items.result.now c.loop-item.item-index c.item-item.result c.loop-item.sinks.items c.push_case.new.sinks.items
    c.loop-item-test.true c.item-item.is c.in_ok-push_case.ensures ∙ c.loop-item.invariant
