use Rattle.std.proofs.Common.{◌≡◌, ◌∙◌, ◌+◌, ◌∷◌, [], ap, append-nil, arith, codes, length, length-append, map, subst, sym, rules, true}
use Rattle.bt_making.specs.Sources.{AreMade, AreRefused}
use Rattle.bt_making.proofs.Along.{refused_behind}
use Rattle.bt_outlines.specs.Outlines.{below, joined, listed, optional_check_as, part_of}
use Rattle.bt_outlines.proofs.Listing.{StandsAt, all_formed, all_made, none_left, refused_there}
use Rattle.bt_outlines.proofs.Twice.{map_twice}
use Rattle.bt_outputs.specs.Numbers.{in_turn, numbers}
use Rattle.bt_output_plan.specs.Made.{blank_case, blanked, case_parts, in_case, parts}
use Rattle.bt_output_plan.specs.Numbered.{next_of}
use Rattle.bt_output_plan.specs.Reading.{Reading, met, outputs_at, reading}
use Rattle.bt_output_plan.proofs.Dropping.{drop_blank, drop_parts}
use Rattle.bt_output_plan.proofs.Finds.{none_found, none_met}
use Rattle.bt_output_plan.proofs.Numbering.{all_held, going_on, none_going}
use Rattle.bt_output_plan.proofs.outputs.+output.Goals as goal

pub each_output-returns-in_err-o-clause-refused : goal.each_output-returns-in_err-o-clause-refused
each_output-returns-in_err-o-clause-refused t c =
    let stands : StandsAt c.as_slice-item-items.result.now c.args.at.now c.loop-i.i c.item-item.result c.as_str.result.now =
    record { within = c.loop-i-test.true; there = c.item-item.is; pointer = c.as_str.ensures ∙ c.in_ok-here.ensures } in
    let refused : AreRefused ((listed (map (λ (r : Reading). r.output.outline c.args.names.now c.args.held) (map reading c.args.items.now))).texts c.args.at.now) c.in_err-o.field-0.0 =
    refused_there reading blanked parts (λ (r : Reading). r.output.outline c.args.names.now c.args.held) c.as_slice-item-items.result.now c.args.items.now c.args.at.now c.loop-i.i c.loop-i.out
    c.item-item.result c.as_str.result.now c.in_err-o.field-0.0 c.as_slice-item-items.ensures stands c.in_err-o.ensures.refused c.loop-i.invariant.so_far in
    search rules

pub each_output-loop-i-init : goal.each_output-loop-i-init
each_output-loop-i-init t c =
    none_going blanked parts (numbers (length c.args.names.now)) (map (λ (r : Reading). r.output.outline c.args.names.now c.args.held) (map reading c.as_slice-item-items.result.now)) (map (λ (r : Reading). r.output.holds c.args.held) (map reading c.as_slice-item-items.result.now)) c.args.at.now c.new-out.result c.args.numbers.now c.new-out.ensures

pub each_output-loop-i-preserved : goal.each_output-loop-i-preserved
each_output-loop-i-preserved t c =
    let stands : StandsAt c.as_slice-item-items.result.now c.args.at.now c.loop-i.i c.item-item.result c.as_str.result.now =
    record { within = c.loop-i-test.true; there = c.item-item.is; pointer = c.as_str.ensures ∙ c.in_ok-here.ensures } in
    going_on reading blanked parts (numbers (length c.args.names.now)) (λ (r : Reading). r.output.outline c.args.names.now c.args.held) (λ (r : Reading). r.output.holds c.args.held) c.as_slice-item-items.result.now c.args.at.now c.loop-i.i c.loop-i.out c.push_output.new.out
    c.args.numbers.now c.loop-i.numbers c.output.new.numbers c.item-item.result c.as_str.result.now c.in_ok-o.o stands c.in_ok-push_output.ensures
    c.in_ok-o.ensures.form c.in_ok-o.ensures.made c.in_ok-o.ensures.numbered c.in_ok-o.ensures.holds c.loop-i.invariant

pub each_output-returns-clause-holds : goal.each_output-returns-clause-holds
each_output-returns-clause-holds t c =
    all_held reading (λ (r : Reading). r.output.holds c.args.held) c.as_slice-item-items.result.now c.args.items.now c.loop-i.i c.args.numbers.now.holds.list c.loop-i.numbers.holds.list
    c.as_slice-item-items.ensures (none_left reading (λ (r : Reading). r.output.holds c.args.held) c.as_slice-item-items.result.now c.loop-i.i c.loop-i-test.false) c.loop-i.invariant.holds

pub each_output-returns-clause-form : goal.each_output-returns-clause-form
each_output-returns-clause-form t c =
    all_formed reading blanked parts (λ (r : Reading). r.output.outline c.args.names.now c.args.held) c.as_slice-item-items.result.now c.args.items.now c.args.at.now c.loop-i.i c.loop-i.out
    c.as_slice-item-items.ensures c.loop-i-test.false c.loop-i.invariant.so_far

pub each_output-returns-clause-made : goal.each_output-returns-clause-made
each_output-returns-clause-made t c =
    all_made reading blanked parts (λ (r : Reading). r.output.outline c.args.names.now c.args.held) c.as_slice-item-items.result.now c.args.items.now c.args.at.now c.loop-i.i c.loop-i.out
    c.as_slice-item-items.ensures c.loop-i-test.false c.loop-i.invariant.so_far

pub each_case-returns-in_err-k-clause-refused : goal.each_case-returns-in_err-k-clause-refused
each_case-returns-in_err-k-clause-refused t c =
    let stands : StandsAt c.as_slice-item-items.result.now c.args.at.now c.loop-i.i c.item-item.result c.as_str.result.now =
    record { within = c.loop-i-test.true; there = c.item-item.is; pointer = c.as_str.ensures ∙ c.in_ok-here.ensures } in
    let refused : AreRefused ((listed (map (λ (r : Reading). r.switch_case.outline c.args.names.now c.args.held) (map reading c.args.items.now))).texts c.args.at.now) c.in_err-k.field-0.0 =
    refused_there reading (λ k. blank_case (in_case blanked k)) (λ k. case_parts (in_case parts k)) (λ (r : Reading). r.switch_case.outline c.args.names.now c.args.held) c.as_slice-item-items.result.now c.args.items.now c.args.at.now c.loop-i.i c.loop-i.out
    c.item-item.result c.as_str.result.now c.in_err-k.field-0.0 c.as_slice-item-items.ensures stands c.in_err-k.ensures.refused c.loop-i.invariant.so_far in
    search rules

pub each_case-loop-i-init : goal.each_case-loop-i-init
each_case-loop-i-init t c =
    none_going (λ k. blank_case (in_case blanked k)) (λ k. case_parts (in_case parts k)) (λ k. numbers (length c.args.names.now) k.output) (map (λ (r : Reading). r.switch_case.outline c.args.names.now c.args.held) (map reading c.as_slice-item-items.result.now)) (map (λ (r : Reading). r.switch_case.holds c.args.held) (map reading c.as_slice-item-items.result.now)) c.args.at.now c.new-out.result c.args.numbers.now c.new-out.ensures

pub each_case-loop-i-preserved : goal.each_case-loop-i-preserved
each_case-loop-i-preserved t c =
    let stands : StandsAt c.as_slice-item-items.result.now c.args.at.now c.loop-i.i c.item-item.result c.as_str.result.now =
    record { within = c.loop-i-test.true; there = c.item-item.is; pointer = c.as_str.ensures ∙ c.in_ok-here.ensures } in
    going_on reading (λ k. blank_case (in_case blanked k)) (λ k. case_parts (in_case parts k)) (λ k. numbers (length c.args.names.now) k.output) (λ (r : Reading). r.switch_case.outline c.args.names.now c.args.held) (λ (r : Reading). r.switch_case.holds c.args.held) c.as_slice-item-items.result.now c.args.at.now c.loop-i.i c.loop-i.out c.push_case.new.out
    c.args.numbers.now c.loop-i.numbers c.switch_case.new.numbers c.item-item.result c.as_str.result.now c.in_ok-k.k stands c.in_ok-push_case.ensures
    c.in_ok-k.ensures.form c.in_ok-k.ensures.made c.in_ok-k.ensures.numbered c.in_ok-k.ensures.holds c.loop-i.invariant

pub each_case-returns-clause-holds : goal.each_case-returns-clause-holds
each_case-returns-clause-holds t c =
    all_held reading (λ (r : Reading). r.switch_case.holds c.args.held) c.as_slice-item-items.result.now c.args.items.now c.loop-i.i c.args.numbers.now.holds.list c.loop-i.numbers.holds.list
    c.as_slice-item-items.ensures (none_left reading (λ (r : Reading). r.switch_case.holds c.args.held) c.as_slice-item-items.result.now c.loop-i.i c.loop-i-test.false) c.loop-i.invariant.holds

pub each_case-returns-clause-form : goal.each_case-returns-clause-form
each_case-returns-clause-form t c =
    map_twice blank_case (in_case blanked) c.loop-i.out
    ∙ all_formed reading (λ k. blank_case (in_case blanked k)) (λ k. case_parts (in_case parts k)) (λ (r : Reading). r.switch_case.outline c.args.names.now c.args.held) c.as_slice-item-items.result.now c.args.items.now c.args.at.now c.loop-i.i c.loop-i.out
    c.as_slice-item-items.ensures c.loop-i-test.false c.loop-i.invariant.so_far

pub each_case-returns-clause-made : goal.each_case-returns-clause-made
each_case-returns-clause-made t c =
    subst (λ ps. AreMade ((listed (map (λ (r : Reading). r.switch_case.outline c.args.names.now c.args.held) (map reading c.args.items.now))).texts c.args.at.now) (joined ps))
    (sym (map_twice case_parts (in_case parts) c.loop-i.out))
    (all_made reading (λ k. blank_case (in_case blanked k)) (λ k. case_parts (in_case parts k)) (λ (r : Reading). r.switch_case.outline c.args.names.now c.args.held) c.as_slice-item-items.result.now c.args.items.now c.args.at.now c.loop-i.i c.loop-i.out
    c.as_slice-item-items.ensures c.loop-i-test.false c.loop-i.invariant.so_far)

pub each_case-returns-clause-numbered : goal.each_case-returns-clause-numbered
each_case-returns-clause-numbered t c =
    ap (λ l. in_turn l (next_of c.args.numbers.now)) (map_twice (λ k. k.output) (in_case (numbers (length c.args.names.now))) c.loop-i.out) ∙ c.loop-i.invariant.numbered

pub component-returns-in-None-clause-form : goal.component-returns-in-None-clause-form
component-returns-in-None-clause-form t c = rw (none_met c.args.fields.now c.in-None.ensures.value) drop_blank

pub component-returns-in-None-clause-made : goal.component-returns-in-None-clause-made
component-returns-in-None-clause-made t c = rw (none_met c.args.fields.now c.in-None.ensures.value) (subst (AreMade []) (sym drop_parts) tt)

pub component-returns-in-None-clause-holds : goal.component-returns-in-None-clause-holds
component-returns-in-None-clause-holds t c = rw (none_met c.args.fields.now c.in-None.ensures.value) (sym (append-nil c.args.numbers.now.holds.list))

pub output_at-returns-in-None-clause-form : goal.output_at-returns-in-None-clause-form
output_at-returns-in-None-clause-form t c = rw (none_found (codes "output") c.args.fields.now c.in-None.ensures.value) drop_blank

pub output_at-returns-in-None-clause-made : goal.output_at-returns-in-None-clause-made
output_at-returns-in-None-clause-made t c = rw (none_found (codes "output") c.args.fields.now c.in-None.ensures.value) (subst (AreMade []) (sym drop_parts) tt)

pub output_at-returns-in-None-clause-holds : goal.output_at-returns-in-None-clause-holds
output_at-returns-in-None-clause-holds t c =
    rw (none_found (codes "output") c.args.fields.now c.in-None.ensures.value) (sym (append-nil c.args.numbers.now.holds.list))

pub outputs_at-returns-in-None-clause-holds : goal.outputs_at-returns-in-None-clause-holds
outputs_at-returns-in-None-clause-holds t c =
    rw (none_found (codes "outputs") c.args.fields.now c.in-None.ensures.value) (sym (append-nil c.args.numbers.now.holds.list))

pub cases_at-returns-in-None-clause-holds : goal.cases_at-returns-in-None-clause-holds
cases_at-returns-in-None-clause-holds t c =
    rw (none_found (codes "cases") c.args.fields.now c.in-None.ensures.value) (sym (append-nil c.args.numbers.now.holds.list))

pub held_broker-returns-in_ok-held_round-in-Ok-clause-numbered : goal.held_broker-returns-in_ok-held_round-in-Ok-clause-numbered
held_broker-returns-in_ok-held_round-in-Ok-clause-numbered t c =
    let next : length c.hold.new.numbers.holds.list ≡ length c.args.numbers.now.holds.list + 1 =
    ap length c.in_ok-node.ensures.holds ∙ length-append c.args.numbers.now.holds.list (c.args.batching.now.policy ∷ []) in
    c.in_ok-held_round-in-Ok.ensures.numbered (length c.args.names.now) (next_of c.args.numbers.now) (next_of c.hold.new.numbers)
    c.in_ok-node.ensures.number c.in_ok-node.ensures.leaf next c.in-Ok.ensures.numbered

pub held_broker-returns-in-Err-clause-refused : goal.held_broker-returns-in-Err-clause-refused
held_broker-returns-in-Err-clause-refused t c =
    refused_behind ((below (codes "batching") (below (codes "check") (optional_check_as c.args.batching.now.check.now))).texts c.args.at.now)
    (((outputs_at (codes "outputs") (met c.args.fields.now)).outline c.args.names.now true).texts c.args.at.now)
    (part_of c.in_ok-check.check) c.in-Err.refusal c.in_ok-check.ensures.made c.in-Err.ensures.refused

pub retry-returns-clause-numbered : goal.retry-returns-clause-numbered
retry-returns-clause-numbered t c =
    c.in_ok-copies.ensures.numbered (length c.args.names.now) (next_of c.args.numbers.now) (sym c.in_ok-before.ensures.leaf) (sym c.in_ok-before.ensures.hold) c.in_ok-child.ensures.numbered
