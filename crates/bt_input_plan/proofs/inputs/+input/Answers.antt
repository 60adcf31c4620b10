use Rattle.std.proofs.Common.{◌∙◌, ◌++◌, ◌∷◌, [], codes, map, rules, subst}
use Rattle.bt_value.specs.Keys.{find}
use Rattle.bt_making.specs.Sources.{AreMade, AreRefused, mapping}
use Rattle.bt_making.proofs.Along.{refused_behind}
use Rattle.bt_outlines.specs.Outlines.{below, check_as, listed, part_of}
use Rattle.bt_outlines.proofs.Listing.{StandsAt, all_formed, all_made, next, refused_there}
use Rattle.bt_input_plan.specs.Made.{blanked, parts}
use Rattle.bt_input_plan.specs.Reading as reads
use Rattle.bt_input_plan.specs.Reading.{Reading, met, reading}
use Rattle.bt_input_plan.proofs.inputs.+input.Goals as goal

pub each_input-returns-in_err-x-clause-refused : goal.each_input-returns-in_err-x-clause-refused
each_input-returns-in_err-x-clause-refused t c =
    let stands : StandsAt c.as_slice-item-items.result.now c.args.at.now c.loop-i.i c.item-item.result c.as_str.result.now =
    record { within = c.loop-i-test.true; there = c.item-item.is; pointer = c.as_str.ensures ∙ c.in_ok-here.ensures } in
    let refused : AreRefused ((listed (map (λ (r : Reading). r.input) (map reading c.args.items.now))).texts c.args.at.now) c.in_err-x.field-0.0 =
    refused_there reading blanked parts (λ r. r.input) c.as_slice-item-items.result.now c.args.items.now c.args.at.now c.loop-i.i c.loop-i.out
    c.item-item.result c.as_str.result.now c.in_err-x.field-0.0 c.as_slice-item-items.ensures stands c.in_err-x.ensures.refused c.loop-i.invariant in
    search rules

pub each_input-loop-i-preserved : goal.each_input-loop-i-preserved
each_input-loop-i-preserved t c =
    let stands : StandsAt c.as_slice-item-items.result.now c.args.at.now c.loop-i.i c.item-item.result c.as_str.result.now =
    record { within = c.loop-i-test.true; there = c.item-item.is; pointer = c.as_str.ensures ∙ c.in_ok-here.ensures } in
    next reading blanked parts (λ r. r.input) c.as_slice-item-items.result.now c.args.at.now c.loop-i.i c.loop-i.out c.push_input.new.out
    c.item-item.result c.as_str.result.now c.in_ok-x.x stands c.in_ok-push_input.ensures c.in_ok-x.ensures.form c.in_ok-x.ensures.made c.loop-i.invariant

pub each_input-returns-clause-made : goal.each_input-returns-clause-made
each_input-returns-clause-made t c =
    all_made reading blanked parts (λ r. r.input) c.as_slice-item-items.result.now c.args.items.now c.args.at.now c.loop-i.i c.loop-i.out
    c.as_slice-item-items.ensures c.loop-i-test.false c.loop-i.invariant

pub batched_in-returns-in_err-child-clause-refused : goal.batched_in-returns-in_err-child-clause-refused
batched_in-returns-in_err-child-clause-refused t c =
    let ms = met c.args.fields.now in
    let policy = (reads.policy_at (codes "policy") ms).texts c.args.at.now in
    let child = (reads.input_at (codes "child") ms).texts c.args.at.now in
    let refused : AreRefused (policy ++ child) c.in_err-child.field-0.0 =
    refused_behind policy child (part_of c.in_ok-policy.policy.check) c.in_err-child.field-0.0 c.in_ok-policy.ensures.made c.in_err-child.ensures.refused in
    search rules

pub until_in-returns-in_err-child-clause-refused : goal.until_in-returns-in_err-child-clause-refused
until_in-returns-in_err-child-clause-refused t c =
    let ms = met c.args.fields.now in
    let check = (below (codes "check") (check_as (reads.text_of (find (codes "check") ms)))).texts c.args.at.now in
    let child = (reads.input_at (codes "input") ms).texts c.args.at.now in
    let made : AreMade check (mapping c.in_ok-check.check ∷ []) =
    subst (λ t. AreMade ((below (codes "check") (check_as t)).texts c.args.at.now) (mapping c.in_ok-check.check ∷ [])) c.text_at.ensures c.in_ok-check.ensures.made in
    let refused : AreRefused (check ++ child) c.in_err-child.field-0.0 =
    refused_behind check child (mapping c.in_ok-check.check ∷ []) c.in_err-child.field-0.0 made c.in_err-child.ensures.refused in
    search rules
