use Rattle.std.proofs.Common.{◌∙◌, ◌∷◌, ◌++◌, [], ℕ, List, ap, map, subst, sym, rules}
use Rattle.std.specs.Prelude.{codes}
use Rattle.bt_schema.specs.declared.forms.Language.TheVariants as language
use Rattle.bt_making.specs.Sources.{AreMade, AreRefused, mapping}
use Rattle.bt_making.proofs.Along.{refused_behind}
use Rattle.bt_compile.specs.Made.{blank_group, blanked, group_parts, in_group, joined, parts}
use Rattle.bt_compile.specs.Outlines.{below, listed, text_as}
use Rattle.bt_compile.specs.Reading as spec
use Rattle.bt_compile.specs.Reading.{Reading, reading}
use Rattle.bt_compile.proofs.Finds.{none_met}
use Rattle.bt_compile.proofs.Idle.{idle_blank, idle_parts}
use Rattle.bt_compile.proofs.Listing.{StandsAt, all_formed, all_made, next, refused_there}
use Rattle.bt_compile.proofs.Twice.{map_twice}
use Rattle.bt_compile.proofs.processors.+processor.Goals as goal

pub component-returns-in-None-clause-form : goal.component-returns-in-None-clause-form
component-returns-in-None-clause-form t c =
    rw (none_met c.args.fields.now c.in-None.ensures.value) (ap blanked c.idle.ensures ∙ idle_blank)

pub component-returns-in-None-clause-made : goal.component-returns-in-None-clause-made
component-returns-in-None-clause-made t c =
    rw (none_met c.args.fields.now c.in-None.ensures.value) (subst (AreMade []) (sym (ap parts c.idle.ensures ∙ idle_parts)) tt)

pub each_processor-returns-in_err-p-clause-refused : goal.each_processor-returns-in_err-p-clause-refused
each_processor-returns-in_err-p-clause-refused t c =
    let stands : StandsAt c.as_slice-item-items.result.now c.args.at.now c.loop-i.i c.item-item.result c.as_str.result.now =
    record { within = c.loop-i-test.true; there = c.item-item.is; pointer = c.as_str.ensures ∙ c.in_ok-here.ensures } in
    let refused : AreRefused ((listed (map (λ (r : Reading). r.processor) (map reading c.args.items.now))).texts c.args.at.now) c.in_err-p.field-0.0 =
    refused_there blanked parts (λ r. r.processor) c.as_slice-item-items.result.now c.args.items.now c.args.at.now c.loop-i.i c.loop-i.out
    c.item-item.result c.as_str.result.now c.in_err-p.field-0.0 c.as_slice-item-items.ensures stands c.in_err-p.ensures.refused c.loop-i.invariant in
    search rules

pub each_processor-loop-i-preserved : goal.each_processor-loop-i-preserved
each_processor-loop-i-preserved t c =
    let stands : StandsAt c.as_slice-item-items.result.now c.args.at.now c.loop-i.i c.item-item.result c.as_str.result.now =
    record { within = c.loop-i-test.true; there = c.item-item.is; pointer = c.as_str.ensures ∙ c.in_ok-here.ensures } in
    next blanked parts (λ r. r.processor) c.as_slice-item-items.result.now c.args.at.now c.loop-i.i c.loop-i.out c.push_processor.new.out
    c.item-item.result c.as_str.result.now c.in_ok-p.p stands c.in_ok-push_processor.ensures c.in_ok-p.ensures.form c.in_ok-p.ensures.made c.loop-i.invariant

pub each_processor-returns-clause-made : goal.each_processor-returns-clause-made
each_processor-returns-clause-made t c =
    all_made blanked parts (λ r. r.processor) c.as_slice-item-items.result.now c.args.items.now c.args.at.now c.loop-i.i c.loop-i.out
    c.as_slice-item-items.ensures c.loop-i-test.false c.loop-i.invariant

pub each_group-returns-in_err-g-clause-refused : goal.each_group-returns-in_err-g-clause-refused
each_group-returns-in_err-g-clause-refused t c =
    let stands : StandsAt c.as_slice-item-items.result.now c.args.at.now c.loop-i.i c.item-item.result c.as_str.result.now =
    record { within = c.loop-i-test.true; there = c.item-item.is; pointer = c.as_str.ensures ∙ c.in_ok-here.ensures } in
    let refused : AreRefused ((listed (map (λ (r : Reading). r.group) (map reading c.args.items.now))).texts c.args.at.now) c.in_err-g.field-0.0 =
    refused_there (λ k. blank_group (in_group blanked k)) (λ k. group_parts (in_group parts k)) (λ r. r.group)
    c.as_slice-item-items.result.now c.args.items.now c.args.at.now c.loop-i.i c.loop-i.out
    c.item-item.result c.as_str.result.now c.in_err-g.field-0.0 c.as_slice-item-items.ensures stands c.in_err-g.ensures.refused c.loop-i.invariant in
    search rules

pub each_group-loop-i-preserved : goal.each_group-loop-i-preserved
each_group-loop-i-preserved t c =
    let stands : StandsAt c.as_slice-item-items.result.now c.args.at.now c.loop-i.i c.item-item.result c.as_str.result.now =
    record { within = c.loop-i-test.true; there = c.item-item.is; pointer = c.as_str.ensures ∙ c.in_ok-here.ensures } in
    next (λ k. blank_group (in_group blanked k)) (λ k. group_parts (in_group parts k)) (λ r. r.group)
    c.as_slice-item-items.result.now c.args.at.now c.loop-i.i c.loop-i.out c.push_group.new.out
    c.item-item.result c.as_str.result.now c.in_ok-g.g stands c.in_ok-push_group.ensures c.in_ok-g.ensures.form c.in_ok-g.ensures.made c.loop-i.invariant

pub each_group-returns-clause-form : goal.each_group-returns-clause-form
each_group-returns-clause-form t c =
    map_twice blank_group (in_group blanked) c.loop-i.out
    ∙ all_formed (λ k. blank_group (in_group blanked k)) (λ k. group_parts (in_group parts k)) (λ r. r.group)
    c.as_slice-item-items.result.now c.args.items.now c.args.at.now c.loop-i.i c.loop-i.out c.as_slice-item-items.ensures c.loop-i-test.false c.loop-i.invariant

pub each_group-returns-clause-made : goal.each_group-returns-clause-made
each_group-returns-clause-made t c =
    subst (λ ps. AreMade ((listed (map (λ (r : Reading). r.group) (map reading c.args.items.now))).texts c.args.at.now) (joined ps))
    (sym (map_twice group_parts (in_group parts) c.loop-i.out))
    (all_made (λ k. blank_group (in_group blanked k)) (λ k. group_parts (in_group parts k)) (λ r. r.group)
    c.as_slice-item-items.result.now c.args.items.now c.args.at.now c.loop-i.i c.loop-i.out c.as_slice-item-items.ensures c.loop-i-test.false c.loop-i.invariant)

pub group_in-returns-in_err-processors-clause-refused : goal.group_in-returns-in_err-processors-clause-refused
group_in-returns-in_err-processors-clause-refused t c =
    let ms = spec.met c.args.fields.now in
    let check = (spec.text_at language.Check (codes "check") ms).texts c.args.at.now in
    let inside = (spec.processors_at (codes "processors") ms).texts c.args.at.now in
    let made : AreMade check (mapping c.in_ok-check.check ∷ []) =
    subst (λ (text : List ℕ). AreMade ((below (codes "check") (text_as language.Check text)).texts c.args.at.now) (mapping c.in_ok-check.check ∷ []))
    c.text_at.ensures c.in_ok-check.ensures.made in
    let refused : AreRefused (check ++ inside) c.in_err-processors.field-0.0 =
    refused_behind check inside (mapping c.in_ok-check.check ∷ []) c.in_err-processors.field-0.0 made c.in_err-processors.ensures.refused in
    search rules
