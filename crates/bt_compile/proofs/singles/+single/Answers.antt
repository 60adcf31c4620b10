use Rattle.std.proofs.Common.{◌∙◌, ◌++◌, [], ap, map, subst, sym, rules}
use Rattle.std.specs.Prelude.{codes}
use Rattle.bt_schema.specs.declared.forms.Language.TheVariants as language
use Rattle.bt_making.specs.Sources.{AreMade, AreRefused}
use Rattle.bt_making.proofs.Along.{made_along, refused_behind, third_refused}
use Rattle.bt_messages.specs.Cases.{in_case}
use Rattle.bt_compile.specs.Made.{blank_case, blank_single, case_parts, joined, part_of, single_parts}
use Rattle.bt_compile.specs.Outlines.{listed}
use Rattle.bt_compile.specs.Reading as spec
use Rattle.bt_compile.specs.Reading.{Reading, reading}
use Rattle.bt_compile.proofs.Finds.{none_met}
use Rattle.bt_compile.proofs.Idle.{idle_single_blank, idle_single_parts}
use Rattle.bt_compile.proofs.Listing.{StandsAt, all_formed, all_made, next, refused_there}
use Rattle.bt_compile.proofs.Twice.{map_twice}
use Rattle.bt_compile.proofs.singles.+single.Goals as goal

pub component-returns-in-None-clause-form : goal.component-returns-in-None-clause-form
component-returns-in-None-clause-form t c =
    rw (none_met c.args.fields.now c.in-None.ensures.value) (ap blank_single c.idle.ensures ∙ idle_single_blank)

pub component-returns-in-None-clause-made : goal.component-returns-in-None-clause-made
component-returns-in-None-clause-made t c =
    rw (none_met c.args.fields.now c.in-None.ensures.value) (subst (AreMade []) (sym (ap single_parts c.idle.ensures ∙ idle_single_parts)) tt)

pub each_single-returns-in_err-p-clause-refused : goal.each_single-returns-in_err-p-clause-refused
each_single-returns-in_err-p-clause-refused t c =
    let stands : StandsAt c.as_slice-item-items.result.now c.args.at.now c.loop-i.i c.item-item.result c.as_str.result.now =
    record { within = c.loop-i-test.true; there = c.item-item.is; pointer = c.as_str.ensures ∙ c.in_ok-here.ensures } in
    let refused : AreRefused ((listed (map (λ (r : Reading). r.single) (map reading c.args.items.now))).texts c.args.at.now) c.in_err-p.field-0.0 =
    refused_there blank_single single_parts (λ r. r.single) c.as_slice-item-items.result.now c.args.items.now c.args.at.now c.loop-i.i c.loop-i.out
    c.item-item.result c.as_str.result.now c.in_err-p.field-0.0 c.as_slice-item-items.ensures stands c.in_err-p.ensures.refused c.loop-i.invariant in
    search rules

pub each_single-loop-i-preserved : goal.each_single-loop-i-preserved
each_single-loop-i-preserved t c =
    let stands : StandsAt c.as_slice-item-items.result.now c.args.at.now c.loop-i.i c.item-item.result c.as_str.result.now =
    record { within = c.loop-i-test.true; there = c.item-item.is; pointer = c.as_str.ensures ∙ c.in_ok-here.ensures } in
    next blank_single single_parts (λ r. r.single) c.as_slice-item-items.result.now c.args.at.now c.loop-i.i c.loop-i.out c.push_single.new.out
    c.item-item.result c.as_str.result.now c.in_ok-p.p stands c.in_ok-push_single.ensures c.in_ok-p.ensures.form c.in_ok-p.ensures.made c.loop-i.invariant

pub each_single-returns-clause-made : goal.each_single-returns-clause-made
each_single-returns-clause-made t c =
    all_made blank_single single_parts (λ r. r.single) c.as_slice-item-items.result.now c.args.items.now c.args.at.now c.loop-i.i c.loop-i.out
    c.as_slice-item-items.ensures c.loop-i-test.false c.loop-i.invariant

pub each_case-returns-in_err-k-clause-refused : goal.each_case-returns-in_err-k-clause-refused
each_case-returns-in_err-k-clause-refused t c =
    let stands : StandsAt c.as_slice-item-items.result.now c.args.at.now c.loop-i.i c.item-item.result c.as_str.result.now =
    record { within = c.loop-i-test.true; there = c.item-item.is; pointer = c.as_str.ensures ∙ c.in_ok-here.ensures } in
    let refused : AreRefused ((listed (map (λ (r : Reading). r.switch_case) (map reading c.args.items.now))).texts c.args.at.now) c.in_err-k.field-0.0 =
    refused_there (λ k. blank_case (in_case blank_single k)) (λ k. case_parts (in_case single_parts k)) (λ r. r.switch_case)
    c.as_slice-item-items.result.now c.args.items.now c.args.at.now c.loop-i.i c.loop-i.out
    c.item-item.result c.as_str.result.now c.in_err-k.field-0.0 c.as_slice-item-items.ensures stands c.in_err-k.ensures.refused c.loop-i.invariant in
    search rules

pub each_case-loop-i-preserved : goal.each_case-loop-i-preserved
each_case-loop-i-preserved t c =
    let stands : StandsAt c.as_slice-item-items.result.now c.args.at.now c.loop-i.i c.item-item.result c.as_str.result.now =
    record { within = c.loop-i-test.true; there = c.item-item.is; pointer = c.as_str.ensures ∙ c.in_ok-here.ensures } in
    next (λ k. blank_case (in_case blank_single k)) (λ k. case_parts (in_case single_parts k)) (λ r. r.switch_case)
    c.as_slice-item-items.result.now c.args.at.now c.loop-i.i c.loop-i.out c.push_case.new.out
    c.item-item.result c.as_str.result.now c.in_ok-k.k stands c.in_ok-push_case.ensures c.in_ok-k.ensures.form c.in_ok-k.ensures.made c.loop-i.invariant

pub each_case-returns-clause-form : goal.each_case-returns-clause-form
each_case-returns-clause-form t c =
    map_twice blank_case (in_case blank_single) c.loop-i.out
    ∙ all_formed (λ k. blank_case (in_case blank_single k)) (λ k. case_parts (in_case single_parts k)) (λ r. r.switch_case)
    c.as_slice-item-items.result.now c.args.items.now c.args.at.now c.loop-i.i c.loop-i.out c.as_slice-item-items.ensures c.loop-i-test.false c.loop-i.invariant

pub each_case-returns-clause-made : goal.each_case-returns-clause-made
each_case-returns-clause-made t c =
    subst (λ ps. AreMade ((listed (map (λ (r : Reading). r.switch_case) (map reading c.args.items.now))).texts c.args.at.now) (joined ps))
    (sym (map_twice case_parts (in_case single_parts) c.loop-i.out))
    (all_made (λ k. blank_case (in_case blank_single k)) (λ k. case_parts (in_case single_parts k)) (λ r. r.switch_case)
    c.as_slice-item-items.result.now c.args.items.now c.args.at.now c.loop-i.i c.loop-i.out c.as_slice-item-items.ensures c.loop-i-test.false c.loop-i.invariant)

pub branch_in-returns-in_err-back-clause-refused : goal.branch_in-returns-in_err-back-clause-refused
branch_in-returns-in_err-back-clause-refused t c =
    let ms = spec.met c.args.fields.now in
    let inside = (spec.singles_at (codes "processors") ms).texts c.args.at.now in
    let request = (spec.optional_at language.Mapping (codes "request_map") ms).texts c.args.at.now in
    let back = (spec.optional_at language.Mapping (codes "result_map") ms).texts c.args.at.now in
    let p = joined (map single_parts c.in_ok-processors.processors) in
    let q = part_of c.in_ok-request.request in
    let both : AreMade (inside ++ request) (p ++ q) = made_along inside request p q c.in_ok-processors.ensures.made c.in_ok-request.ensures.made in
    let refused : AreRefused ((inside ++ request) ++ back) c.in_err-back.field-0.0 =
    refused_behind (inside ++ request) back (p ++ q) c.in_err-back.field-0.0 both c.in_err-back.ensures.refused in
    let refused_too : AreRefused (inside ++ (request ++ back)) c.in_err-back.field-0.0 =
    third_refused inside request back p q c.in_err-back.field-0.0 c.in_ok-processors.ensures.made c.in_ok-request.ensures.made c.in_err-back.ensures.refused in
    search rules
