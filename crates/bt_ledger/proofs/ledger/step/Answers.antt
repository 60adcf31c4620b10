use Rattle.std.proofs.Common.{◌≡◌, arith, ap, ◌∙◌, set}
use Rattle.std.proofs.lemmas.List.{get_or_default}
use Rattle.bt_demand.specs.Holding.{booked_in}
use Rattle.bt_ledger.specs.Ledger.{parts_in, over_slots, stepped_slot, stepped_slots}
use Rattle.bt_ledger.specs.Open.{tree_of}
use Rattle.bt_steps.specs.Stepped.{stepped}
use Rattle.bt_ledger.specs.declared.slot.Slot.{Slot}
use Rattle.bt_ledger.specs.declared.slot.Slot.TheVariants.{Free}
use Rattle.bt_ledger.proofs.Slots.{step_sum, sum_under}
use Rattle.bt_ledger.proofs.ledger.step.Goals as goal

pub overflow_sub-booked : goal.overflow_sub-booked
overflow_sub-booked c =
    let ss = c.args.slots.now.items in
    let here = c.index_mut-place.ensures.value ∙ get_or_default ss c.args.slot c.index_mut-place.result.now Free c.requires.slot in
    let b = c.step_slot-before.ensures.before ∙ ap (λ (x : Slot). booked_in (tree_of (parts_in x) c.args.part)) here in
    let u = sum_under booked_in c.args.slots.now.items c.args.slot c.args.part c.requires.slot c.requires.part in
    let n = c.requires.number in
    omega arith

pub overflow_add-booked : goal.overflow_add-booked
overflow_add-booked c =
    let ss = c.args.slots.now.items in
    let here = c.index_mut-place.ensures.value ∙ get_or_default ss c.args.slot c.index_mut-place.result.now Free c.requires.slot in
    let b = c.step_slot-before.ensures.before ∙ ap (λ (x : Slot). booked_in (tree_of (parts_in x) c.args.part)) here in
    let a = c.step_slot-before.ensures.after ∙ ap (λ (x : Slot). booked_in (stepped c.args.step (tree_of (parts_in x) c.args.part))) here in
    let s = step_sum booked_in c.args.slots.now.items c.args.slot c.args.part c.args.step c.requires.slot c.requires.part in
    let u = sum_under booked_in c.args.slots.now.items c.args.slot c.args.part c.requires.slot c.requires.part in
    let n = c.requires.number in
    let w = c.requires.bound in
    omega arith

pub returns-clause-booked : goal.returns-clause-booked
returns-clause-booked c =
    let ss = c.args.slots.now.items in
    let here = c.index_mut-place.ensures.value ∙ get_or_default ss c.args.slot c.index_mut-place.result.now Free c.requires.slot in
    let b = c.step_slot-before.ensures.before ∙ ap (λ (x : Slot). booked_in (tree_of (parts_in x) c.args.part)) here in
    let a = c.step_slot-before.ensures.after ∙ ap (λ (x : Slot). booked_in (stepped c.args.step (tree_of (parts_in x) c.args.part))) here in
    let s = step_sum booked_in c.args.slots.now.items c.args.slot c.args.part c.args.step c.requires.slot c.requires.part in
    let u = sum_under booked_in c.args.slots.now.items c.args.slot c.args.part c.requires.slot c.requires.part in
    let n = c.requires.number in
    let e : over_slots booked_in (set ss c.args.slot c.step_slot-before.new.slot) ≡ over_slots booked_in (stepped_slots c.args.step c.args.slot c.args.part ss) =
    ap (λ (x : Slot). over_slots booked_in (set ss c.args.slot x)) (c.step_slot-before.ensures.slot ∙ ap (stepped_slot c.args.step c.args.part) here) in
    omega arith
