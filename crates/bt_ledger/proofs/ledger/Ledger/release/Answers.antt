use Rattle.std.proofs.Common.{◌≡◌, ◌+◌, ◌<◌, arith, refl, sym, ap, ◌∙◌, subst, List, get_or, length, Some, None}
use Rattle.bt_chains.specs.declared.Entry.{Entry}
use Rattle.bt_demand.specs.Holding.{booked_in}
use Rattle.bt_ledger.specs.Calls.{entry_of}
use Rattle.std.proofs.lemmas.List.{get_or_default}
use Rattle.std.specs.List.{AllByRecursion}
use Rattle.bt_ledger.specs.Kept.{no_tally}
use Rattle.bt_ledger.specs.Ledger.{Ledger, chain_at, over_slots, stepped_slots, sizes}
use Rattle.bt_ledger.specs.Pooled.{ledger_of}
use Rattle.bt_steps.specs.declared.step.Step.TheVariants.{Release}
use Rattle.bt_ledger.specs.declared.tally.Tally.{Tally}
use Rattle.bt_ledger.proofs.Keeping.{kept_release, small_step, front_roomy}
use Rattle.bt_ledger.proofs.Shown.{ledger_is, chains_length, front_split, none_split}
use Rattle.bt_ledger.proofs.Pooled.{pop_lists}
use Rattle.bt_ledger.proofs.Fronts.{front_part}
use Rattle.bt_ledger.proofs.ledger.Ledger.release.Goals as goal

pub invariant_of-self : goal.invariant_of-self
invariant_of-self c =
    let within : c.args.node < length c.self.inside.policies.items = (let v = ap (λ (x : Ledger). length x.policies) c.self.view_is in let r = c.requires in omega arith) in
    let same = c.self.invariant.book.chains in
    let n = chains_length c.self.inside.pool in
    let inside : c.args.node < length c.self.inside.pool.chains = omega arith in
    let f = none_split c.self.inside.pool c.pop_front.new.self c.args.node (pop_lists c.self.inside.pool c.pop_front.new.self c.args.node None c.in-None.ensures.sound inside c.in-None.ensures.popped) in
    rw f.1 c.self.invariant

pub overflow_sub-tally : goal.overflow_sub-tally
overflow_sub-tally c =
    let l = ledger_of c.self.inside.slots.items c.self.inside.policies.items c.self.inside.pool in
    let within : c.args.node < length c.self.inside.policies.items = (let v = ap (λ (x : Ledger). length x.policies) c.self.view_is in let r = c.requires in omega arith) in
    let same = c.self.invariant.book.chains in
    let n = chains_length c.self.inside.pool in
    let inside : c.args.node < length c.self.inside.pool.chains = omega arith in
    let f = front_split c.self.inside.pool c.pop_front.new.self c.args.node c.in-Some.entry (pop_lists c.self.inside.pool c.pop_front.new.self c.args.node (Some c.in-Some.entry) c.in-Some.ensures.sound inside c.in-Some.ensures.popped) in
    let old : (get_or c.self.inside.tallies.items c.args.node no_tally).bytes ≡ c.index_mut-tally.result.now.bytes = ap (λ (t : Tally). t.bytes) (sym (c.index_mut-tally.ensures.value ∙ get_or_default c.self.inside.tallies.items c.args.node c.index_mut-tally.result.now no_tally (let each = c.self.invariant.tallied.each in omega arith))) in
    let a = c.self.invariant.tallied.bytes c.args.node in
    let b : sizes (chain_at l c.args.node) ≡ c.in-Some.entry.size + sizes f.rest = ap sizes f.was in
    omega arith

pub step-requires-clause-slot : goal.step-requires-clause-slot
step-requires-clause-slot c =
    let l = ledger_of c.self.inside.slots.items c.self.inside.policies.items c.self.inside.pool in
    let within : c.args.node < length c.self.inside.policies.items = (let v = ap (λ (x : Ledger). length x.policies) c.self.view_is in let r = c.requires in omega arith) in
    let same = c.self.invariant.book.chains in
    let n = chains_length c.self.inside.pool in
    let inside : c.args.node < length c.self.inside.pool.chains = omega arith in
    let f = front_split c.self.inside.pool c.pop_front.new.self c.args.node c.in-Some.entry (pop_lists c.self.inside.pool c.pop_front.new.self c.args.node (Some c.in-Some.entry) c.in-Some.ensures.sound inside c.in-Some.ensures.popped) in
    (front_part l c.args.node c.in-Some.entry f.rest c.self.invariant.book f.was).0.0

pub step-requires-clause-part : goal.step-requires-clause-part
step-requires-clause-part c =
    let l = ledger_of c.self.inside.slots.items c.self.inside.policies.items c.self.inside.pool in
    let within : c.args.node < length c.self.inside.policies.items = (let v = ap (λ (x : Ledger). length x.policies) c.self.view_is in let r = c.requires in omega arith) in
    let same = c.self.invariant.book.chains in
    let n = chains_length c.self.inside.pool in
    let inside : c.args.node < length c.self.inside.pool.chains = omega arith in
    let f = front_split c.self.inside.pool c.pop_front.new.self c.args.node c.in-Some.entry (pop_lists c.self.inside.pool c.pop_front.new.self c.args.node (Some c.in-Some.entry) c.in-Some.ensures.sound inside c.in-Some.ensures.popped) in
    (front_part l c.args.node c.in-Some.entry f.rest c.self.invariant.book f.was).0.1

pub step-requires-clause-bound : goal.step-requires-clause-bound
step-requires-clause-bound c =
    let l = ledger_of c.self.inside.slots.items c.self.inside.policies.items c.self.inside.pool in
    let within : c.args.node < length c.self.inside.policies.items = (let v = ap (λ (x : Ledger). length x.policies) c.self.view_is in let r = c.requires in omega arith) in
    let same = c.self.invariant.book.chains in
    let n = chains_length c.self.inside.pool in
    let inside : c.args.node < length c.self.inside.pool.chains = omega arith in
    let f = front_split c.self.inside.pool c.pop_front.new.self c.args.node c.in-Some.entry (pop_lists c.self.inside.pool c.pop_front.new.self c.args.node (Some c.in-Some.entry) c.in-Some.ensures.sound inside c.in-Some.ensures.popped) in
    small_step l c.in-Some.entry.slot c.in-Some.entry.part (Release c.args.node) _ _ _ _ c.self.invariant (front_part l c.args.node c.in-Some.entry f.rest c.self.invariant.book f.was).0 (front_roomy l c.args.node c.in-Some.entry f.rest c.self.invariant.book f.was)

pub invariant_of-self-in-Some : goal.invariant_of-self-in-Some
invariant_of-self-in-Some c =
    let l = ledger_of c.self.inside.slots.items c.self.inside.policies.items c.self.inside.pool in
    let within : c.args.node < length c.self.inside.policies.items = (let v = ap (λ (x : Ledger). length x.policies) c.self.view_is in let r = c.requires in omega arith) in
    let same = c.self.invariant.book.chains in
    let n = chains_length c.self.inside.pool in
    let inside : c.args.node < length c.self.inside.pool.chains = omega arith in
    let f = front_split c.self.inside.pool c.pop_front.new.self c.args.node c.in-Some.entry (pop_lists c.self.inside.pool c.pop_front.new.self c.args.node (Some c.in-Some.entry) c.in-Some.ensures.sound inside c.in-Some.ensures.popped) in
    let e = ledger_is c.step.new.slots.items (stepped_slots (Release c.args.node) c.in-Some.entry.slot c.in-Some.entry.part c.self.inside.slots.items) c.self.inside.policies.items c.pop_front.new.self _ _ c.step.ensures.slots c.in-Some.ensures.entries f.chains in
    rw e (kept_release l c.args.node c.in-Some.entry f.rest c.self.inside.booked c.step.new.booked _ _ _ c.index_mut-tally.result.now c.self.invariant within f.was (c.step.ensures.booked ∙ ap (over_slots booked_in) c.step.ensures.slots) c.index_mut-tally.ensures.value)

pub returns-in-None-clause-released : goal.returns-in-None-clause-released
returns-in-None-clause-released c =
    let l = ledger_of c.self.inside.slots.items c.self.inside.policies.items c.self.inside.pool in
    let within : c.args.node < length c.self.inside.policies.items = (let v = ap (λ (x : Ledger). length x.policies) c.self.view_is in let r = c.requires in omega arith) in
    let same = c.self.invariant.book.chains in
    let n = chains_length c.self.inside.pool in
    let inside : c.args.node < length c.self.inside.pool.chains = omega arith in
    let f = none_split c.self.inside.pool c.pop_front.new.self c.args.node (pop_lists c.self.inside.pool c.pop_front.new.self c.args.node None c.in-None.ensures.sound inside c.in-None.ensures.popped) in
    rw (← c.self.view_is) (rw (f.0, f.1) (refl, refl))

pub returns-in-Some-clause-released : goal.returns-in-Some-clause-released
returns-in-Some-clause-released c =
    let l = ledger_of c.self.inside.slots.items c.self.inside.policies.items c.self.inside.pool in
    let within : c.args.node < length c.self.inside.policies.items = (let v = ap (λ (x : Ledger). length x.policies) c.self.view_is in let r = c.requires in omega arith) in
    let same = c.self.invariant.book.chains in
    let n = chains_length c.self.inside.pool in
    let inside : c.args.node < length c.self.inside.pool.chains = omega arith in
    let f = front_split c.self.inside.pool c.pop_front.new.self c.args.node c.in-Some.entry (pop_lists c.self.inside.pool c.pop_front.new.self c.args.node (Some c.in-Some.entry) c.in-Some.ensures.sound inside c.in-Some.ensures.popped) in
    let e = ledger_is c.step.new.slots.items (stepped_slots (Release c.args.node) c.in-Some.entry.slot c.in-Some.entry.part c.self.inside.slots.items) c.self.inside.policies.items c.pop_front.new.self _ _ c.step.ensures.slots c.in-Some.ensures.entries f.chains in
    rw (← c.self.view_is) (rw f.was (refl, e))

pub returns-in-None-clause-front : goal.returns-in-None-clause-front
returns-in-None-clause-front c =
    let within : c.args.node < length c.self.inside.policies.items = (let v = ap (λ (x : Ledger). length x.policies) c.self.view_is in let r = c.requires in omega arith) in
    let same = c.self.invariant.book.chains in
    let n = chains_length c.self.inside.pool in
    let inside : c.args.node < length c.self.inside.pool.chains = omega arith in
    let f = none_split c.self.inside.pool c.pop_front.new.self c.args.node (pop_lists c.self.inside.pool c.pop_front.new.self c.args.node None c.in-None.ensures.sound inside c.in-None.ensures.popped) in
    rw (← c.self.view_is) f.0

pub returns-in-Some-clause-front : goal.returns-in-Some-clause-front
returns-in-Some-clause-front c =
    let l = ledger_of c.self.inside.slots.items c.self.inside.policies.items c.self.inside.pool in
    let within : c.args.node < length c.self.inside.policies.items = (let v = ap (λ (x : Ledger). length x.policies) c.self.view_is in let r = c.requires in omega arith) in
    let same = c.self.invariant.book.chains in
    let n = chains_length c.self.inside.pool in
    let inside : c.args.node < length c.self.inside.pool.chains = omega arith in
    let f = front_split c.self.inside.pool c.pop_front.new.self c.args.node c.in-Some.entry (pop_lists c.self.inside.pool c.pop_front.new.self c.args.node (Some c.in-Some.entry) c.in-Some.ensures.sound inside c.in-Some.ensures.popped) in
    let p = front_part l c.args.node c.in-Some.entry f.rest c.self.invariant.book f.was in
    let says = subst (λ (es : List Entry). AllByRecursion (λ e. e ≡ entry_of l e.slot e.part c.args.node) es) f.was (c.self.invariant.book.filled c.args.node) in
    rw (← c.self.view_is) (record { part = p.0; waits = p.1; says = says.0 })
