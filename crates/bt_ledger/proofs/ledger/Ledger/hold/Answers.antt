use Rattle.std.proofs.Common.{◌≡◌, ◌<◌, ◌≤◌, arith, sym, ap, ◌∙◌, subst, [], ◌∷◌, ◌++◌, set, get_or, length, Some}
use Rattle.bt_chains.specs.declared.Entry.{Entry}
use Rattle.bt_demand.specs.Holding.{booked_in, held_by}
use Rattle.bt_demand.specs.Next.{todo}
use Rattle.bt_demand.specs.declared.todo.Todo.TheVariants.{Wait}
use Rattle.bt_ledger.specs.Calls.{entry_of, size_or}
use Rattle.bt_ledger.specs.Ledger.{Ledger, slot_at, part_tree, IsPart, Roomy, held, over_slots, stepped_slots, moment_in}
use Rattle.bt_ledger.specs.Pooled.{chains_of, ledger_of}
use Rattle.bt_steps.specs.declared.step.Step.TheVariants.{Wait as Waits}
use Rattle.bt_ledger.proofs.Keeping.{next_known, kept_hold, small_step, bytes_small, held_booked}
use Rattle.bt_ledger.proofs.Shown.{ledger_is, chains_length, entry_is}
use Rattle.bt_ledger.proofs.Room.{hold_room}
use Rattle.bt_ledger.proofs.ledger.Ledger.hold.Goals as goal

pub step-requires-clause-bound : goal.step-requires-clause-bound
step-requires-clause-bound c =
    let l = ledger_of c.self.inside.slots.items c.self.inside.policies.items c.self.inside.pool in
    let part : IsPart (ledger_of c.self.inside.slots.items c.self.inside.policies.items c.self.inside.pool) c.args.slot c.args.part = subst (λ (x : Ledger). IsPart x c.args.slot c.args.part) (sym c.self.view_is) c.requires.part in
    let room : Roomy (ledger_of c.self.inside.slots.items c.self.inside.policies.items c.self.inside.pool) c.args.slot c.args.part = subst (λ (x : Ledger). Roomy x c.args.slot c.args.part) (sym c.self.view_is) c.requires.room in
    small_step l c.args.slot c.args.part (Waits c.args.node) _ _ _ _ c.self.invariant part room

pub index_mut-tally-requires : goal.index_mut-tally-requires
index_mut-tally-requires c =
    let l = ledger_of c.self.inside.slots.items c.self.inside.policies.items c.self.inside.pool in
    let next : todo (part_tree (ledger_of c.self.inside.slots.items c.self.inside.policies.items c.self.inside.pool) c.args.slot c.args.part) ≡ Some (Wait c.args.node) = subst (λ (x : Ledger). todo (part_tree x c.args.slot c.args.part) ≡ Some (Wait c.args.node)) (sym c.self.view_is) c.requires.next in
    let known = next_known l c.args.slot c.args.part c.args.node c.self.invariant.book next in
    let chains = c.self.invariant.book.chains in
    let each = c.self.invariant.tallied.each in
    omega arith

pub add-requires : goal.add-requires
add-requires c =
    let l = ledger_of c.self.inside.slots.items c.self.inside.policies.items c.self.inside.pool in
    let next : todo (part_tree (ledger_of c.self.inside.slots.items c.self.inside.policies.items c.self.inside.pool) c.args.slot c.args.part) ≡ Some (Wait c.args.node) = subst (λ (x : Ledger). todo (part_tree x c.args.slot c.args.part) ≡ Some (Wait c.args.node)) (sym c.self.view_is) c.requires.next in
    let known = next_known l c.args.slot c.args.part c.args.node c.self.invariant.book next in
    let chains = c.self.invariant.book.chains in
    let within : c.args.node < length (chains_of c.self.inside.pool) = omega arith in
    let few : held l ≤ l.entries = (let a = held_booked l c.self.invariant.book in let b = c.self.invariant.book.bound in omega arith) in
    bytes_small l c.args.node c.index_mut-tally.result.now _ _ _ _ c.self.invariant within c.index_mut-tally.ensures.value few

pub put-requires-clause-chain : goal.put-requires-clause-chain
put-requires-clause-chain c =
    let l = ledger_of c.self.inside.slots.items c.self.inside.policies.items c.self.inside.pool in
    let next : todo (part_tree (ledger_of c.self.inside.slots.items c.self.inside.policies.items c.self.inside.pool) c.args.slot c.args.part) ≡ Some (Wait c.args.node) = subst (λ (x : Ledger). todo (part_tree x c.args.slot c.args.part) ≡ Some (Wait c.args.node)) (sym c.self.view_is) c.requires.next in
    let known = next_known l c.args.slot c.args.part c.args.node c.self.invariant.book next in
    let chains = c.self.invariant.book.chains in
    let n = chains_length c.self.inside.pool in
    omega arith

pub put-requires-clause-room : goal.put-requires-clause-room
put-requires-clause-room c =
    let l = ledger_of c.self.inside.slots.items c.self.inside.policies.items c.self.inside.pool in
    let part : IsPart (ledger_of c.self.inside.slots.items c.self.inside.policies.items c.self.inside.pool) c.args.slot c.args.part = subst (λ (x : Ledger). IsPart x c.args.slot c.args.part) (sym c.self.view_is) c.requires.part in
    let room : Roomy (ledger_of c.self.inside.slots.items c.self.inside.policies.items c.self.inside.pool) c.args.slot c.args.part = subst (λ (x : Ledger). Roomy x c.args.slot c.args.part) (sym c.self.view_is) c.requires.room in
    let next : todo (part_tree (ledger_of c.self.inside.slots.items c.self.inside.policies.items c.self.inside.pool) c.args.slot c.args.part) ≡ Some (Wait c.args.node) = subst (λ (x : Ledger). todo (part_tree x c.args.slot c.args.part) ≡ Some (Wait c.args.node)) (sym c.self.view_is) c.requires.next in
    let known = next_known l c.args.slot c.args.part c.args.node c.self.invariant.book next in
    let chains = c.self.invariant.book.chains in
    hold_room l c.args.slot c.args.part c.args.node c.self.invariant.book part room next

pub invariant_of-self : goal.invariant_of-self
invariant_of-self c =
    let l = ledger_of c.self.inside.slots.items c.self.inside.policies.items c.self.inside.pool in
    let part : IsPart (ledger_of c.self.inside.slots.items c.self.inside.policies.items c.self.inside.pool) c.args.slot c.args.part = subst (λ (x : Ledger). IsPart x c.args.slot c.args.part) (sym c.self.view_is) c.requires.part in
    let room : Roomy (ledger_of c.self.inside.slots.items c.self.inside.policies.items c.self.inside.pool) c.args.slot c.args.part = subst (λ (x : Ledger). Roomy x c.args.slot c.args.part) (sym c.self.view_is) c.requires.room in
    let next : todo (part_tree (ledger_of c.self.inside.slots.items c.self.inside.policies.items c.self.inside.pool) c.args.slot c.args.part) ≡ Some (Wait c.args.node) = subst (λ (x : Ledger). todo (part_tree x c.args.slot c.args.part) ≡ Some (Wait c.args.node)) (sym c.self.view_is) c.requires.next in
    let known = next_known l c.args.slot c.args.part c.args.node c.self.invariant.book next in
    let chains = c.self.invariant.book.chains in
    let front = c.put.ensures.chains in
    let now = ap (λ (x : Ledger). held_by c.args.node (part_tree x c.args.slot c.args.part)) (sym c.self.view_is) in
    let held : Some (record { ends = c.held-ends.result.ends; size = c.held-ends.result.size }) ≡ held_by c.args.node (part_tree l c.args.slot c.args.part) = c.held-ends.ensures ∙ now in
    let entry : record { slot = c.args.slot; part = c.args.part; node = c.args.node; size = c.held-ends.result.size; moment = c.moment-moment.result } ≡ entry_of l c.args.slot c.args.part c.args.node =
    entry_is c.args.slot c.args.part c.args.node _ _ _ _ (ap size_or held) (c.moment-moment.ensures ∙ ap (λ (x : Ledger). moment_in (slot_at x c.args.slot)) (sym c.self.view_is)) in
    let e = ledger_is c.step.new.slots.items (stepped_slots (Waits c.args.node) c.args.slot c.args.part c.self.inside.slots.items) c.self.inside.policies.items c.put.new.pool _ _ c.step.ensures.slots c.put.ensures.entries
    (c.put.ensures.chains ∙ ap (λ (x : Entry). set (chains_of c.self.inside.pool) c.args.node (get_or (chains_of c.self.inside.pool) c.args.node [] ++ x ∷ [])) entry) in
    rw (e, c.add.ensures.tally) (kept_hold l c.args.slot c.args.part c.args.node c.self.inside.booked c.step.new.booked _ _ _ c.index_mut-tally.result.now c.held-ends.result.size c.held-ends.result.ends c.self.invariant part room next (c.step.ensures.booked ∙ ap (over_slots booked_in) c.step.ensures.slots) c.index_mut-tally.ensures.value held c.add.ensures.wide)

pub returns : goal.returns
returns c =
    let l = ledger_of c.self.inside.slots.items c.self.inside.policies.items c.self.inside.pool in
    let front = c.put.ensures.chains in
    let now = ap (λ (x : Ledger). held_by c.args.node (part_tree x c.args.slot c.args.part)) (sym c.self.view_is) in
    let held : Some (record { ends = c.held-ends.result.ends; size = c.held-ends.result.size }) ≡ held_by c.args.node (part_tree l c.args.slot c.args.part) = c.held-ends.ensures ∙ now in
    let entry : record { slot = c.args.slot; part = c.args.part; node = c.args.node; size = c.held-ends.result.size; moment = c.moment-moment.result } ≡ entry_of l c.args.slot c.args.part c.args.node =
    entry_is c.args.slot c.args.part c.args.node _ _ _ _ (ap size_or held) (c.moment-moment.ensures ∙ ap (λ (x : Ledger). moment_in (slot_at x c.args.slot)) (sym c.self.view_is)) in
    let e = ledger_is c.step.new.slots.items (stepped_slots (Waits c.args.node) c.args.slot c.args.part c.self.inside.slots.items) c.self.inside.policies.items c.put.new.pool _ _ c.step.ensures.slots c.put.ensures.entries
    (c.put.ensures.chains ∙ ap (λ (x : Entry). set (chains_of c.self.inside.pool) c.args.node (get_or (chains_of c.self.inside.pool) c.args.node [] ++ x ∷ [])) entry) in
    rw (← c.self.view_is) e
