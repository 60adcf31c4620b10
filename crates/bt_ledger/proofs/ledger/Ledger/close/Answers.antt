use Rattle.std.proofs.Common.{◌≡◌, ◌<◌, arith, sym, ap, ◌∙◌, subst, length, IsTrue}
use Rattle.std.proofs.lemmas.List.{get_or_default}
use Rattle.bt_ledger.specs.Due.{unanswered, AllSettled}
use Rattle.bt_ledger.specs.Ledger.{Ledger, slot_at, parts_in, is_given, answered_in}
use Rattle.bt_ledger.specs.Pooled.{ledger_of}
use Rattle.bt_ledger.specs.declared.slot.Slot.{Slot}
use Rattle.bt_ledger.specs.declared.slot.Slot.TheVariants.{Free}
use Rattle.bt_ledger.proofs.BookSlots.{settled_quiet}
use Rattle.bt_ledger.proofs.Freeing.{kept_free, free_room}
use Rattle.bt_ledger.proofs.Slots.{given_taken}
use Rattle.bt_ledger.proofs.ledger.Ledger.close.Goals as goal

pub push_reserved-requires : goal.push_reserved-requires
push_reserved-requires c =
    let l = ledger_of c.self.inside.slots.items c.self.inside.policies.items c.self.inside.pool in
    let within : c.args.slot < length c.self.inside.slots.items = subst (λ (x : Ledger). c.args.slot < length x.slots) (sym c.self.view_is) c.requires.given.0 in
    let is : IsTrue (is_given (slot_at (ledger_of c.self.inside.slots.items c.self.inside.policies.items c.self.inside.pool) c.args.slot)) = subst (λ (x : Ledger). IsTrue (is_given (slot_at x c.args.slot))) (sym c.self.view_is) c.requires.given.1 in
    let a = free_room l c.args.slot _ _ _ _ c.self.invariant within (given_taken (slot_at l c.args.slot) is) in omega arith

pub invariant_of-self : goal.invariant_of-self
invariant_of-self c =
    let l = ledger_of c.self.inside.slots.items c.self.inside.policies.items c.self.inside.pool in
    let within : c.args.slot < length c.self.inside.slots.items = subst (λ (x : Ledger). c.args.slot < length x.slots) (sym c.self.view_is) c.requires.given.0 in
    let is : IsTrue (is_given (slot_at (ledger_of c.self.inside.slots.items c.self.inside.policies.items c.self.inside.pool) c.args.slot)) = subst (λ (x : Ledger). IsTrue (is_given (slot_at x c.args.slot))) (sym c.self.view_is) c.requires.given.1 in
    let here : c.replace-was.result ≡ slot_at l c.args.slot = c.replace-was.ensures.value ∙ c.index_mut-place.ensures.value ∙ get_or_default c.self.inside.slots.items c.args.slot c.index_mut-place.result.now Free within in
    let zero : unanswered (answered_in c.replace-was.result) ≡ 0 = ap (λ (x : Slot). unanswered (answered_in x)) here ∙ ap (λ (x : Ledger). unanswered (answered_in (slot_at x c.args.slot))) c.self.view_is ∙ c.requires.answered in
    let settled : AllSettled (parts_in (slot_at l c.args.slot)) = subst (λ (x : Slot). AllSettled (parts_in x)) here (c.routes_of.ensures.settled zero) in
    rw (c.replace-was.ensures.after, c.push_reserved.ensures.items, c.push_reserved.ensures.capacity) (kept_free l c.args.slot _ _ _ _ c.self.invariant within (given_taken (slot_at l c.args.slot) is) (settled_quiet (parts_in (slot_at l c.args.slot)) (c.self.invariant.book.tidy c.args.slot) settled))
