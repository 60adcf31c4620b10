use Rattle.std.proofs.Common.{◌<◌, sym, ap, ◌∙◌, subst, set, length, IsTrue, true}
use Rattle.std.proofs.lemmas.List.{get_or_default}
use Rattle.bt_ledger.specs.Ledger.{Ledger, slot_at, parts_in, is_free, is_given, answered_in, open_in, moment_in}
use Rattle.bt_ledger.specs.Pooled.{ledger_of}
use Rattle.bt_ledger.specs.declared.slot.Slot.{Slot}
use Rattle.bt_ledger.specs.declared.slot.Slot.TheVariants.{Free, Given}
use Rattle.bt_ledger.proofs.BookSlots.{kept_same}
use Rattle.bt_ledger.proofs.Slots.{given_taken}
use Rattle.bt_ledger.proofs.ledger.Ledger.answered.Goals as goal

pub invariant_of-self : goal.invariant_of-self
invariant_of-self c =
    let l = ledger_of c.self.inside.slots.items c.self.inside.policies.items c.self.inside.pool in
    let within : c.args.slot < length c.self.inside.slots.items = subst (λ (x : Ledger). c.args.slot < length x.slots) (sym c.self.view_is) c.requires.given.0 in
    let is : IsTrue (is_given (slot_at (ledger_of c.self.inside.slots.items c.self.inside.policies.items c.self.inside.pool) c.args.slot)) = subst (λ (x : Ledger). IsTrue (is_given (slot_at x c.args.slot))) (sym c.self.view_is) c.requires.given.1 in
    let here = c.index_mut-slot.ensures.value ∙ get_or_default c.self.inside.slots.items c.args.slot c.index_mut-slot.result.now Free within in
    let e = c.note_answer.ensures ∙ ap (λ (x : Slot). Given (record (open_in x) { answered = set (answered_in x) c.args.item true })) here in
    kept_same l c.args.slot c.note_answer.new.slot _ _ _ _ c.self.invariant within (ap parts_in e) (ap moment_in e) (ap is_free e ∙ sym (given_taken (slot_at l c.args.slot) is))
