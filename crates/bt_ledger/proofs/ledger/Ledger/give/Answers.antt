use Rattle.std.proofs.Common.{◌≡◌, ◌<◌, sym, ap, ◌∙◌, subst, length, false}
use Rattle.std.proofs.lemmas.List.{get_or_default}
use Rattle.bt_demand.specs.Parts.{parts_of}
use Rattle.bt_ledger.specs.Calls.{Fits, IsOut}
use Rattle.bt_ledger.specs.Ledger.{Ledger, slot_at, parts_in, is_free, items_in}
use Rattle.bt_ledger.specs.Pooled.{ledger_of}
use Rattle.bt_ledger.specs.declared.slot.Slot.TheVariants.{Free}
use Rattle.bt_ledger.proofs.BookSlots.{Quiet, empty_quiet}
use Rattle.bt_ledger.proofs.Freeing.{kept_give, out_taken, out_empty}
use Rattle.bt_ledger.proofs.Giving.{fits_below, fits_some, fits_rise, fits_quiet, fits_fitting}
use Rattle.bt_ledger.proofs.ledger.Ledger.give.Goals as goal

pub give_to-requires-clause-below : goal.give_to-requires-clause-below
give_to-requires-clause-below c =
    let l = ledger_of c.self.inside.slots.items c.self.inside.policies.items c.self.inside.pool in
    let within : c.args.slot < length c.self.inside.slots.items = subst (λ (x : Ledger). c.args.slot < length x.slots) (sym c.self.view_is) c.requires.within in
    let here = c.index_mut-slot.ensures.value ∙ get_or_default c.self.inside.slots.items c.args.slot c.index_mut-slot.result.now Free within in
    let fits : Fits (length l.policies) (items_in (slot_at l c.args.slot)) (parts_of c.args.routes.parts.list) = subst (λ (x : Ledger). Fits (length x.policies) (items_in (slot_at x c.args.slot)) (parts_of c.args.routes.parts.list)) (sym c.self.view_is) c.requires.fits in
    rw here (fits_below (length l.policies) (items_in (slot_at l c.args.slot)) (parts_of c.args.routes.parts.list) fits)

pub give_to-requires-clause-some : goal.give_to-requires-clause-some
give_to-requires-clause-some c =
    let l = ledger_of c.self.inside.slots.items c.self.inside.policies.items c.self.inside.pool in
    let within : c.args.slot < length c.self.inside.slots.items = subst (λ (x : Ledger). c.args.slot < length x.slots) (sym c.self.view_is) c.requires.within in
    let here = c.index_mut-slot.ensures.value ∙ get_or_default c.self.inside.slots.items c.args.slot c.index_mut-slot.result.now Free within in
    let fits : Fits (length l.policies) (items_in (slot_at l c.args.slot)) (parts_of c.args.routes.parts.list) = subst (λ (x : Ledger). Fits (length x.policies) (items_in (slot_at x c.args.slot)) (parts_of c.args.routes.parts.list)) (sym c.self.view_is) c.requires.fits in
    fits_some (length l.policies) (items_in (slot_at l c.args.slot)) (parts_of c.args.routes.parts.list) fits

pub give_to-requires-clause-rising : goal.give_to-requires-clause-rising
give_to-requires-clause-rising c =
    let l = ledger_of c.self.inside.slots.items c.self.inside.policies.items c.self.inside.pool in
    let within : c.args.slot < length c.self.inside.slots.items = subst (λ (x : Ledger). c.args.slot < length x.slots) (sym c.self.view_is) c.requires.within in
    let here = c.index_mut-slot.ensures.value ∙ get_or_default c.self.inside.slots.items c.args.slot c.index_mut-slot.result.now Free within in
    let fits : Fits (length l.policies) (items_in (slot_at l c.args.slot)) (parts_of c.args.routes.parts.list) = subst (λ (x : Ledger). Fits (length x.policies) (items_in (slot_at x c.args.slot)) (parts_of c.args.routes.parts.list)) (sym c.self.view_is) c.requires.fits in
    fits_rise (length l.policies) (items_in (slot_at l c.args.slot)) (parts_of c.args.routes.parts.list) fits

pub invariant_of-self : goal.invariant_of-self
invariant_of-self c =
    let l = ledger_of c.self.inside.slots.items c.self.inside.policies.items c.self.inside.pool in
    let within : c.args.slot < length c.self.inside.slots.items = subst (λ (x : Ledger). c.args.slot < length x.slots) (sym c.self.view_is) c.requires.within in
    let here = c.index_mut-slot.ensures.value ∙ get_or_default c.self.inside.slots.items c.args.slot c.index_mut-slot.result.now Free within in
    let fits : Fits (length l.policies) (items_in (slot_at l c.args.slot)) (parts_of c.args.routes.parts.list) = subst (λ (x : Ledger). Fits (length x.policies) (items_in (slot_at x c.args.slot)) (parts_of c.args.routes.parts.list)) (sym c.self.view_is) c.requires.fits in
    let out : IsOut (slot_at l c.args.slot) = subst (λ (x : Ledger). IsOut (slot_at x c.args.slot)) (sym c.self.view_is) c.requires.out in
    let new = c.give_to.ensures in
    let quiet : Quiet (parts_in (slot_at l c.args.slot)) = rw (out_empty (slot_at l c.args.slot) out) empty_quiet in
    let free : is_free c.give_to.new.slot ≡ false = ap is_free new in
    let ps : parts_in c.give_to.new.slot ≡ parts_of c.args.routes.parts.list = ap parts_in new in
    kept_give l c.args.slot _ c.give_to.new.slot _ _ _ c.self.invariant within (out_taken (slot_at l c.args.slot) out) free quiet
    (rw ps (fits_quiet (length l.policies) (items_in (slot_at l c.args.slot)) (parts_of c.args.routes.parts.list) fits))
    (rw ps (fits_fitting l (items_in (slot_at l c.args.slot)) (parts_of c.args.routes.parts.list) fits))
