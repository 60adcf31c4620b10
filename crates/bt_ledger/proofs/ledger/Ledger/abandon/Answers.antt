use Rattle.std.proofs.Common.{◌≡◌, ◌<◌, arith, sym, subst, length, false}
use Rattle.bt_ledger.specs.Ledger.{Ledger, slot_at, is_free, is_given}
use Rattle.bt_ledger.specs.Pooled.{ledger_of}
use Rattle.bt_ledger.proofs.BookSlots.{empty_quiet}
use Rattle.bt_ledger.proofs.Freeing.{kept_free, free_room}
use Rattle.bt_ledger.proofs.Freeing.{no_parts}
use Rattle.bt_ledger.proofs.ledger.Ledger.abandon.Goals as goal

pub push_reserved-requires : goal.push_reserved-requires
push_reserved-requires c =
    let l = ledger_of c.self.inside.slots.items c.self.inside.policies.items c.self.inside.pool in
    let within : c.args.slot < length c.self.inside.slots.items = subst (λ (x : Ledger). c.args.slot < length x.slots) (sym c.self.view_is) c.requires.taken.0 in
    let taken : is_free (slot_at (ledger_of c.self.inside.slots.items c.self.inside.policies.items c.self.inside.pool) c.args.slot) ≡ false = subst (λ (x : Ledger). is_free (slot_at x c.args.slot) ≡ false) (sym c.self.view_is) c.requires.taken.1 in
    let not : is_given (slot_at (ledger_of c.self.inside.slots.items c.self.inside.policies.items c.self.inside.pool) c.args.slot) ≡ false = subst (λ (x : Ledger). is_given (slot_at x c.args.slot) ≡ false) (sym c.self.view_is) c.requires.none in
    let a = free_room l c.args.slot _ _ _ _ c.self.invariant within taken in omega arith

pub invariant_of-self : goal.invariant_of-self
invariant_of-self c =
    let l = ledger_of c.self.inside.slots.items c.self.inside.policies.items c.self.inside.pool in
    let within : c.args.slot < length c.self.inside.slots.items = subst (λ (x : Ledger). c.args.slot < length x.slots) (sym c.self.view_is) c.requires.taken.0 in
    let taken : is_free (slot_at (ledger_of c.self.inside.slots.items c.self.inside.policies.items c.self.inside.pool) c.args.slot) ≡ false = subst (λ (x : Ledger). is_free (slot_at x c.args.slot) ≡ false) (sym c.self.view_is) c.requires.taken.1 in
    let not : is_given (slot_at (ledger_of c.self.inside.slots.items c.self.inside.policies.items c.self.inside.pool) c.args.slot) ≡ false = subst (λ (x : Ledger). is_given (slot_at x c.args.slot) ≡ false) (sym c.self.view_is) c.requires.none in
    rw (c.push_reserved.ensures.items, c.push_reserved.ensures.capacity) (kept_free l c.args.slot _ _ _ _ c.self.invariant within taken (rw (no_parts (slot_at l c.args.slot) not) empty_quiet))
