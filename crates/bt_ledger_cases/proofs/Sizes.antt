-- Each call leaves the ledger as large as it was.
use Rattle.std.proofs.Common.{◌≡◌, ℕ, List, [], ◌∷◌, length-set, ◌∙◌, Option, Some, None}
use Rattle.bt_chains.specs.declared.Entry.{Entry}
use Rattle.bt_demand.specs.Tree.{Tree}
use Rattle.bt_ledger.specs.Calls.{Admitted, FrontReleased, Released, waited}
use Rattle.bt_ledger.specs.Ledger.{Ledger, chain_at, with_slot, with_part}
use Rattle.bt_ledger.specs.declared.slot.Slot.{Slot}
use Rattle.bt_ledger.specs.declared.slot.Slot.TheVariants.{Out}
use Rattle.bt_ledger_cases.specs.Sized.{Sized}

pub slot_sized : (w e : ℕ) (l k : Ledger) (s : ℕ) (x : Slot) → Sized w e l → k ≡ with_slot l s x → Sized w e k
slot_sized w e l k s x h q = rw q (record { slots = length-set l.slots s x ∙ h.slots; places = h.places; holds = h.holds })

pub part_sized : (w e : ℕ) (l k : Ledger) (s p : ℕ) (t : Tree) → Sized w e l → k ≡ with_part l s p t → Sized w e k
part_sized w e l k s p t h q = slot_sized w e l k s _ h q

pub hold_sized : (w e : ℕ) (l k : Ledger) (s p n : ℕ) → Sized w e l → k ≡ waited l s p n → Sized w e k
hold_sized w e l k s p n h q = rw q (record { slots = length-set l.slots s _ ∙ h.slots; places = h.places; holds = h.holds })

admit_go : (w e : ℕ) (l k : Ledger) (n m i : ℕ) (r : Option ℕ) → Sized w e l → Admitted l n m i r k → Sized w e k
admit_go w e l k n m i None h a = rw a.1 h
admit_go w e l k n m i (Some s) h a = slot_sized w e l k s (Out n m i) h a.2

pub admit_sized : (w e : ℕ) (l k : Ledger) (n m i : ℕ) (r : Option ℕ) → Sized w e l → Admitted l n m i r k → Sized w e k
admit_sized w e l k n m i r h a = admit_go w e l k n m i r h a

release_go : (w e : ℕ) (l k : Ledger) (n : ℕ) (es : List Entry) (r : Option Entry) → Sized w e l → FrontReleased es l n r k → Sized w e k
release_go w e l k n [] r h a = rw a.1 h
release_go w e l k n (x ∷ es) r h a = rw a.1 (record { slots = length-set l.slots x.slot _ ∙ h.slots; places = h.places; holds = h.holds })

pub release_sized : (w e : ℕ) (l k : Ledger) (n : ℕ) (r : Option Entry) → Sized w e l → Released l n r k → Sized w e k
release_sized w e l k n r h a = release_go w e l k n (chain_at l n) r h a
