-- The front of a chain: its part is there, and its hold waits.
use Rattle.std.proofs.Common.{◌≡◌, ℕ, zero, suc, ◌<◌, ◌≤◌, cond, eqb, ◌&&◌, List, [], ◌∷◌, length, get_or, arith, refl, ap, eq-eqb}
use Rattle.bt_demand.specs.Holding.{is_waiting, waits_at}
use Rattle.bt_demand.specs.Parts.{Part}
use Rattle.bt_chains.specs.declared.Entry.{Entry}
use Rattle.bt_ledger.specs.Open.{tree_of}
use Rattle.bt_ledger.specs.Ledger.{Ledger, slot_at, parts_in, part_tree, IsPart, chain_at, entries_of}
use Rattle.bt_ledger.specs.declared.slot.Slot.{Slot}
use Rattle.bt_ledger.specs.declared.slot.Slot.TheVariants.{Free}
use Rattle.bt_steps.proofs.HoldLaws.{count_le}
use Rattle.bt_ledger.specs.Book.{Booked}
use Rattle.bt_steps.proofs.PopLaws.{waits_le}
use Rattle.std.proofs.Common.{subst, IsSome, ◌∙◌, inl, inr, sym, Some}
use Rattle.bt_demand.specs.Find.{below}
use Rattle.bt_demand.specs.Steps.{release}
use Rattle.bt_ledger.specs.Book.{IsFront}
use Rattle.bt_ledger.specs.Calls.{FrontReleased, Released}
use Rattle.bt_ledger.specs.Ledger.{with_part}
use Rattle.bt_ledger.proofs.Room.{part_cases}
use Rattle.bt_steps.proofs.Below.{below_there}
use Rattle.bt_steps.proofs.HoldLaws.{count_release}

part_there : (n : ℕ) (ps : List Part) (p : ℕ) → 1 ≤ waits_at n (tree_of ps p) → p < length ps
part_there n [] p h = absurd (omega arith)
part_there n (q ∷ ps) zero h = omega arith
part_there n (q ∷ ps) (suc p) h = let a = part_there n ps p h in omega arith

slot_there : (n : ℕ) (ss : List Slot) (s p : ℕ) → 1 ≤ waits_at n (tree_of (parts_in (get_or ss s Free)) p) → s < length ss
slot_there n [] s p h = absurd (omega arith)
slot_there n (x ∷ ss) zero p h = omega arith
slot_there n (x ∷ ss) (suc s) p h = let a = slot_there n ss s p h in omega arith

-- the front of a chain belongs to a part that is there, in which exactly that hold waits
pub front_part : (l : Ledger) (n : ℕ) (e : Entry) (es : List Entry) → Booked l → chain_at l n ≡ e ∷ es → IsPart l e.slot e.part × (waits_at n (part_tree l e.slot e.part) ≡ 1)
front_part l n e es b h =
    let a = b.own n e.slot e.part in
    let c : entries_of e.slot e.part (chain_at l n) ≡ entries_of e.slot e.part (e ∷ es) = ap (entries_of e.slot e.part) h in
    let y : cond {A = ℕ} (eqb e.slot e.slot && eqb e.part e.part) 1 0 ≡ 1 = rw (eq-eqb e.slot e.slot refl, eq-eqb e.part e.part refl) refl in
    let w : 1 ≤ waits_at n (part_tree l e.slot e.part) = omega arith in
    let o = b.single e.slot e.part n in
    let le = count_le (λ m g. eqb m n && is_waiting g) (λ m _. eqb m n) (part_tree l e.slot e.part) (λ m g. waits_le g (eqb m n)) in
    ((slot_there n l.slots e.slot e.part w, part_there n (parts_in (slot_at l e.slot)) e.part w), omega arith)

front_go : (l k : Ledger) (n : ℕ) (e : Entry) (es : List Entry) → IsFront l n e → FrontReleased es l n (Some e) k → IsSome (below n (part_tree k e.slot e.part))
front_go l k n e [] f h = cc
front_go l k n e (x ∷ es) f h =
    let same : e ≡ x = cc in
    let t = part_tree l x.slot x.part in
    let part : IsPart l x.slot x.part = subst (λ (y : Entry). IsPart l y.slot y.part) same f.part in
    let waits : waits_at n (part_tree l x.slot x.part) ≡ 1 = ap (λ (y : Entry). waits_at n (part_tree l y.slot y.part)) (sym same) ∙ f.waits in
    let le = count_le (λ m g. eqb m n && is_waiting g) (λ m _. eqb m n) (part_tree l x.slot x.part) (λ m g. waits_le g (eqb m n)) in
    let kept = count_release (λ m _. eqb m n) n (part_tree l x.slot x.part) (λ m g. refl) in
    let there = below_there n (release n (part_tree l x.slot x.part)) (omega arith) in
    let at : part_tree (with_part l x.slot x.part (release n (part_tree l x.slot x.part))) x.slot x.part ≡ release n (part_tree l x.slot x.part) =
    elim (part_cases l x.slot x.part (release n (part_tree l x.slot x.part)) x.slot x.part part) [ inl i ↦ i.1 | inr i ↦ absurd (i.0 refl refl) ] in
    let after : part_tree k x.slot x.part ≡ release n (part_tree l x.slot x.part) = ap (λ (m : Ledger). part_tree m x.slot x.part) h.1 ∙ at in
    subst (λ (y : Entry). IsSome (below n (part_tree k y.slot y.part))) (sym same) (subst (λ u. IsSome (below n u)) (sym after) there)

-- the hold that the front of a chain released is still there
pub front_below : (l k : Ledger) (n : ℕ) (e : Entry) → IsFront l n e → Released l n (Some e) k → IsSome (below n (part_tree k e.slot e.part))
front_below l k n e f h = front_go l k n e (chain_at l n) f h
