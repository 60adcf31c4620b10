-- Sums over the parts of all slots, with one part or one slot replaced.
use Rattle.std.proofs.Common.{◌≡◌, ℕ, zero, suc, ◌+◌, ◌<◌, ◌≤◌, List, [], ◌∷◌, length, get_or, set, arith}
use Rattle.bt_demand.specs.Tree.{Tree}
use Rattle.bt_demand.specs.Parts.{Part}
use Rattle.bt_ledger.specs.Open.{tree_of, with_tree}
use Rattle.bt_ledger.specs.Ledger.{Ledger, slot_at, parts_in, open_in, part_tree, IsPart, with_part, over_parts, over_slots}
use Rattle.bt_ledger.specs.declared.slot.Slot.{Slot}
use Rattle.bt_ledger.specs.declared.slot.Slot.TheVariants.{Free, Given}

pub parts_le : (f g : Tree → ℕ) (ps : List Part) → ((p : ℕ) → f (tree_of ps p) ≤ g (tree_of ps p)) → over_parts f ps ≤ over_parts g ps
parts_le f g [] h = omega arith
parts_le f g (q ∷ ps) h = let a = h 0 in let b = parts_le f g ps (λ p. h (suc p)) in omega arith

pub slots_le : (f g : Tree → ℕ) (ss : List Slot) → ((s p : ℕ) → f (tree_of (parts_in (get_or ss s Free)) p) ≤ g (tree_of (parts_in (get_or ss s Free)) p)) → over_slots f ss ≤ over_slots g ss
slots_le f g [] h = omega arith
slots_le f g (x ∷ ss) h = let a = parts_le f g (parts_in x) (h 0) in let b = slots_le f g ss (λ s. h (suc s)) in omega arith

pub parts_set : (f : Tree → ℕ) (ps : List Part) (p : ℕ) (t : Tree) → p < length ps → over_parts f (with_tree ps p t) + f (tree_of ps p) ≡ over_parts f ps + f t
parts_set f [] p t h = absurd (omega arith)
parts_set f (q ∷ ps) zero t h = omega arith
parts_set f (q ∷ ps) (suc p) t h = let a = parts_set f ps p t (omega arith) in omega arith

pub slots_set : (f : Tree → ℕ) (ss : List Slot) (s : ℕ) (x : Slot) → s < length ss → over_slots f (set ss s x) + over_parts f (parts_in (get_or ss s Free)) ≡ over_slots f ss + over_parts f (parts_in x)
slots_set f [] s x h = absurd (omega arith)
slots_set f (y ∷ ss) zero x h = omega arith
slots_set f (y ∷ ss) (suc s) x h = let a = slots_set f ss s x (omega arith) in omega arith

-- a sum over all parts, with one part's tree replaced
pub sum_with : (f : Tree → ℕ) (l : Ledger) (s p : ℕ) (t : Tree) → IsPart l s p → over_slots f (with_part l s p t).slots + f (part_tree l s p) ≡ over_slots f l.slots + f t
sum_with f l s p t h =
    let a = slots_set f l.slots s (Given (record (open_in (slot_at l s)) { parts = with_tree (parts_in (slot_at l s)) p t })) h.0 in
    let b = parts_set f (parts_in (slot_at l s)) p t h.1 in
    omega arith
