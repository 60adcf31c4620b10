-- A flush in rising order, and what is settled where nothing can go on and nothing waits.
use Rattle.std.proofs.Common.{◌≡◌, ℕ, zero, suc, ◌<◌, ◌≤◌, Bool, true, false, cond, ◌&&◌, List, [], ◌∷◌, length, get_or, ◌⊎◌, inl, inr, arith, refl, sym, ap, subst}
use Rattle.std.proofs.lemmas.Bool.Decides.{leb_tells}
use Rattle.bt_chains.specs.declared.Entry.{Entry}
use Rattle.bt_demand.specs.Find.{begun}
use Rattle.bt_demand.specs.Flushing.{InOrder}
use Rattle.bt_demand.specs.Holding.{is_open, waiting, booked_in, active}
use Rattle.bt_demand.specs.Outcomes.{outcome}
use Rattle.bt_demand.specs.Parts.{Part}
use Rattle.bt_demand.specs.Tree.{Tree, drop as nothing}
use Rattle.bt_demand.proofs.Flushing.{late_still}
use Rattle.bt_demand.proofs.Shapes.{still-settled}
use Rattle.bt_ledger.specs.Book.{Booked}
use Rattle.bt_ledger.specs.Ledger.{Ledger, parts_in, is_given, part_tree, over_parts, over_slots, booked, held_in, held}
use Rattle.bt_ledger.specs.Open.{tree_of}
use Rattle.bt_ledger.specs.declared.slot.Slot.{Slot}
use Rattle.bt_ledger.specs.declared.slot.Slot.TheVariants.{Free, Out, Given}
use Rattle.bt_ledger.proofs.Slots.{sum_under}
use Rattle.bt_moves.specs.Moves.{Keeps, AllLate, BeginsNone}
use Rattle.bt_moves.specs.Resting.{BegunStill, Emptied}

beyond : (ps : List Part) (p : ℕ) → length ps ≤ p → tree_of ps p ≡ nothing
beyond [] p h = refl
beyond (x ∷ ps) zero h = absurd (omega arith)
beyond (x ∷ ps) (suc p) h = beyond ps p (omega arith)

given_parts : (x : Slot) (p : ℕ) → p < length (parts_in x) → is_given x ≡ true
given_parts Free p h = absurd (omega arith)
given_parts (Out n m i) p h = absurd (omega arith)
given_parts (Given o) p h = refl

-- of each tree in the order in which one pass empties it
pub order_at : (x : Slot) (p : ℕ) → (is_given x ≡ true → p < length (parts_in x) → InOrder (tree_of (parts_in x) p)) → InOrder (tree_of (parts_in x) p)
order_at x p f = elim (leb_tells (length (parts_in x)) p) [
  | inl h ↦ subst (λ t. InOrder t) (sym (beyond (parts_in x) p h.1)) tt
  | inr h ↦ (let w = h.1 in let q : p < length (parts_in x) = omega arith in f (given_parts x p q) q)
]

begun_or : (b : Bool) → (b ≡ true) ⊎ (b ≡ false)
begun_or true = inl refl
begun_or false = inr refl

no_both : (b : Bool) → b ≡ true → b ≡ false → ⊥
no_both b e f = cc

pub still_after : (l m : Ledger) → BegunStill l → Keeps l m → BeginsNone l m → BegunStill m
still_after l m a k f = λ s p b. elim (begun_or (begun (part_tree l s p))) [
  | inl h ↦ k.quiet s p (a s p h)
  | inr h ↦ absurd (no_both (begun (part_tree m s p)) b (f s p h))
]

pub late_all : (l : Ledger) (n : ℕ) → BegunStill l → ((s p : ℕ) → InOrder (part_tree l s p)) → AllLate n l
late_all l n a o = λ s p b. late_still n (part_tree l s p) (o s p) (a s p b)

all_zero : (f : Tree → ℕ) (ps : List Part) → ((p : ℕ) → p < length ps → f (tree_of ps p) ≡ 0) → over_parts f ps ≡ 0
all_zero f [] h = refl
all_zero f (x ∷ ps) h = let a = h 0 (omega arith) in let b = all_zero f ps (λ p w. h (suc p) (omega arith)) in omega arith

slots_zero : (f : Tree → ℕ) (ss : List Slot) → ((s p : ℕ) → p < length (parts_in (get_or ss s Free)) → f (tree_of (parts_in (get_or ss s Free)) p) ≡ 0) → over_slots f ss ≡ 0
slots_zero f [] h = refl
slots_zero f (x ∷ ss) h = let a = all_zero f (parts_in x) (λ p w. h 0 p w) in let b = slots_zero f ss (λ s p w. h (suc s) p w) in omega arith

pub chains_zero : (cs : List (List Entry)) → ((n : ℕ) → get_or cs n [] ≡ []) → held_in cs ≡ 0
chains_zero [] h = refl
chains_zero (c ∷ cs) h = let a = ap (λ (x : List Entry). length x) (h 0) in let b = chains_zero cs (λ n. h (suc n)) in omega arith

unbooked : (b o : Bool) (n : ℕ) → (b ≡ true → o ≡ false) → cond (b && o) n 0 ≡ 0
unbooked true o n h = ap {B = ℕ} (λ x. cond x n 0) (h refl)
unbooked false o n h = refl

pub slot_in : (ss : List Slot) (s p : ℕ) → p < length (parts_in (get_or ss s Free)) → s < length ss
slot_in [] s p h = absurd (omega arith)
slot_in (x ∷ ss) zero p h = omega arith
slot_in (x ∷ ss) (suc s) p h = let a = slot_in ss s p h in omega arith

-- after a flush nothing is booked
pub none_booked : (l : Ledger) → Booked l → BegunStill l → Emptied l → booked l ≡ 0
none_booked l b a e =
    let held0 : held l ≡ 0 = chains_zero l.chains e in
    let total = b.total in
    slots_zero booked_in l.slots (λ s p w. unbooked (begun (part_tree l s p)) (is_open (outcome (part_tree l s p))) (active (part_tree l s p))
    (λ g. still-settled (part_tree l s p) (a s p g) (let u = sum_under waiting l.slots s p (slot_in l.slots s p w) w in omega arith)))
