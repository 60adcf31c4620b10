-- How each move keeps the children of released holds settled.
use Rattle.std.proofs.Common.{◌≡◌, ◌≢◌, ℕ, ◌<◌, Bool, false, [], length, inl, inr, refl, sym, ap, ◌∙◌, subst, Option, Some, None, MatchOption, get_or-set_same, get_or-set_other}
use Rattle.std.proofs.lemmas.Bool.Decides.{eqb_tells}
use Rattle.bt_chains.specs.declared.Entry.{Entry}
use Rattle.bt_demand.specs.Find.{below, begun}
use Rattle.bt_demand.specs.Next.{todo}
use Rattle.bt_demand.specs.Reached.{Reach, NextIn}
use Rattle.bt_demand.specs.Steps.{settle, wait, release, state_for}
use Rattle.bt_demand.specs.Tree.{Tree}
use Rattle.bt_demand.specs.declared.todo.Todo.TheVariants.{Put}
use Rattle.bt_demand.proofs.Reached.{reach-there}
use Rattle.bt_leaves.specs.Released.{ReleasedSettled, ReleasedSettledBut}
use Rattle.bt_leaves.proofs.Released.{settled_settle, settled_wait, settled_release, settled_at_last, settled_without_holds, settled_fresh, tidy_below}
use Rattle.bt_ledger.specs.Book.{Booked, IsFront}
use Rattle.bt_ledger.specs.Calls.{waited, Released as ReleasedTo}
use Rattle.bt_ledger.specs.Ledger.{Ledger, slot_at, part_tree, parts_in, with_part, with_slot, chain_at, IsPart}
use Rattle.bt_ledger.specs.Open.{Open, tree_of}
use Rattle.bt_ledger.specs.declared.slot.Slot.{Slot}
use Rattle.bt_ledger.specs.declared.slot.Slot.TheVariants.{Free, Given}
use Rattle.bt_ledger.proofs.Room.{part_cases}
use Rattle.bt_moves.specs.Moves.{Answering}
use Rattle.bt_moves.specs.Resting.{AllSettled, AllSettledBut, PopSettles}
use Rattle.bt_moves.proofs.Moves.{front_cases, front_none, answering_tree}
use Rattle.bt_moves.proofs.Popping.{same_part}

-- what is said of each tree, after a step of one part
over_part : (P : Tree → Type 0) (l : Ledger) (s p : ℕ) (t : Tree) → IsPart l s p → P t → ((a b : ℕ) → P (part_tree l a b)) → (a b : ℕ) → P (part_tree (with_part l s p t) a b)
over_part P l s p t w h f a b = elim (part_cases l s p t a b w) [
  | inl i ↦ subst (λ x. P x) (sym i.1) h
  | inr i ↦ subst (λ x. P x) (sym i.1) (f a b)
]

pub settled_put : (l : Ledger) (s p lf : ℕ) (a : Bool) → IsPart l s p → AllSettled l → AllSettled (with_part l s p (settle lf (state_for a) (part_tree l s p)))
settled_put l s p lf a w h = over_part (λ t. ReleasedSettled t) l s p (settle lf (state_for a) (part_tree l s p)) w (settled_settle (λ m. Unit {0}) lf (state_for a) (part_tree l s p) (h s p)) h

pub settled_hold : (l : Ledger) (s p n : ℕ) → IsPart l s p → AllSettled l → AllSettled (waited l s p n)
settled_hold l s p n w h = over_part (λ t. ReleasedSettled t) l s p (wait n (part_tree l s p)) w (settled_wait (λ m. Unit {0}) n (part_tree l s p) (h s p)) h

-- the tree of another part
other_part : (l : Ledger) (s p : ℕ) (t : Tree) (a b : ℕ) → IsPart l s p → (a ≡ s → b ≡ p → ⊥) → part_tree (with_part l s p t) a b ≡ part_tree l a b
other_part l s p t a b w d = elim (part_cases l s p t a b w) [ inl i ↦ absurd (d i.0.0 i.0.1) | inr i ↦ i.1 ]

-- a step of the part in which holds of one number are left out
but_part : (n : ℕ) (l : Ledger) (s p : ℕ) (t : Tree) → IsPart l s p → ReleasedSettledBut n t → ((a b : ℕ) → (a ≡ s → b ≡ p → ⊥) → ReleasedSettled (part_tree l a b)) → AllSettledBut n s p (with_part l s p t)
but_part n l s p t w h f = record {
  others = λ a b d. subst (λ x. ReleasedSettled x) (sym (other_part l s p t a b w d)) (f a b d);
  here = subst (λ x. ReleasedSettledBut n x) (sym (same_part l s p t w)) h;
}

pub but_settled_put : (n : ℕ) (l : Ledger) (s p lf : ℕ) (a : Bool) → IsPart l s p → AllSettledBut n s p l → AllSettledBut n s p (with_part l s p (settle lf (state_for a) (part_tree l s p)))
but_settled_put n l s p lf a w h = but_part n l s p (settle lf (state_for a) (part_tree l s p)) w (settled_settle (λ m. m ≢ n) lf (state_for a) (part_tree l s p) h.here) h.others

pub pop_settles : (l m : Ledger) (n : ℕ) (o : Option Entry) → AllSettled l → ReleasedTo l n o m → MatchOption o (chain_at l n ≡ []) (λ e. IsFront l n e) → PopSettles n m o
pop_settles l m n None h r f = subst (λ k. AllSettled k) (sym (front_none (chain_at l n) l n m r)) h
pop_settles l m n (Some e) h r f =
    let c = front_cases (chain_at l n) l n e m r in
    let b = but_part n l e.slot e.part (release n (part_tree l e.slot e.part)) f.part (settled_release n (part_tree l e.slot e.part) (h e.slot e.part)) (λ x y _. h x y) in
    subst (λ k. AllSettledBut n e.slot e.part k) (sym c.2) (record { others = b.others; here = b.here })

pub answering_settled : (s : ℕ) (l m : Ledger) → Answering s l m → AllSettled l → AllSettled m
answering_settled s l m w h = λ a b. subst (λ t. ReleasedSettled t) (sym (answering_tree s l m w a b)) (h a b)

-- another slot in place of one
pub settled_slot : (l : Ledger) (s : ℕ) (x : Slot) → s < length l.slots → ((b : ℕ) → ReleasedSettled (tree_of (parts_in x) b)) → AllSettled l → AllSettled (with_slot l s x)
settled_slot l s x w f h = λ a b. elim (eqb_tells a s) [
  | inl i ↦ subst (λ y. ReleasedSettled (tree_of (parts_in y) b)) (sym (ap (slot_at (with_slot l s x)) i.1 ∙ get_or-set_same l.slots s x Free w)) (f b)
  | inr i ↦ subst (λ y. ReleasedSettled (tree_of (parts_in y) b)) (sym (get_or-set_other l.slots s a x Free i.1)) (h a b)
]

pub close_settled : (l : Ledger) (s : ℕ) → s < length l.slots → AllSettled l → AllSettled (with_slot l s Free)
close_settled l s w h = settled_slot l s Free w (λ b. tt) h

pub give_settled : (l : Ledger) (s : ℕ) (o : Open) → s < length l.slots → ((b : ℕ) → begun (tree_of o.parts b) ≡ false) → AllSettled l → AllSettled (with_slot l s (Given o))
give_settled l s o w f h = settled_slot l s (Given o) w (λ b. settled_fresh (λ m. Unit {0}) (tree_of o.parts b) (f b)) h

child_of : (o : Option Tree) → (o ≡ None → ⊥) → (c : Tree) × (o ≡ Some c)
child_of None f = absurd (f refl)
child_of (Some c) f = (c, refl)

-- once no leaf is to be put below the hold that was left out
pub but_at_last : (n : ℕ) (l : Ledger) (s p : ℕ) → Booked l → Reach n (part_tree l s p) → ((lf k : ℕ) → NextIn lf k (below n (part_tree l s p)) → ⊥) → AllSettledBut n s p l → AllSettled l
but_at_last n l s p b r f h =
    let w = child_of (below n (part_tree l s p)) (reach-there n (part_tree l s p) r) in
    let none : (lf k : ℕ) → todo w.0 ≡ Some (Put lf k) → ⊥ = λ lf k e. f lf k (subst (λ o. NextIn lf k o) (sym w.1) e) in
    let here = settled_at_last n (part_tree l s p) w.0 (b.single s p n) w.1 (settled_without_holds w.0 (tidy_below n (part_tree l s p) w.0 (b.tidy s p) w.1) none) h.here in
    λ x y. elim (eqb_tells x s) [
      | inl i ↦ elim (eqb_tells y p) [
        | inl j ↦ subst (λ q. ReleasedSettled (part_tree l q y)) (sym i.1) (subst (λ q. ReleasedSettled (part_tree l s q)) (sym j.1) here)
        | inr j ↦ h.others x y (λ _ e. j.1 e)
      ]
      | inr i ↦ h.others x y (λ e _. i.1 e)
    ]
