-- Giving parts makes no chain ripe, and leaves the rest at rest.
use Rattle.std.proofs.Common.{◌≡◌, ◌≢◌, ℕ, ◌<◌, false, List, [], ◌∷◌, length, inl, inr, arith, refl, sym, ap, ◌∙◌, subst, None, get_or-set_same, get_or-set_other, length-set}
use Rattle.std.specs.List.{AllByRecursion}
use Rattle.std.proofs.lemmas.Bool.Decides.{eqb_tells}
use Rattle.bt_chains.specs.declared.Entry.{Entry}
use Rattle.bt_demand.specs.Flushing.{Still}
use Rattle.bt_demand.specs.Holding.{held_by}
use Rattle.bt_demand.specs.Next.{todo}
use Rattle.bt_ledger.specs.Book.{Booked}
use Rattle.bt_ledger.specs.Calls.{IsOut, policy_at, reason_at, front_moment, last_ends, ends_or}
use Rattle.bt_ledger.specs.Ledger.{Ledger, slot_at, parts_in, is_given, part_tree, IsGiven, with_slot, chain_at, sizes}
use Rattle.bt_ledger.specs.Open.{Open, tree_of}
use Rattle.bt_ledger.specs.declared.slot.Slot.{Slot}
use Rattle.bt_ledger.specs.declared.slot.Slot.TheVariants.{Free, Out, Given}
use Rattle.bt_ledger.proofs.BookSlots.{none_here, settled_quiet, Quiet}
use Rattle.bt_moves.specs.Moves.{KeepsBut, RipensNone}
use Rattle.bt_moves.specs.Resting.{AllSettled, AtRest, Unripe, Resting}
use Rattle.bt_moves.proofs.Closing.{none_at}
use Rattle.bt_moves.proofs.Keeping.{closed_quiet}

last_off : (l m : Ledger) (s : ℕ) (es : List Entry) → ((a b : ℕ) → a ≢ s → part_tree m a b ≡ part_tree l a b) → AllByRecursion (λ (e : Entry). e.slot ≢ s) es → last_ends m es ≡ last_ends l es
last_off l m s [] h o = refl
last_off l m s (e ∷ []) h o = ap (λ t. ends_or (held_by e.node t)) (h e.slot e.part o.0)
last_off l m s (e ∷ (f ∷ es)) h o = last_off l m s (f ∷ es) h o.1

out_parts : (x : Slot) → IsOut x → parts_in x ≡ []
out_parts Free h = absurd h
out_parts (Out n m i) h = refl
out_parts (Given o) h = absurd h

other_tree : (l : Ledger) (s : ℕ) (x : Slot) (a b : ℕ) → a ≢ s → part_tree (with_slot l s x) a b ≡ part_tree l a b
other_tree l s x a b d = ap (λ y. tree_of (parts_in y) b) (get_or-set_other l.slots s a x Free d)

pub calms_give : (l : Ledger) (s : ℕ) (o : Open) → Booked l → IsOut (slot_at l s) → RipensNone l (with_slot l s (Given o))
calms_give l s o b out = λ n h.
    let quiet = subst (λ ps. Quiet ps) (sym (out_parts (slot_at l s) out)) (settled_quiet [] (λ q. tt) (λ q w. absurd (omega arith))) in
    let e = last_off l (with_slot l s (Given o)) s (chain_at l n) (λ a c d. other_tree l s (Given o) a c d) (none_here l s n b quiet) in
    ap (λ x. reason_at (policy_at l n) (length (chain_at l n)) (sizes (chain_at l n)) x (front_moment (chain_at l n)) None) e ∙ h

-- after the answers that are due at once
pub record AllButRest (s : ℕ) (k : Ledger) : Type 0 where
  pub quiet : (a b : ℕ) → a ≢ s → Still (todo (part_tree k a b))
  pub settled : AllSettled k
  pub rest : (a : ℕ) → AtRest k a
  pub calm : (n : ℕ) → Unripe k n

rest_other : (l : Ledger) (s a : ℕ) (x : Slot) → a ≢ s → AtRest l a → AtRest (with_slot l s x) a
rest_other l s a x d h = rw (get_or-set_other l.slots s a x Free d) h

pub after_give : (l m k : Ledger) (s p : ℕ) (o : Open) → Resting l → m ≡ with_slot l s (Given o) → RipensNone l m → KeepsBut s p m k → AtRest k s → RipensNone m k → AllSettled k → AllButRest s k
after_give l m k s p o r e c b w d z = record {
  settled = z;
  quiet = λ x y n. b.quiet x y (λ z _. n z) (subst (λ q. Still (todo (part_tree q x y))) (sym e) (subst (λ t. Still (todo t)) (sym (other_tree l s (Given o) x y n)) (r.quiet x y)));
  rest = λ x. elim (eqb_tells x s) [
    | inl i ↦ subst (λ q. AtRest k q) (sym i.1) w
    | inr i ↦ b.rest x i.1 (subst (λ q. AtRest q x) (sym e) (rest_other l s x (Given o) i.1 (r.rest x)))
  ];
  calm = λ n. d n (c n (r.calm n));
}

pub closed_rests : (s : ℕ) (k : Ledger) → AllButRest s k → is_given (slot_at k s) ≡ false → Resting k
closed_rests s k g e = record {
  settled = g.settled;
  quiet = λ x y. elim (eqb_tells x s) [
    | inl i ↦ subst (λ q. Still (todo (part_tree k q y))) (sym i.1) (closed_quiet (slot_at k s) y e)
    | inr i ↦ g.quiet x y i.1
  ];
  rest = g.rest;
  calm = g.calm;
}

pub given_slot : (l : Ledger) (s : ℕ) (o : Open) → s < length l.slots → slot_at (with_slot l s (Given o)) s ≡ Given o
given_slot l s o h = get_or-set_same l.slots s (Given o) Free h

pub given_here : (l : Ledger) (s : ℕ) (o : Open) → s < length l.slots → IsGiven (with_slot l s (Given o)) s
given_here l s o h = (let a = length-set l.slots s (Given o) in omega arith, ap is_given (given_slot l s o h))

pub none_behind : (l : Ledger) (s : ℕ) → Still (todo (part_tree l s (length (parts_in (slot_at l s)))))
none_behind l s = none_at (parts_in (slot_at l s)) (length (parts_in (slot_at l s))) (omega arith)
