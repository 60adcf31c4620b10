-- What is out stays as it is.
use Rattle.std.proofs.Common.{◌≡◌, ℕ, ◌<◌, true, false, length, ◌⊎◌, inl, inr, refl, sym, ap, ◌∙◌, subst, get_or-set_same, get_or-set_other}
use Rattle.std.proofs.lemmas.Bool.Decides.{eqb_tells}
use Rattle.bt_ledger.specs.Ledger.{Ledger, slot_at, is_given, with_slot}
use Rattle.bt_ledger.specs.declared.slot.Slot.{Slot}
use Rattle.bt_ledger.specs.declared.slot.Slot.TheVariants.{Free, Out, Given}
use Rattle.bt_moves.specs.Moves.{StepAt, Answering, OutStays, is_out, Delivered}

not_out : (x : Slot) → is_given x ≡ true → is_out x ≡ false
not_out Free e = cc
not_out (Out n m i) e = cc
not_out (Given o) e = refl

pub outs_same : (l : Ledger) → OutStays l l
outs_same l = λ a. inr refl

pub outs_step : (s p : ℕ) (l m : Ledger) → StepAt s p l m → OutStays l m
outs_step s p l m h = λ a. elim (eqb_tells a s) [
  | inl i ↦ (let g : is_given (slot_at m a) ≡ true = subst (λ x. is_given (slot_at m x) ≡ true) (sym i.1) h.given in inl ((h.stays a g).0, not_out (slot_at m a) g))
  | inr i ↦ inr (h.others a i.1)
]

join_at : (l m k : Ledger) (a : ℕ) → ((is_given (slot_at l a) ≡ true) × (is_out (slot_at m a) ≡ false)) ⊎ (slot_at m a ≡ slot_at l a) → ((is_given (slot_at m a) ≡ true) × (is_out (slot_at k a) ≡ false)) ⊎ (slot_at k a ≡ slot_at m a) → ((is_given (slot_at l a) ≡ true) × (is_out (slot_at k a) ≡ false)) ⊎ (slot_at k a ≡ slot_at l a)
join_at l m k a (inl x) (inl y) = inl (x.0, y.1)
join_at l m k a (inl x) (inr y) = inl (x.0, ap is_out y ∙ x.1)
join_at l m k a (inr x) (inl y) = inl (ap is_given (sym x) ∙ y.0, y.1)
join_at l m k a (inr x) (inr y) = inr (y ∙ x)

pub outs_joins : (l m k : Ledger) → OutStays l m → OutStays m k → OutStays l k
outs_joins l m k f g = λ a. join_at l m k a (f a) (g a)

pub outs_answering : (s : ℕ) (l m : Ledger) → is_given (slot_at l s) ≡ true → Answering s l m → OutStays l m
outs_answering s l m g h = λ a. elim (eqb_tells a s) [
  | inl i ↦ inl (subst (λ x. is_given (slot_at l x) ≡ true) (sym i.1) g, not_out (slot_at m a) (subst (λ x. is_given (slot_at m x) ≡ true) (sym i.1) h.given))
  | inr i ↦ inr (h.others a i.1)
]

pub outs_close : (l : Ledger) (s : ℕ) → s < length l.slots → is_given (slot_at l s) ≡ true → OutStays l (with_slot l s Free)
outs_close l s w g = λ a. elim (eqb_tells a s) [
  | inl i ↦ inl (subst (λ x. is_given (slot_at l x) ≡ true) (sym i.1) g, ap is_out (ap (λ j. slot_at (with_slot l s Free) j) i.1 ∙ get_or-set_same l.slots s Free Free w))
  | inr i ↦ inr (get_or-set_other l.slots s a Free Free i.1)
]

-- a slot of a transaction that is out becomes one that isn't, and what is out stays
pub delivered_by : (l m : Ledger) (s : ℕ) (x : Slot) → s < length l.slots → is_out x ≡ false → OutStays (with_slot l s x) m → Delivered s l m
delivered_by l m s x w e f = (
  elim (f s) [
    | inl h ↦ h.1
    | inr h ↦ ap is_out h ∙ (ap is_out (get_or-set_same l.slots s x Free w) ∙ e)
  ],
  λ a d. elim (f a) [
    | inl h ↦ inl (ap is_given (sym (get_or-set_other l.slots s a x Free d)) ∙ h.0, h.1)
    | inr h ↦ inr (h ∙ get_or-set_other l.slots s a x Free d)
  ],
)
