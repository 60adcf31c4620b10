-- The parts of a delivered transaction, one after another.
use Rattle.std.proofs.Common.{◌≡◌, ◌≢◌, ℕ, zero, suc, ◌+◌, ◌<◌, ◌≤◌, Bool, true, false, List, [], ◌∷◌, length, get_or, inl, inr, arith, refl, sym, ap, ◌∙◌, subst}
use Rattle.std.proofs.lemmas.Bool.Decides.{eqb_tells, leb_tells}
use Rattle.bt_chains.specs.declared.Entry.{Entry}
use Rattle.bt_demand.specs.Find.{begun}
use Rattle.bt_demand.specs.Flushing.{Still}
use Rattle.bt_demand.specs.Next.{todo}
use Rattle.bt_steps.proofs.HoldLaws.{every_is_holds}
use Rattle.bt_ledger.specs.Book.{Booked}
use Rattle.bt_ledger.specs.Ledger.{Ledger, slot_at, is_given, part_tree, chain_at, Roomy}
use Rattle.bt_moves.specs.Moves.{Keeps, RipensNone, BeginsNone, BeginsBut}
use Rattle.bt_moves.specs.Resting.{AllSettled, BegunStill, Emptied, Delivering}
use Rattle.bt_moves.proofs.Keeping.{closed_quiet}
use Rattle.bt_moves.proofs.Ordering.{none_booked}

no_both : (b : Bool) → b ≡ true → b ≡ false → ⊥
no_both b e f = cc

pub delivering_still : (s i : ℕ) (l : Ledger) → Delivering s i l → BegunStill l
delivering_still s i l d = λ a b g. elim (eqb_tells a s) [
  | inl j ↦ (elim (leb_tells i b) [
    | inl k ↦ absurd (no_both (begun (part_tree l a b)) g (subst (λ x. begun (part_tree l x b) ≡ false) (sym j.1) (d.fresh b k.1)))
    | inr k ↦ d.quiet a b (λ _ w. (let v = k.1 in absurd (omega arith)))
  ])
  | inr j ↦ d.quiet a b (λ e _. j.1 e)
]

pub delivering_flushed : (s i : ℕ) (l m : Ledger) → Delivering s i l → Keeps l m → BeginsNone l m → RipensNone l m → AllSettled m → Delivering s i m
delivering_flushed s i l m d k f c e = record {
  settled = e;
  quiet = λ a b n. k.quiet a b (d.quiet a b n);
  fresh = λ b w. f s b (d.fresh b w);
  rest = λ a. k.rest a (d.rest a);
  calm = λ n. c n (d.calm n);
}

above : (i b : ℕ) → b ≢ i → i ≤ b → i + 1 ≤ b
above i b d w = elim (leb_tells (i + 1) b) [ inl h ↦ h.1 | inr h ↦ (let k = h.1 in absurd (d (omega arith))) ]

pub delivering_settled : (s i : ℕ) (l m : Ledger) → Delivering s i l → Still (todo (part_tree m s i)) → Keeps l m → BeginsBut s i l m → RipensNone l m → AllSettled m → Delivering s (i + 1) m
delivering_settled s i l m d h k f c o = record {
  settled = o;
  quiet = λ a b n. elim (eqb_tells a s) [
    | inl u ↦ (elim (eqb_tells b i) [
      | inl v ↦ subst (λ x. Still (todo (part_tree m x b))) (sym u.1) (subst (λ x. Still (todo (part_tree m s x))) (sym v.1) h)
      | inr v ↦ k.quiet a b (d.quiet a b (λ e w. n e (above i b v.1 w)))
    ])
    | inr u ↦ k.quiet a b (d.quiet a b (λ e _. u.1 e))
  ];
  fresh = λ b w. f s b (λ _ e. (let z : b ≡ i = e in absurd (omega arith))) (d.fresh b (omega arith));
  rest = λ a. k.rest a (d.rest a);
  calm = λ n. c n (d.calm n);
}

pub delivering_closed : (s i : ℕ) (l : Ledger) → Delivering s i l → is_given (slot_at l s) ≡ false → Delivering s (i + 1) l
delivering_closed s i l d g = record {
  settled = d.settled;
  quiet = λ a b n. elim (eqb_tells a s) [
    | inl u ↦ subst (λ x. Still (todo (part_tree l x b))) (sym u.1) (closed_quiet (slot_at l s) b g)
    | inr u ↦ d.quiet a b (λ e _. u.1 e)
  ];
  fresh = λ b w. d.fresh b (omega arith);
  rest = d.rest;
  calm = d.calm;
}

pub flushed_room : (s p : ℕ) (l : Ledger) → Booked l → BegunStill l → Emptied l → 64 ≤ l.entries → Roomy l s p
flushed_room s p l b a e w = λ f. (let n = none_booked l b a e in let k = b.few s p in let h = every_is_holds (part_tree l s p) in omega arith)

get_beyond : (cs : List (List Entry)) (n : ℕ) → length cs ≤ n → get_or cs n [] ≡ []
get_beyond [] n h = refl
get_beyond (c ∷ cs) zero h = absurd (omega arith)
get_beyond (c ∷ cs) (suc n) h = get_beyond cs n (omega arith)

-- chains up to the number of holds are all chains
pub emptied_by : (l : Ledger) → Booked l → ((n : ℕ) → n < length l.policies → chain_at l n ≡ []) → Emptied l
emptied_by l b f = λ n. elim (leb_tells (length l.policies) n) [
  | inl h ↦ get_beyond l.chains n (let k = b.chains in let w = h.1 in omega arith)
  | inr h ↦ f n (let w = h.1 in omega arith)
]

below_by : (i j : ℕ) → j ≢ i → j < i + 1 → j < i
below_by i j d w = elim (leb_tells i j) [ inl h ↦ (let k = h.1 in absurd (d (omega arith))) | inr h ↦ (let k = h.1 in omega arith) ]

-- one more chain is empty
pub one_more_empty : (l m : Ledger) (i : ℕ) → ((j : ℕ) → j < i → chain_at l j ≡ []) → ((j : ℕ) → j ≤ i → j ≢ i → chain_at m j ≡ chain_at l j) → chain_at m i ≡ [] → (j : ℕ) → j < i + 1 → chain_at m j ≡ []
one_more_empty l m i f g e j w = elim (eqb_tells j i) [
  | inl u ↦ ap (chain_at m) u.1 ∙ e
  | inr u ↦ g j (omega arith) u.1 ∙ f j (below_by i j u.1 w)
]
