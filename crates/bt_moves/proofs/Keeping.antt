-- What the moves leave as it was.
use Rattle.std.proofs.Common.{◌≡◌, ℕ, ◌<◌, true, false, length, inl, inr, arith, refl, ◌∙◌, IsTrue}
use Rattle.std.proofs.lemmas.Bool.Decides.{eqb_tells}
use Rattle.bt_demand.specs.Find.{begun}
use Rattle.bt_demand.specs.Flushing.{Still}
use Rattle.bt_demand.specs.Next.{todo}
use Rattle.bt_ledger.specs.Due.{IsDue}
use Rattle.bt_ledger.specs.Ledger.{Ledger, slot_at, parts_in, is_given, open_in, part_tree, IsPart, Roomy}
use Rattle.bt_ledger.specs.Open.{tree_of}
use Rattle.bt_ledger.specs.declared.slot.Slot.{Slot}
use Rattle.bt_ledger.specs.declared.slot.Slot.TheVariants.{Free, Out, Given}
use Rattle.bt_moves.specs.Moves.{SlotStays, StepAt, Keeps, KeepsBut}
use Rattle.bt_moves.specs.Resting.{AtRest}

pub stays_joins : (l m k : Ledger) (a : ℕ) → SlotStays l m a → SlotStays m k a → SlotStays l k a
stays_joins l m k a f g e =
    let x = g e in let y = f x.0 in
    (y.0, x.1 ∙ y.1, λ p b. x.2 p (y.2 p b))

pub stays_same : (l : Ledger) (a : ℕ) → SlotStays l l a
stays_same l a e = (e, refl, λ p b. b)

pub keeps_same : (l : Ledger) → Keeps l l
keeps_same l = record { slots = refl; policies = refl; quiet = λ a b q. q; rest = λ a r. r; stays = λ a. stays_same l a }

pub but_same : (s p : ℕ) (l : Ledger) → KeepsBut s p l l
but_same s p l = record { slots = refl; policies = refl; quiet = λ a b n q. q; rest = λ a n r. r; stays = λ a. stays_same l a }

pub but_step : (s p : ℕ) (l m k : Ledger) → KeepsBut s p l m → StepAt s p m k → KeepsBut s p l k
but_step s p l m k f g = record {
  slots = g.slots ∙ f.slots;
  policies = g.policies ∙ f.policies;
  quiet = λ a b n q. rw (g.trees a b n) (f.quiet a b n q);
  rest = λ a n r. rw (g.others a n) (f.rest a n r);
  stays = λ a. stays_joins l m k a (f.stays a) (g.stays a);
}

pub but_keeps : (s p : ℕ) (l m k : Ledger) → KeepsBut s p l m → Keeps m k → KeepsBut s p l k
but_keeps s p l m k f g = record {
  slots = g.slots ∙ f.slots;
  policies = g.policies ∙ f.policies;
  quiet = λ a b n q. g.quiet a b (f.quiet a b n q);
  rest = λ a n r. g.rest a (f.rest a n r);
  stays = λ a. stays_joins l m k a (f.stays a) (g.stays a);
}

pub but_joins : (s p : ℕ) (l m k : Ledger) → KeepsBut s p l m → KeepsBut s p m k → KeepsBut s p l k
but_joins s p l m k f g = record {
  slots = g.slots ∙ f.slots;
  policies = g.policies ∙ f.policies;
  quiet = λ a b n q. g.quiet a b n (f.quiet a b n q);
  rest = λ a n r. g.rest a n (f.rest a n r);
  stays = λ a. stays_joins l m k a (f.stays a) (g.stays a);
}

-- where the part is quiet and its slot at rest in the end, all is kept
pub but_closes : (s p : ℕ) (l m : Ledger) → KeepsBut s p l m → Still (todo (part_tree m s p)) → AtRest m s → Keeps l m
but_closes s p l m f q r = record {
  slots = f.slots;
  policies = f.policies;
  quiet = λ a b h. elim (eqb_tells a s) [
    | inl i ↦ elim (eqb_tells b p) [
      | inl j ↦ rw (i.1, j.1) q
      | inr j ↦ f.quiet a b (λ _ u. j.1 u) h
    ]
    | inr i ↦ f.quiet a b (λ u _. i.1 u) h
  ];
  rest = λ a h. elim (eqb_tells a s) [ inl i ↦ rw i.1 r | inr i ↦ f.rest a i.1 h ];
  stays = f.stays;
}

pub keeps_joins : (l m k : Ledger) → Keeps l m → Keeps m k → Keeps l k
keeps_joins l m k f g = record {
  slots = g.slots ∙ f.slots;
  policies = g.policies ∙ f.policies;
  quiet = λ a b q. g.quiet a b (f.quiet a b q);
  rest = λ a r. g.rest a (f.rest a r);
  stays = λ a. stays_joins l m k a (f.stays a) (g.stays a);
}

pub keeps_but : (s p : ℕ) (l m : Ledger) → Keeps l m → KeepsBut s p l m
keeps_but s p l m f = record { slots = f.slots; policies = f.policies; quiet = λ a b n q. f.quiet a b q; rest = λ a n r. f.rest a r; stays = f.stays }

-- a slot that is not Given is quiet and at rest
pub closed_quiet : (x : Slot) (p : ℕ) → is_given x ≡ false → Still (todo (tree_of (parts_in x) p))
closed_quiet Free p e = tt
closed_quiet (Out n m i) p e = tt
closed_quiet (Given o) p e = cc

pub none_due : (x : Slot) → is_given x ≡ false → (i : ℕ) → IsDue (open_in x) i → ⊥
none_due Free e i d = omega (arith, d.0)
none_due (Out n m j) e i d = omega (arith, d.0)
none_due (Given o) e i d = cc

pub closed_rest : (l : Ledger) (s : ℕ) → is_given (slot_at l s) ≡ false → AtRest l s
closed_rest l s e = (none_due (slot_at l s) e, rw e tt)

pub begun_room : (l : Ledger) (s p : ℕ) → begun (part_tree l s p) ≡ true → Roomy l s p
begun_room l s p e f = cc

-- a part of the beginning is a part as long as its slot is Given
pub part_stays : (l m : Ledger) (s p : ℕ) → IsPart l s p → length m.slots ≡ length l.slots → SlotStays l m s → is_given (slot_at m s) ≡ true → IsPart m s p
part_stays l m s p h e f g = (omega (arith, h.0), let x = f g in omega (arith, h.1, x.1))

pub given_true : (x : Slot) (p : ℕ) → p < length (parts_in x) → IsTrue (is_given x)
given_true Free p h = absurd (omega arith)
given_true (Out n m i) p h = absurd (omega arith)
given_true (Given o) p h = refl
