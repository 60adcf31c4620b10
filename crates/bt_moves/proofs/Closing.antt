-- A flush of what rests closes all that is open, and a delivery ends at rest.
use Rattle.std.proofs.Common.{◌≡◌, ◌≢◌, ℕ, zero, suc, ◌<◌, ◌≤◌, Bool, true, false, cond, List, [], ◌∷◌, length, get_or, ◌⊎◌, inl, inr, arith, refl, sym, ap, ◌∙◌, subst, get_or-set_same, get_or-set_other}
use Rattle.std.proofs.lemmas.Bool.Decides.{eqb_tells, leb_tells}
use Rattle.bt_demand.specs.Find.{begun}
use Rattle.bt_demand.specs.Flushing.{Still}
use Rattle.bt_demand.specs.Holding.{is_open, waiting}
use Rattle.bt_demand.specs.Next.{todo}
use Rattle.bt_demand.specs.Outcomes.{outcome}
use Rattle.bt_demand.specs.Parts.{Part}
use Rattle.bt_demand.specs.Tree.{Tree}
use Rattle.bt_demand.proofs.Shapes.{still-settled}
use Rattle.bt_leaves.specs.Released.{ReleasedSettled}
use Rattle.bt_ledger.specs.Book.{Booked}
use Rattle.bt_ledger.specs.Due.{unanswered, counts_for, open_parts, times}
use Rattle.bt_ledger.specs.Ledger.{Ledger, slot_at, parts_in, is_given, answered_in, part_tree, over_parts, held, with_slot}
use Rattle.bt_ledger.specs.Open.{tree_of}
use Rattle.bt_ledger.specs.declared.slot.Slot.{Slot}
use Rattle.bt_ledger.specs.declared.slot.Slot.TheVariants.{Free, Out, Given}
use Rattle.bt_ledger.proofs.Slots.{sum_under}
use Rattle.bt_ledger.proofs.BookSlots.{tree_same}
use Rattle.bt_moves.proofs.Keeping.{closed_rest}
use Rattle.bt_moves.proofs.Ripening.{calms_trees}
use Rattle.bt_moves.specs.Moves.{SlotStays, Keeps, RipensNone}
use Rattle.bt_moves.specs.Resting.{AllSettled, Unfinished, AtRest, Unripe, BegunStill, Emptied, Delivering, Resting}
use Rattle.bt_moves.proofs.Ordering.{chains_zero, slot_in}

pub resting_still : (l : Ledger) → Resting l → BegunStill l
resting_still l r = λ s p _. r.quiet s p

pub resting_flushed : (l m : Ledger) → Resting l → Keeps l m → RipensNone l m → AllSettled m → Resting m
resting_flushed l m r k c e = record {
  settled = e;
  quiet = λ s p. k.quiet s p (r.quiet s p);
  rest = λ s. k.rest s (r.rest s);
  calm = λ n. c n (r.calm n);
}

-- an item without its answer
some_unanswered : (bs : List Bool) → 0 < unanswered bs → (i : ℕ) × ((i < length bs) × (get_or bs i true ≡ false))
some_unanswered [] h = absurd (omega arith)
some_unanswered (false ∷ bs) h = (0, (omega arith, refl))
some_unanswered (true ∷ bs) h = let a = some_unanswered bs (omega arith) in (suc a.0, (let b = a.1.0 in omega arith, a.1.1))

none_open : (ps : List Part) (i : ℕ) → ((p : ℕ) → p < length ps → is_open (outcome (tree_of ps p)) ≡ false) → open_parts i ps ≡ 0
none_open [] i h = refl
none_open (q ∷ ps) i h =
    let a : counts_for i q ≡ 0 = ap {B = ℕ} (λ b. cond b (times i q.from) 0) (h 0 (omega arith)) in
    let b = none_open ps i (λ p w. h (suc p) (omega arith)) in
    omega arith

bool_or : (b : Bool) → (b ≡ true) ⊎ (b ≡ false)
bool_or true = inl refl
bool_or false = inr refl

-- where nothing can go on and nothing waits, no transaction is open
pub none_given : (l : Ledger) → Resting l → Booked l → Emptied l → (s : ℕ) → is_given (slot_at l s) ≡ false
none_given l r b e s = elim (bool_or (is_given (slot_at l s))) [
  | inr g ↦ g
  | inl g ↦
      (let held0 : held l ≡ 0 = chains_zero l.chains e in
      let total = b.total in
      let settled : (p : ℕ) → p < length (parts_in (slot_at l s)) → is_open (outcome (part_tree l s p)) ≡ false = λ p w. still-settled (part_tree l s p) (r.quiet s p) (let u = sum_under waiting l.slots s p (slot_in l.slots s p w) w in omega arith) in
      let rest = r.rest s in
      let some : 0 < unanswered (answered_in (slot_at l s)) = subst (λ x. Unfinished x (answered_in (slot_at l s))) g rest.1 in
      let i = some_unanswered (answered_in (slot_at l s)) some in
      absurd (rest.0 i.0 (i.1.0, i.1.1, none_open (parts_in (slot_at l s)) i.0 settled)))
]

pub delivering_begins : (s : ℕ) (l : Ledger) → ((a b : ℕ) → a ≢ s → Still (todo (part_tree l a b))) → ((b : ℕ) → begun (part_tree l s b) ≡ false) → ((a : ℕ) → AtRest l a) → ((n : ℕ) → Unripe l n) → AllSettled l → Delivering s 0 l
delivering_begins s l q f r c e = record {
  settled = e;
  quiet = λ a b n. q a b (λ e. n e (omega arith));
  fresh = λ b _. f b;
  rest = r;
  calm = c;
}

pub none_at : (ps : List Part) (p : ℕ) → length ps ≤ p → Still (todo (tree_of ps p))
none_at [] p h = tt
none_at (x ∷ ps) zero h = absurd (omega arith)
none_at (x ∷ ps) (suc p) h = none_at ps p (omega arith)

pub delivering_ends : (s n : ℕ) (l : Ledger) → Delivering s n l → length (parts_in (slot_at l s)) ≤ n → Resting l
delivering_ends s n l d w = record {
  settled = d.settled;
  quiet = λ a b. elim (eqb_tells a s) [
    | inl u ↦ (elim (leb_tells n b) [
      | inl v ↦ subst (λ x. Still (todo (part_tree l x b))) (sym u.1) (none_at (parts_in (slot_at l s)) b (let z = v.1 in omega arith))
      | inr v ↦ d.quiet a b (λ _ z. (let y = v.1 in absurd (omega arith)))
    ])
    | inr u ↦ d.quiet a b (λ e _. u.1 e)
  ];
  rest = d.rest;
  calm = d.calm;
}

closed_parts : (x : Slot) → is_given x ≡ false → length (parts_in x) ≡ 0
closed_parts Free e = refl
closed_parts (Out n m i) e = refl
closed_parts (Given o) e = cc

pub fewer_parts : (l m : Ledger) (s : ℕ) → SlotStays l m s → length (parts_in (slot_at m s)) ≤ length (parts_in (slot_at l s))
fewer_parts l m s h = elim (bool_or (is_given (slot_at m s))) [
  | inl g ↦ (let a = (h g).1 in omega arith)
  | inr g ↦ (let a = closed_parts (slot_at m s) g in omega arith)
]

part_under : (f : Tree → ℕ) (ps : List Part) (p : ℕ) → p < length ps → f (tree_of ps p) ≤ over_parts f ps
part_under f [] p h = absurd (omega arith)
part_under f (q ∷ ps) zero h = omega arith
part_under f (q ∷ ps) (suc p) h = let a = part_under f ps p (omega arith) in omega arith

-- an open transaction has a hold that waits
pub open_has_waiting : (l : Ledger) (s : ℕ) → Resting l → is_given (slot_at l s) ≡ true → 1 ≤ over_parts waiting (parts_in (slot_at l s))
open_has_waiting l s r g = elim (leb_tells 1 (over_parts waiting (parts_in (slot_at l s)))) [
  | inl h ↦ h.1
  | inr h ↦ (let z = h.1 in
      let settled : (p : ℕ) → p < length (parts_in (slot_at l s)) → is_open (outcome (part_tree l s p)) ≡ false = λ p w. still-settled (part_tree l s p) (r.quiet s p) (let u = part_under waiting (parts_in (slot_at l s)) p w in omega arith) in
      let rest = r.rest s in
      let some : 0 < unanswered (answered_in (slot_at l s)) = subst (λ x. Unfinished x (answered_in (slot_at l s))) g rest.1 in
      let i = some_unanswered (answered_in (slot_at l s)) some in
      absurd (rest.0 i.0 (i.1.0, i.1.1, none_open (parts_in (slot_at l s)) i.0 settled)))
]

without : (x : Slot) → is_given x ≡ false → parts_in x ≡ []
without Free e = refl
without (Out n m i) e = refl
without (Given o) e = cc

-- a slot that isn't given becomes another one that isn't
pub resting_slot : (l : Ledger) (s : ℕ) (x : Slot) → s < length l.slots → is_given (slot_at l s) ≡ false → is_given x ≡ false → Resting l → Resting (with_slot l s x)
resting_slot l s x w e f r =
    let none : parts_in x ≡ parts_in (slot_at l s) = without x f ∙ sym (without (slot_at l s) e) in
    let trees = tree_same l s x w none in
    record {
      quiet = λ a b. subst (λ t. Still (todo t)) (sym (trees a b)) (r.quiet a b);
      settled = λ a b. subst (λ t. ReleasedSettled t) (sym (trees a b)) (r.settled a b);
      rest = λ a. elim (eqb_tells a s) [
        | inl i ↦ subst (λ q. AtRest (with_slot l s x) q) (sym i.1) (closed_rest (with_slot l s x) s (ap is_given (get_or-set_same l.slots s x Free w) ∙ f))
        | inr i ↦ rw (get_or-set_other l.slots s a x Free i.1) (r.rest a)
      ];
      calm = λ n. calms_trees l (with_slot l s x) refl refl trees n (r.calm n);
    }
