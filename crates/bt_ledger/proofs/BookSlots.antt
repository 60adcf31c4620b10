-- The book after a slot is taken, given its routes, answered or freed.
use Rattle.std.proofs.Common.{◌≡◌, ◌≢◌, ℕ, zero, suc, ◌<◌, ◌≤◌, Bool, true, false, cond, eqb, ◌&&◌, List, [], ◌∷◌, length, ◌⊎◌, inl, inr, arith, refl, sym, ap, ◌∙◌, eq-eqb, get_or-set_same, get_or-set_other, length-set}
use Rattle.std.proofs.lemmas.Bool.Decides.{eqb_tells}
use Rattle.bt_demand.specs.Tree.{Tree}
use Rattle.bt_demand.specs.Find.{begun}
use Rattle.bt_demand.specs.Outcomes.{outcome}
use Rattle.bt_demand.specs.Holding.{one_if, is_waiting, is_open, every_hold, active, waiting, waits_at, holds_at, booked_in, Tidy, OneEach}
use Rattle.bt_demand.specs.Parts.{Part}
use Rattle.bt_chains.specs.declared.Entry.{Entry}
use Rattle.bt_ledger.specs.Open.{tree_of}
use Rattle.bt_ledger.specs.Ledger.{Ledger, slot_at, parts_in, is_free, moment_in, part_tree, with_slot, chain_at, over_parts, over_slots, booked, entries_of}
use Rattle.bt_ledger.specs.declared.slot.Slot.{Slot}
use Rattle.bt_ledger.specs.declared.slot.Slot.TheVariants.{Free}
use Rattle.bt_ledger.specs.Book.{Booked}
use Rattle.std.specs.List.{AllByRecursion}
use Rattle.bt_demand.specs.Holding.{held_by}
use Rattle.bt_ledger.specs.Calls.{entry_of, ends_or, last_ends}
use Rattle.bt_ledger.specs.Kept.{Kept, Tallied}
use Rattle.bt_ledger.specs.declared.tally.Tally.{Tally}
use Rattle.bt_ledger.proofs.Sums.{slots_set}
use Rattle.bt_steps.proofs.HoldLaws.{count_le, settled_waits}
use Rattle.bt_ledger.proofs.Slots.{taken_set, vacant_same}

pub tree_other : (l : Ledger) (s : ℕ) (x : Slot) (a b : ℕ) → a ≢ s → part_tree (with_slot l s x) a b ≡ part_tree l a b
tree_other l s x a b d = ap (λ (y : Slot). tree_of (parts_in y) b) (get_or-set_other l.slots s a x Free d)

pub tree_new : (l : Ledger) (s : ℕ) (x : Slot) (b : ℕ) → s < length l.slots → part_tree (with_slot l s x) s b ≡ tree_of (parts_in x) b
tree_new l s x b h = ap (λ (y : Slot). tree_of (parts_in y) b) (get_or-set_same l.slots s x Free h)

-- a part of a slot is one of its new parts, or one of another slot
slot_cases : (l : Ledger) (s : ℕ) (x : Slot) (a b : ℕ) → s < length l.slots → ((a ≡ s) × (part_tree (with_slot l s x) a b ≡ tree_of (parts_in x) b)) ⊎ ((a ≢ s) × (part_tree (with_slot l s x) a b ≡ part_tree l a b))
slot_cases l s x a b h = elim (eqb_tells a s) [
  | inl i ↦ inl (i.1, ap (λ k. part_tree (with_slot l s x) k b) i.1 ∙ tree_new l s x b h)
  | inr i ↦ inr (i.1, tree_other l s x a b i.1)
]

-- nothing waits in a slot
pub record Quiet (ps : List Part) : Type 0 where
  pub waits : (n p : ℕ) → waits_at n (tree_of ps p) ≡ 0
  pub sum : over_parts waiting ps ≡ 0
  pub booked : over_parts booked_in ps ≡ 0

-- parts that a slot may get
pub record Fitting (l : Ledger) (ps : List Part) : Type 0 where
  pub tidy : (p : ℕ) → Tidy (tree_of ps p)
  pub single : (p : ℕ) → OneEach (tree_of ps p)
  pub few : (p : ℕ) → every_hold (tree_of ps p) ≤ 64
  pub known : (p n : ℕ) → length l.policies ≤ n → holds_at n (tree_of ps p) ≡ 0

-- no entry of a chain is of the slot
none_of : (s : ℕ) (es : List Entry) → ((p : ℕ) → entries_of s p es ≡ 0) → AllByRecursion (λ (e : Entry). e.slot ≢ s) es
none_of s [] h = tt
none_of s (e ∷ es) h = (
  (λ i. (let a = h e.part in
      let b : cond {A = ℕ} (eqb e.slot s && eqb e.part e.part) 1 0 ≡ 1 = rw (eq-eqb e.slot s i, eq-eqb e.part e.part refl) refl in
      absurd (omega arith))),
  none_of s es (λ p. let a = h p in omega arith),
)

filled_off : (l m : Ledger) (s n : ℕ) (es : List Entry) → ((a b : ℕ) → a ≢ s → entry_of m a b n ≡ entry_of l a b n) → AllByRecursion (λ (e : Entry). e.slot ≢ s) es → AllByRecursion (λ e. e ≡ entry_of l e.slot e.part n) es → AllByRecursion (λ e. e ≡ entry_of m e.slot e.part n) es
filled_off l m s n [] h o f = tt
filled_off l m s n (e ∷ es) h o f = (f.0 ∙ sym (h e.slot e.part o.0), filled_off l m s n es h o.1 f.1)

last_off : (l m : Ledger) (s : ℕ) (es : List Entry) → ((a b : ℕ) → a ≢ s → part_tree m a b ≡ part_tree l a b) → AllByRecursion (λ (e : Entry). e.slot ≢ s) es → last_ends m es ≡ last_ends l es
last_off l m s [] h o = refl
last_off l m s (e ∷ []) h o = ap (λ t. ends_or (held_by e.node t)) (h e.slot e.part o.0)
last_off l m s (e ∷ (f ∷ es)) h o = last_off l m s (f ∷ es) h o.1

entry_other : (l : Ledger) (s : ℕ) (x : Slot) (a b n : ℕ) → a ≢ s → entry_of (with_slot l s x) a b n ≡ entry_of l a b n
entry_other l s x a b n d = rw (tree_other l s x a b d, get_or-set_other l.slots s a x Free d) refl

pub none_here : (l : Ledger) (s n : ℕ) → Booked l → Quiet (parts_in (slot_at l s)) → AllByRecursion (λ (e : Entry). e.slot ≢ s) (chain_at l n)
none_here l s n b q = none_of s (chain_at l n) (λ p. b.own n s p ∙ q.waits n p)

pub book_slot : (l : Ledger) (s : ℕ) (x : Slot) → Booked l → s < length l.slots → Quiet (parts_in (slot_at l s)) → Quiet (parts_in x) → Fitting l (parts_in x) → Booked (with_slot l s x)
book_slot l s x b h q r g =
    let off = none_here l s in
    record {
      own = λ n a c. elim (slot_cases l s x a c h) [
        | inl i ↦ (let u : waits_at n (part_tree (with_slot l s x) a c) ≡ 0 = ap (waits_at n) i.1 ∙ r.waits n c in
            let v : entries_of a c (chain_at l n) ≡ 0 = b.own n a c ∙ ap (λ k. waits_at n (part_tree l k c)) i.0 ∙ q.waits n c in
            v ∙ sym u)
        | inr i ↦ b.own n a c ∙ ap (waits_at n) (sym i.1)
      ];
      filled = λ n. filled_off l (with_slot l s x) s n (chain_at l n) (λ a c d. entry_other l s x a c n d) (none_here l s n b q) (b.filled n);
      total = (let a = slots_set waiting l.slots s x h in let c = q.sum in let d = r.sum in omega (arith, b.total));
      bound = (let a = slots_set booked_in l.slots s x h in let c = q.booked in let d = r.booked in omega (arith, b.bound));
      tidy = λ a c. elim (slot_cases l s x a c h) [ inl i ↦ rw i.1 (g.tidy c) | inr i ↦ rw i.1 (b.tidy a c) ];
      single = λ a c. elim (slot_cases l s x a c h) [ inl i ↦ rw i.1 (g.single c) | inr i ↦ rw i.1 (b.single a c) ];
      few = λ a c. elim (slot_cases l s x a c h) [ inl i ↦ rw i.1 (g.few c) | inr i ↦ rw i.1 (b.few a c) ];
      known = λ a c n w. elim (slot_cases l s x a c h) [ inl i ↦ rw i.1 (g.known c n w) | inr i ↦ rw i.1 (b.known a c n w) ];
      chains = b.chains;
    }

pub booked_slot : (l : Ledger) (s : ℕ) (x : Slot) → s < length l.slots → Quiet (parts_in (slot_at l s)) → Quiet (parts_in x) → booked (with_slot l s x) ≡ booked l
booked_slot l s x h q r = let a = slots_set booked_in l.slots s x h in let c = q.booked in let d = r.booked in omega arith

pub tallied_slot : (l : Ledger) (s : ℕ) (x : Slot) (ts : List Tally) → Booked l → Quiet (parts_in (slot_at l s)) → Tallied l ts → Tallied (with_slot l s x) ts
tallied_slot l s x ts b q t = record {
  each = t.each;
  bytes = t.bytes;
  wide = t.wide;
  ends = λ n e. t.ends n e ∙ sym (last_off l (with_slot l s x) s (chain_at l n) (λ a c d. tree_other l s x a c d) (none_here l s n b q));
}

-- a slot without parts is quiet
pub empty_quiet : Quiet []
empty_quiet = record { waits = λ n p. refl; sum = refl; booked = refl }

pub empty_good : (l : Ledger) → Fitting l []
empty_good l = record { tidy = λ p. tt; single = λ p n. omega arith; few = λ p. omega arith; known = λ p n w. refl }

-- a slot changes without its parts
pub tree_same : (l : Ledger) (s : ℕ) (x : Slot) → s < length l.slots → parts_in x ≡ parts_in (slot_at l s) → (a b : ℕ) → part_tree (with_slot l s x) a b ≡ part_tree l a b
tree_same l s x h e a b = elim (slot_cases l s x a b h) [
  | inl i ↦ i.1 ∙ ap (λ ps. tree_of ps b) e ∙ ap (λ k. part_tree l k b) (sym i.0)
  | inr i ↦ i.1
]

moment_alike : (l : Ledger) (s : ℕ) (x : Slot) → s < length l.slots → moment_in x ≡ moment_in (slot_at l s) → (a : ℕ) → moment_in (slot_at (with_slot l s x) a) ≡ moment_in (slot_at l a)
moment_alike l s x h e a = elim (eqb_tells a s) [
  | inl i ↦ ap (λ k. moment_in (slot_at (with_slot l s x) k)) i.1 ∙ ap moment_in (get_or-set_same l.slots s x Free h) ∙ e ∙ ap (λ k. moment_in (slot_at l k)) (sym i.1)
  | inr i ↦ ap moment_in (get_or-set_other l.slots s a x Free i.1)
]

filled_all : (l m : Ledger) (n : ℕ) (es : List Entry) → ((a b : ℕ) → entry_of m a b n ≡ entry_of l a b n) → AllByRecursion (λ e. e ≡ entry_of l e.slot e.part n) es → AllByRecursion (λ e. e ≡ entry_of m e.slot e.part n) es
filled_all l m n [] h f = tt
filled_all l m n (e ∷ es) h f = (f.0 ∙ sym (h e.slot e.part), filled_all l m n es h f.1)

last_all : (l m : Ledger) (es : List Entry) → ((a b : ℕ) → part_tree m a b ≡ part_tree l a b) → last_ends m es ≡ last_ends l es
last_all l m [] h = refl
last_all l m (e ∷ []) h = ap (λ t. ends_or (held_by e.node t)) (h e.slot e.part)
last_all l m (e ∷ (f ∷ es)) h = last_all l m (f ∷ es) h

sum_same : (f : Tree → ℕ) (l : Ledger) (s : ℕ) (x : Slot) → s < length l.slots → parts_in x ≡ parts_in (slot_at l s) → over_slots f (with_slot l s x).slots ≡ over_slots f l.slots
sum_same f l s x h e = let a = slots_set f l.slots s x h in let b = ap (over_parts f) e in omega arith

pub kept_same : (l : Ledger) (s : ℕ) (x : Slot) (b : ℕ) (vs : List ℕ) (ts : List Tally) (cap : ℕ) → Kept l b vs ts cap → s < length l.slots → parts_in x ≡ parts_in (slot_at l s) → moment_in x ≡ moment_in (slot_at l s) → is_free x ≡ is_free (slot_at l s) → Kept (with_slot l s x) b vs ts cap
kept_same l s x b vs ts cap k h e m f =
    let t = tree_same l s x h e in
    let len = length-set l.slots s x in
    record {
      book = record {
        own = λ n a c. k.book.own n a c ∙ ap (waits_at n) (sym (t a c));
        filled = λ n. filled_all l (with_slot l s x) n (chain_at l n) (λ a c. rw (t a c, moment_alike l s x h m a) refl) (k.book.filled n);
        total = k.book.total ∙ sym (sum_same waiting l s x h e);
        bound = (let u = sum_same booked_in l s x h e in omega (arith, k.book.bound));
        tidy = λ a c. rw (t a c) (k.book.tidy a c);
        single = λ a c. rw (t a c) (k.book.single a c);
        few = λ a c. rw (t a c) (k.book.few a c);
        known = λ a c n w. rw (t a c) (k.book.known a c n w);
        chains = k.book.chains;
      };
      number = k.number ∙ sym (sum_same booked_in l s x h e);
      vacancy = vacant_same l.slots vs s x k.vacancy h f;
      counted = (let a = taken_set l.slots s x h in let c = ap {B = ℕ} (λ b. cond b 0 1) f in let d = k.counted in omega arith);
      tallied = record {
        each = k.tallied.each;
        bytes = k.tallied.bytes;
        wide = k.tallied.wide;
        ends = λ n z. k.tallied.ends n z ∙ sym (last_all l (with_slot l s x) (chain_at l n) t);
      };
      room = (let a = k.room in omega arith);
      small = ((let a = k.small.0 in omega arith), k.small.1);
    }

under_cases : (a b : Bool) → one_if (a && b) ≤ one_if b
under_cases true b = omega arith
under_cases false true = omega arith
under_cases false false = omega arith

-- parts that are all settled are quiet
waits_under : (n : ℕ) (t : Tree) → waits_at n t ≤ waiting t
waits_under n t = count_le (λ m g. eqb m n && is_waiting g) (λ _ g. is_waiting g) t (λ m g. under_cases (eqb m n) (is_waiting g))

settled_beyond : (ps : List Part) (p : ℕ) → ((q : ℕ) → Tidy (tree_of ps q)) → ((q : ℕ) → q < length ps → is_open (outcome (tree_of ps q)) ≡ false) → waiting (tree_of ps p) ≡ 0
settled_beyond [] p t s = refl
settled_beyond (x ∷ ps) zero t s = settled_waits x.demand (t 0) (s 0 (omega arith))
settled_beyond (x ∷ ps) (suc p) t s = settled_beyond ps p (λ q. t (suc q)) (λ q h. s (suc q) (omega arith))

settled_sum : (ps : List Part) → ((q : ℕ) → Tidy (tree_of ps q)) → ((q : ℕ) → q < length ps → is_open (outcome (tree_of ps q)) ≡ false) → over_parts waiting ps ≡ 0
settled_sum [] t s = refl
settled_sum (x ∷ ps) t s = let a = settled_waits x.demand (t 0) (s 0 (omega arith)) in let b = settled_sum ps (λ q. t (suc q)) (λ q h. s (suc q) (omega arith)) in omega arith

not_booked : (b o : Bool) (a : ℕ) → o ≡ false → cond (b && o) a 0 ≡ 0
not_booked true true a e = cc
not_booked true false a e = refl
not_booked false o a e = refl

settled_booked : (ps : List Part) → ((q : ℕ) → q < length ps → is_open (outcome (tree_of ps q)) ≡ false) → over_parts booked_in ps ≡ 0
settled_booked [] s = refl
settled_booked (x ∷ ps) s = let a = not_booked (begun x.demand) (is_open (outcome x.demand)) (active x.demand) (s 0 (omega arith)) in let b = settled_booked ps (λ q h. s (suc q) (omega arith)) in omega arith

pub settled_quiet : (ps : List Part) → ((q : ℕ) → Tidy (tree_of ps q)) → ((q : ℕ) → q < length ps → is_open (outcome (tree_of ps q)) ≡ false) → Quiet ps
settled_quiet ps t s = record {
  waits = λ n p. (let a = waits_under n (tree_of ps p) in let b = settled_beyond ps p t s in omega arith);
  sum = settled_sum ps t s;
  booked = settled_booked ps s;
}
