-- How a delivery, an admission and all that settles keep each transaction that is out named by one duty.
use Rattle.std.proofs.Common.{◌≡◌, ◌≢◌, ℕ, zero, suc, ◌+◌, ◌<◌, ◌≤◌, Bool, true, false, cond, eqb, not, ◌&&◌, List, [], ◌∷◌, length, get_or, set, ◌⊎◌, inl, inr, arith, refl, sym, ap, ◌∙◌, subst, eq-eqb, get_or-set_same, get_or-set_other}
use Rattle.std.specs.Prelude.{replicate}
use Rattle.std.proofs.lemmas.Bool.Decides.{eqb_tells}
use Rattle.bt_demand.specs.Holding.{one_if}
use Rattle.bt_duties.specs.Duties.{idle, duty_at, names, named, Names, Dutiful, AllIdle}
use Rattle.bt_duties.specs.declared.duty.Duty.{Duty}
use Rattle.bt_ledger.specs.Ledger.{Ledger, slot_at, is_free, is_given, number_in, items_in, taken_slots, opened, with_slot}
use Rattle.bt_ledger.specs.declared.slot.Slot.{Slot}
use Rattle.bt_ledger.specs.declared.slot.Slot.TheVariants.{Free, Out, Given}
use Rattle.bt_moves.specs.Moves.{Delivered, OutStays, is_out}

named_set : (s n i : ℕ) (ds : List Duty) (d : ℕ) (x : Duty) → d < length ds → named s n i (set ds d x) + names s n i (duty_at ds d) ≡ named s n i ds + names s n i x
named_set s n i [] d x h = absurd (omega arith)
named_set s n i (y ∷ ds) zero x h = omega arith
named_set s n i (y ∷ ds) (suc d) x h = let a = named_set s n i ds d x (omega arith) in omega arith

names_other : (s n i : ℕ) (d : Duty) → d.slot ≢ s → names s n i d ≡ 0
names_other s n i d h = elim (eqb_tells d.slot s) [ inl e ↦ absurd (h e.1) | inr e ↦ ap one_if (ap (λ b. not (eqb d.number 0) && (b && (eqb d.number n && eqb d.items i))) e.0 ∙ and_no (not (eqb d.number 0))) ]
  where
    and_no : (b : Bool) → b && false ≡ false
    and_no true = refl
    and_no false = refl

names_idle : (s n i : ℕ) (d : Duty) → d.number ≡ 0 → names s n i d ≡ 0
names_idle s n i d h = ap one_if (ap (λ b. not b && (eqb d.slot s && (eqb d.number n && eqb d.items i))) (eq-eqb d.number 0 h))

all_true : (a b c e : Bool) → 1 ≤ one_if (not a && (b && (c && e))) → (a ≡ false) × ((b ≡ true) × ((c ≡ true) × (e ≡ true)))
all_true false true true true h = (refl, (refl, (refl, refl)))
all_true true b c e h = absurd (omega arith)
all_true false false c e h = absurd (omega arith)
all_true false true false e h = absurd (omega arith)
all_true false true true false h = absurd (omega arith)

by_test : (a b : ℕ) → eqb a b ≡ true → a ≡ b
by_test a b e = elim (eqb_tells a b) [ inl h ↦ h.1 | inr h ↦ (let z : true ≡ false = sym e ∙ h.0 in cc) ]

by_no : (a b : ℕ) → eqb a b ≡ false → a ≢ b
by_no a b e h = let z : true ≡ false = sym (eq-eqb a b h) ∙ e in cc

names_is : (s n i : ℕ) (d : Duty) → 1 ≤ names s n i d → (d.number ≢ 0) × ((d.slot ≡ s) × ((d.number ≡ n) × (d.items ≡ i)))
names_is s n i d h = let a = all_true (eqb d.number 0) (eqb d.slot s) (eqb d.number n) (eqb d.items i) h in (by_no d.number 0 a.0, (by_test d.slot s a.1.0, (by_test d.number n a.1.1.0, by_test d.items i a.1.1.1)))

eqb_no : (a b : ℕ) → a ≢ b → eqb a b ≡ false
eqb_no a b h = elim (eqb_tells a b) [ inl e ↦ absurd (h e.1) | inr e ↦ e.0 ]

names_self : (d : Duty) → d.number ≢ 0 → names d.slot d.number d.items d ≡ 1
names_self d h = rw (eqb_no d.number 0 h, eq-eqb d.slot d.slot refl, eq-eqb d.number d.number refl, eq-eqb d.items d.items refl) refl

names_known : (l : Ledger) (d : Duty) → d.number ≢ 0 → Names l d → names d.slot (number_in (slot_at l d.slot)) (items_in (slot_at l d.slot)) d ≡ 1
names_known l d h k = subst (λ n. names d.slot n (items_in (slot_at l d.slot)) d ≡ 1) (sym k.number) (subst (λ i. names d.slot d.number i d ≡ 1) (sym k.items) (names_self d h))

nat_or : (a b : ℕ) → 1 ≤ a + b → (1 ≤ a) ⊎ (1 ≤ b)
nat_or zero b h = inr (omega arith)
nat_or (suc a) b h = inl (omega arith)

-- some duty names it
named_some : (s n i : ℕ) (ds : List Duty) → 1 ≤ named s n i ds → (d : ℕ) × ((d < length ds) × (1 ≤ names s n i (duty_at ds d)))
named_some s n i [] h = absurd (omega arith)
named_some s n i (x ∷ ds) h = elim (nat_or (names s n i x) (named s n i ds) h) [
  | inl a ↦ (0, (omega arith, a))
  | inr a ↦ (let w = named_some s n i ds a in (suc w.0, ((let k = w.1.0 in omega arith), w.1.1)))
]

named_under : (s n i : ℕ) (ds : List Duty) (d : ℕ) → names s n i (duty_at ds d) ≤ named s n i ds + names s n i idle
named_under s n i [] d = omega arith
named_under s n i (x ∷ ds) zero = omega arith
named_under s n i (x ∷ ds) (suc d) = let a = named_under s n i ds d in omega arith

-- two duties that name it
named_two : (s n i : ℕ) (ds : List Duty) (a b : ℕ) → a ≢ b → names s n i (duty_at ds a) ≡ 1 → names s n i (duty_at ds b) ≡ 1 → 2 ≤ named s n i ds
named_two s n i [] a b d x y = let z = names_idle s n i idle refl in absurd (omega arith)
named_two s n i (q ∷ ds) zero zero d x y = absurd (d refl)
named_two s n i (q ∷ ds) zero (suc b) d x y = let a = named_under s n i ds b in let z = names_idle s n i idle refl in omega arith
named_two s n i (q ∷ ds) (suc a) zero d x y = let b = named_under s n i ds a in let z = names_idle s n i idle refl in omega arith
named_two s n i (q ∷ ds) (suc a) (suc b) d x y = let e = named_two s n i ds a b (λ h. d (ap suc h)) x y in omega arith

given_out : (x : Slot) → is_given x ≡ true → is_out x ≡ true → ⊥
given_out Free a b = cc
given_out (Out n m i) a b = cc
given_out (Given o) a b = cc

no_both : (b : Bool) → b ≡ true → b ≡ false → ⊥
no_both b e f = cc

names_same : (l m : Ledger) (d : Duty) → slot_at m d.slot ≡ slot_at l d.slot → Names l d → Names m d
names_same l m d e k = record { out = ap is_out e ∙ k.out; number = ap number_in e ∙ k.number; items = ap items_in e ∙ k.items }

-- all that is out stays
pub dutiful_after : (l m : Ledger) (ds : List Duty) → OutStays l m → Dutiful l ds → Dutiful m ds
dutiful_after l m ds f d = record {
  each = λ s h. elim (f s) [
    | inl x ↦ absurd (no_both (is_out (slot_at m s)) h x.1)
    | inr x ↦ subst (λ z. named s (number_in z) (items_in z) ds ≡ 1) (sym x) (d.each s (ap is_out (sym x) ∙ h))
  ];
  known = λ k h. (let n = d.known k h in elim (f (duty_at ds k).slot) [
    | inl x ↦ absurd (given_out (slot_at l (duty_at ds k).slot) x.0 n.out)
    | inr x ↦ names_same l m (duty_at ds k) x n
  ]);
}

-- a duty delivered its transaction, and is idle
pub dutiful_delivered : (l m : Ledger) (ds : List Duty) (d : ℕ) → d < length ds → (duty_at ds d).number ≢ 0 → Delivered (duty_at ds d).slot l m → Dutiful l ds → Dutiful m (set ds d idle)
dutiful_delivered l m ds d w b f h =
    let s = (duty_at ds d).slot in
    let n = h.known d b in
    record {
      each = λ a o. (let other : a ≢ (duty_at ds d).slot = λ e. no_both (is_out (slot_at m a)) o (ap (λ k. is_out (slot_at m k)) e ∙ f.0) in
          elim (f.1 a other) [
            | inl x ↦ absurd (no_both (is_out (slot_at m a)) o x.1)
            | inr x ↦ subst (λ z. named a (number_in z) (items_in z) (set ds d idle) ≡ 1) (sym x)
                (let p = named_set a (number_in (slot_at l a)) (items_in (slot_at l a)) ds d idle w in
                let q = names_other a (number_in (slot_at l a)) (items_in (slot_at l a)) (duty_at ds d) (λ e. other (sym e)) in
                let r = names_idle a (number_in (slot_at l a)) (items_in (slot_at l a)) idle refl in
                let e = h.each a (ap is_out (sym x) ∙ o) in omega arith)
          ]);
      known = λ k o. elim (eqb_tells k d) [
        | inl e ↦ absurd (o (ap (λ (x : Duty). x.number) (ap (duty_at (set ds d idle)) e.1 ∙ get_or-set_same ds d idle idle w)))
        | inr e ↦
            (let same : duty_at (set ds d idle) k ≡ duty_at ds k = get_or-set_other ds d k idle idle e.1 in
            let busy : (duty_at ds k).number ≢ 0 = λ z. o (ap (λ (x : Duty). x.number) same ∙ z) in
            let u = h.known k busy in
            let other : (duty_at ds k).slot ≢ (duty_at ds d).slot = λ z.
            (let p = names_known l (duty_at ds d) b n in
            let q = subst (λ j. names j (number_in (slot_at l j)) (items_in (slot_at l j)) (duty_at ds k) ≡ 1) z (names_known l (duty_at ds k) busy u) in
            let two = named_two (duty_at ds d).slot (number_in (slot_at l (duty_at ds d).slot)) (items_in (slot_at l (duty_at ds d).slot)) ds k d e.1 q p in
            let one = h.each (duty_at ds d).slot n.out in absurd (omega arith)) in
            subst (λ x. Names m x) (sym same) (elim (f.1 (duty_at ds k).slot other) [
              | inl x ↦ absurd (given_out (slot_at l (duty_at ds k).slot) x.0 u.out)
              | inr x ↦ names_same l m (duty_at ds k) x u
            ]))
      ];
    }

out_free : (l : Ledger) (s : ℕ) → slot_at l s ≡ Free → is_out (slot_at l s) ≡ true → ⊥
out_free l s e o = let z : is_out Free ≡ true = ap is_out (sym e) ∙ o in cc

-- a transaction was taken, and a duty that was idle is out with it
pub dutiful_taken : (l : Ledger) (ds : List Duty) (d s n m i : ℕ) → d < length ds → (duty_at ds d).number ≡ 0 → s < length l.slots → slot_at l s ≡ Free → n ≢ 0 → Dutiful l ds
    → Dutiful (with_slot l s (Out n m i)) (set ds d (record { number = n; items = i; slot = s }))
dutiful_taken l ds d s n m i w b v free some h =
    let x : Duty = record { number = n; items = i; slot = s } in
    let here : slot_at (with_slot l s (Out n m i)) s ≡ Out n m i = get_or-set_same l.slots s (Out n m i) Free v in
    record {
      each = λ a o. elim (eqb_tells a s) [
        | inl e ↦
            (let none : named s n i ds ≡ 0 = elim (nat_zero (named s n i ds)) [
              | inl z ↦ z
              | inr z ↦ (let k = named_some s n i ds z in
                  let t = names_is s n i (duty_at ds k.0) k.1.1 in
                  let u = h.known k.0 t.0 in
                  absurd (out_free l s free (subst (λ j. is_out (slot_at l j) ≡ true) t.1.0 u.out)))
            ] in
            let p = named_set s n i ds d (record { number = n; items = i; slot = s }) w in
            let q = names_idle s n i (duty_at ds d) b in
            let r = names_self (record { number = n; items = i; slot = s }) some in
            let t : named s n i (set ds d (record { number = n; items = i; slot = s })) ≡ 1 = omega arith in
            subst (λ k. named k (number_in (slot_at (with_slot l s (Out n m i)) k)) (items_in (slot_at (with_slot l s (Out n m i)) k)) (set ds d (record { number = n; items = i; slot = s })) ≡ 1) (sym e.1)
            (subst (λ z. named s (number_in z) (items_in z) (set ds d (record { number = n; items = i; slot = s })) ≡ 1) (sym here) t))
        | inr e ↦
            (let same : slot_at (with_slot l s (Out n m i)) a ≡ slot_at l a = get_or-set_other l.slots s a (Out n m i) Free e.1 in
            let p = named_set a (number_in (slot_at l a)) (items_in (slot_at l a)) ds d (record { number = n; items = i; slot = s }) w in
            let q = names_idle a (number_in (slot_at l a)) (items_in (slot_at l a)) (duty_at ds d) b in
            let r = names_other a (number_in (slot_at l a)) (items_in (slot_at l a)) (record { number = n; items = i; slot = s }) (λ z. e.1 (sym z)) in
            let u = h.each a (ap is_out (sym same) ∙ o) in
            subst (λ z. named a (number_in z) (items_in z) (set ds d (record { number = n; items = i; slot = s })) ≡ 1) (sym same) (let t : named a (number_in (slot_at l a)) (items_in (slot_at l a)) (set ds d (record { number = n; items = i; slot = s })) ≡ 1 = omega arith in t))
      ];
      known = λ k o. elim (eqb_tells k d) [
        | inl e ↦
            (let same : duty_at (set ds d (record { number = n; items = i; slot = s })) k ≡ record { number = n; items = i; slot = s } = ap (duty_at (set ds d (record { number = n; items = i; slot = s }))) e.1 ∙ get_or-set_same ds d (record { number = n; items = i; slot = s }) idle w in
            subst (λ z. Names (with_slot l s (Out n m i)) z) (sym same) (record { out = ap is_out here; number = ap number_in here; items = ap items_in here }))
        | inr e ↦
            (let same : duty_at (set ds d (record { number = n; items = i; slot = s })) k ≡ duty_at ds k = get_or-set_other ds d k (record { number = n; items = i; slot = s }) idle e.1 in
            let u = h.known k (λ z. o (ap (λ (y : Duty). y.number) same ∙ z)) in
            let other : (duty_at ds k).slot ≢ s = λ z. out_free l s free (subst (λ j. is_out (slot_at l j) ≡ true) z u.out) in
            subst (λ z. Names (with_slot l s (Out n m i)) z) (sym same) (names_same l (with_slot l s (Out n m i)) (duty_at ds k) (get_or-set_other l.slots s (duty_at ds k).slot (Out n m i) Free other) u))
      ];
    }
  where
    nat_zero : (a : ℕ) → (a ≡ 0) ⊎ (1 ≤ a)
    nat_zero zero = inl refl
    nat_zero (suc a) = inr (omega arith)

idle_at : (k d : ℕ) → duty_at (replicate k idle) d ≡ idle
idle_at zero d = refl
idle_at (suc k) zero = refl
idle_at (suc k) (suc d) = idle_at k d

-- all slots are free and all duties idle
pub dutiful_make : (l : Ledger) (k : ℕ) → ((s : ℕ) → slot_at l s ≡ Free) → Dutiful l (replicate k idle)
dutiful_make l k f = record {
  each = λ s o. absurd (out_free l s (f s) o);
  known = λ d o. absurd (o (ap (λ (x : Duty). x.number) (idle_at k d)));
}

-- where all duties are idle, no transaction is out
pub none_out : (l : Ledger) (ds : List Duty) → Dutiful l ds → AllIdle ds → (s : ℕ) → is_out (slot_at l s) ≡ false
none_out l ds h i s = elim (bool_or (is_out (slot_at l s))) [
  | inr e ↦ e
  | inl e ↦
      (let one = h.each s e in
      let k = named_some s (number_in (slot_at l s)) (items_in (slot_at l s)) ds (omega arith) in
      absurd ((names_is s (number_in (slot_at l s)) (items_in (slot_at l s)) (duty_at ds k.0) k.1.1).0 (i k.0)))
]
  where
    bool_or : (b : Bool) → (b ≡ true) ⊎ (b ≡ false)
    bool_or true = inl refl
    bool_or false = inr refl

free_by : (x : Slot) → is_out x ≡ false → is_given x ≡ false → is_free x ≡ true
free_by Free a b = refl
free_by (Out n m i) a b = cc
free_by (Given o) a b = cc

-- and where none is open either, all slots are free
pub all_free : (l : Ledger) → ((s : ℕ) → is_out (slot_at l s) ≡ false) → ((s : ℕ) → is_given (slot_at l s) ≡ false) → (s : ℕ) → is_free (slot_at l s) ≡ true
all_free l f g s = free_by (slot_at l s) (f s) (g s)

none_taken : (xs : List Slot) → ((s : ℕ) → is_free (get_or xs s Free) ≡ true) → taken_slots xs ≡ 0
none_taken [] f = refl
none_taken (x ∷ xs) f = let a : cond {A = ℕ} (is_free x) 0 1 ≡ 0 = ap {B = ℕ} (λ b. cond b 0 1) (f 0) in let b = none_taken xs (λ s. f (suc s)) in omega arith

pub none_opened : (l : Ledger) → ((s : ℕ) → is_free (slot_at l s) ≡ true) → opened l ≡ 0
none_opened l f = none_taken l.slots f

out_within : (xs : List Slot) (s : ℕ) → is_out (get_or xs s Free) ≡ true → s < length xs
out_within [] s o = cc
out_within (x ∷ xs) zero o = omega arith
out_within (x ∷ xs) (suc s) o = let a = out_within xs s o in omega arith

-- a transaction that is out has a slot
pub out_there : (l : Ledger) (s : ℕ) → is_out (slot_at l s) ≡ true → s < length l.slots
out_there l s o = out_within l.slots s o

few_taken : (xs : List Slot) → taken_slots xs ≤ length xs
few_taken [] = omega arith
few_taken (Free ∷ xs) = let a = few_taken xs in omega arith
few_taken (Out n m i ∷ xs) = let a = few_taken xs in omega arith
few_taken (Given o ∷ xs) = let a = few_taken xs in omega arith

-- no more are out or open than there are slots
pub few_opened : (l : Ledger) → opened l ≤ length l.slots
few_opened l = few_taken l.slots
