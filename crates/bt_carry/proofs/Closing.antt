-- The closed transactions of a run of which no other is left.
use Rattle.std.proofs.Common.{◌≡◌, ℕ, zero, suc, ◌≤◌, Bool, true, false, not, ◌&&◌, eqb, ltb, leb, List, [], ◌∷◌, length, get_or, inl, inr, arith, refl, sym, ap, ◌∙◌, eq-eqb}
use Rattle.std.proofs.lemmas.Bool.Decides.{eqb_tells, leb_tells, nat_tests}
use Rattle.bt_carry.proofs.Lists.{Among}
use Rattle.bt_demand.specs.Holding.{one_if}
use Rattle.bt_ledger.specs.Due.{unanswered}
use Rattle.bt_ledger.specs.Ledger.{number_in, is_free, is_given}
use Rattle.bt_ledger.specs.declared.slot.Slot.{Slot}
use Rattle.bt_ledger.specs.declared.slot.Slot.TheVariants.{Free, Out, Given}
use Rattle.bt_ports.specs.declared.parts.Record.{Record}
use Rattle.bt_sound.specs.Owned.{IsRecordOf, OfSomePast}
use Rattle.bt_sound.specs.Sound.{here, in_slots, in_past}
use Rattle.bt_sound.specs.View.{Past}

pub free_not_given : (x : Slot) → is_free x ≡ true → is_given x ≡ true → ⊥
free_not_given Free f g = cc
free_not_given (Out n m i) f g = cc
free_not_given (Given o) f g = cc

-- where all slots are free, none has a number
pub in_free_slots : (n : ℕ) (xs : List Slot) → ((s : ℕ) → is_free (get_or xs s Free) ≡ true) → in_slots n xs ≡ 0
in_free_slots n [] h = refl
in_free_slots n (x ∷ xs) h =
    let a : here n x ≡ 0 = ap (λ v. one_if (not v && eqb (number_in x) n)) (h 0) in
    let b = in_free_slots n xs (λ s. h (suc s)) in
    omega arith

no_past : (n : ℕ) (ps : List Past) → in_past n ps ≡ 0 → (q : Past) → Among q ps → q.state.number ≡ n → ⊥
no_past n [] e q w m = w
no_past n (p ∷ ps) e q (inl f) m = let a = ap one_if (eq-eqb p.state.number n (ap (λ (x : Past). x.state.number) f ∙ m)) in absurd (omega arith)
no_past n (p ∷ ps) e q (inr k) m = no_past n ps (omega arith) q k m

-- the one closed transaction of a number
pub one_past : (n : ℕ) (ps : List Past) → in_past n ps ≡ 1 → (p : Past) × (Among p ps × ((p.state.number ≡ n) × ((q : Past) → Among q ps → q.state.number ≡ n → q ≡ p)))
one_past n [] e = absurd (omega arith)
one_past n (p ∷ ps) e = elim (eqb_tells p.state.number n) [
  | inl i ↦
      (let a = ap one_if i.0 in
      let z : in_past n ps ≡ 0 = omega arith in
      (p, (inl refl, (i.1, λ q w m. elim w [ inl f ↦ sym f | inr k ↦ absurd (no_past n ps z q k m) ]))))
  | inr i ↦
      (let a = ap one_if i.0 in
      let z : in_past n ps ≡ 1 = omega arith in
      let r = one_past n ps z in
      (r.0, (inr r.1.0, (r.1.1.0, λ q w m. elim w [ inl f ↦ absurd (i.1 (ap (λ (x : Past). x.state.number) f ∙ m)) | inr k ↦ r.1.1.1 q k m ]))))
]

pub of_past : (rs : List ℕ) (k : ℕ) (ps : List Past) (r : Record) → OfSomePast rs k ps r → (p : Past) × (Among p ps × IsRecordOf rs k p.state r)
of_past rs k [] r h = absurd h
of_past rs k (p ∷ ps) r (inl h) = (p, (inl refl, h))
of_past rs k (p ∷ ps) r (inr h) = let w = of_past rs k ps r h in (w.0, (inr w.1.0, w.1.1))

-- a closed transaction is one of those that are counted
pub past_counted : (q : Past) (ps : List Past) → Among q ps → 1 ≤ in_past q.state.number ps
past_counted q [] w = absurd w
past_counted q (p ∷ ps) (inl f) = let a = ap one_if (eq-eqb p.state.number q.state.number (ap (λ (x : Past). x.state.number) f)) in omega arith
past_counted q (p ∷ ps) (inr k) = let a = past_counted q ps k in omega arith

lt_zero : (n : ℕ) → ltb 0 (suc n) ≡ true
lt_zero n = grind (arith, nat_tests)

lt_none : (i : ℕ) → ltb i 0 ≡ false
lt_none i = grind (arith, nat_tests)

-- a number that counts is from 1 to g
pub within : (n g : ℕ) → 1 ≤ one_if (ltb 0 n && leb n g) → (1 ≤ n) × (n ≤ g)
within zero g h = let a = ap (λ v. one_if (v && leb zero g)) (lt_none 0) in absurd (omega arith)
within (suc n) g h =
    let a = ap (λ v. one_if (v && leb (suc n) g)) (lt_zero n) in
    elim (leb_tells (suc n) g) [
      | inl i ↦ (omega arith, i.1)
      | inr i ↦ (let b = ap one_if i.0 in absurd (omega arith))
    ]

pub counts : (n g : ℕ) → 1 ≤ n → n ≤ g → one_if (ltb 0 n && leb n g) ≡ 1
counts zero g h k = absurd (omega arith)
counts (suc n) g h k = ap (λ v. one_if (v && leb (suc n) g)) (lt_zero n) ∙ elim (leb_tells (suc n) g) [
  | inl i ↦ ap one_if i.0
  | inr i ↦ absurd (let a = i.1 in omega arith)
]

lt_suc : (i n : ℕ) → ltb (suc i) (suc n) ≡ ltb i n
lt_suc i n = grind (arith, nat_tests)

-- where no item is left, each is answered
pub all_answered : (bs : List Bool) (i : ℕ) → unanswered bs ≡ 0 → get_or bs i false ≡ ltb i (length bs)
all_answered [] i h = sym (lt_none i)
all_answered (true ∷ bs) zero h = sym (lt_zero (length bs))
all_answered (false ∷ bs) zero h = absurd (omega arith)
all_answered (true ∷ bs) (suc i) h = all_answered bs i (omega arith) ∙ sym (lt_suc i (length bs))
all_answered (false ∷ bs) (suc i) h = absurd (omega arith)
