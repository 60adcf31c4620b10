-- Which transactions are in slots, and which are closed.
use Rattle.std.proofs.Common.{◌≡◌, ◌≢◌, ℕ, zero, suc, ◌+◌, ◌<◌, ◌≤◌, Bool, true, false, eqb, ltb, leb, not, ◌&&◌, List, [], ◌∷◌, length, get_or, set, inl, inr, arith, refl, sym, ap, ◌∙◌, subst, eq-eqb}
use Rattle.std.specs.List.{AllByRecursion}
use Rattle.std.proofs.lemmas.Bool.Decides.{leb_tells}
use Rattle.bt_demand.specs.Holding.{one_if}
use Rattle.bt_ledger.specs.Ledger.{number_in, is_free}
use Rattle.bt_ledger.specs.declared.slot.Slot.{Slot}
use Rattle.bt_ledger.specs.declared.slot.Slot.TheVariants.{Free}
use Rattle.bt_sound.specs.Sound.{here, in_slots, in_past}
use Rattle.bt_sound.specs.View.{Past}

pub in_slots_set : (n : ℕ) (xs : List Slot) (s : ℕ) (x : Slot) → s < length xs → in_slots n (set xs s x) + here n (get_or xs s Free) ≡ in_slots n xs + here n x
in_slots_set n [] s x h = absurd (omega arith)
in_slots_set n (y ∷ xs) zero x h = omega arith
in_slots_set n (y ∷ xs) (suc s) x h = let a = in_slots_set n xs s x (omega arith) in omega arith

in_under : (n : ℕ) (xs : List Slot) (s : ℕ) → here n (get_or xs s Free) ≤ in_slots n xs
in_under n [] s = omega arith
in_under n (x ∷ xs) zero = omega arith
in_under n (x ∷ xs) (suc s) = let a = in_under n xs s in omega arith

in_two : (n : ℕ) (xs : List Slot) (s t : ℕ) → 1 ≤ here n (get_or xs s Free) → 1 ≤ here n (get_or xs t Free) → in_slots n xs ≤ 1 → s ≡ t
in_two n [] s t a b c = absurd (omega arith)
in_two n (x ∷ xs) zero zero a b c = refl
in_two n (x ∷ xs) zero (suc t) a b c = let u = in_under n xs t in absurd (omega arith)
in_two n (x ∷ xs) (suc s) zero a b c = let u = in_under n xs s in absurd (omega arith)
in_two n (x ∷ xs) (suc s) (suc t) a b c = ap suc (in_two n xs s t a b (omega arith))

pub here_taken : (x : Slot) (n : ℕ) → is_free x ≡ false → number_in x ≡ n → here n x ≡ 1
here_taken x n f e = ap one_if (ap (λ b. not b && eqb (number_in x) n) f ∙ eq-eqb (number_in x) n e)

one_le : (b : Bool) → one_if b ≤ 1
one_le true = omega arith
one_le false = omega arith

one_true : (b : Bool) → 1 ≤ one_if b → b ≡ true
one_true true h = refl
one_true false h = absurd (omega arith)

-- two slots that are taken by one number are one
pub apart_by : (xs : List Slot) (n k : ℕ) (b : Bool) (s t : ℕ) → in_slots n xs + k ≡ one_if b → is_free (get_or xs s Free) ≡ false → is_free (get_or xs t Free) ≡ false → number_in (get_or xs s Free) ≡ n → number_in (get_or xs t Free) ≡ n → s ≡ t
apart_by xs n k b s t e f g i j =
    let u = one_le b in
    let v = here_taken (get_or xs s Free) n f i in
    let w = here_taken (get_or xs t Free) n g j in
    in_two n xs s t (omega arith) (omega arith) (omega arith)

and_false : (b : Bool) → b && false ≡ true → ⊥
and_false true e = cc
and_false false e = cc

range_of : (n m : ℕ) → ltb 0 n && leb n m ≡ true → (1 ≤ n) × (n ≤ m)
range_of n m t = elim (leb_tells n m) [
  | inl h ↦ (elim (leb_tells 1 n) [ inl j ↦ (j.1, h.1) | inr j ↦ (let z : n ≡ 0 = (let k = j.1 in omega arith) in let y : ltb 0 0 && leb 0 m ≡ true = subst (λ q. ltb 0 q && leb q m ≡ true) z t in cc) ])
  | inr h ↦ (let y : ltb 0 n && false ≡ true = ap (λ q. ltb 0 n && q) (sym h.0) ∙ t in absurd (and_false (ltb 0 n) y))
]

-- a number that is in a slot is in range, and no closed one's
pub placed_range : (xs : List Slot) (n k m : ℕ) (s : ℕ) → in_slots n xs + k ≡ one_if (ltb 0 n && leb n m) → is_free (get_or xs s Free) ≡ false → number_in (get_or xs s Free) ≡ n → (1 ≤ n) × (n ≤ m)
placed_range xs n k m s e f i =
    let v = here_taken (get_or xs s Free) n f i in
    let u = in_under n xs s in
    let t = one_true (ltb 0 n && leb n m) (omega arith) in
    range_of n m t

none_past_in : (ps : List Past) (n : ℕ) → in_past n ps ≡ 0 → AllByRecursion (λ p. p.state.number ≢ n) ps
none_past_in [] n e = tt
none_past_in (p ∷ ps) n e = ((λ i. (let v : one_if (eqb p.state.number n) ≡ 1 = ap one_if (eq-eqb p.state.number n i) in absurd (omega arith))), none_past_in ps n (omega arith))

pub none_past : (ps : List Past) (n k : ℕ) (b : Bool) → 1 ≤ k → k + in_past n ps ≡ one_if b → AllByRecursion (λ p. p.state.number ≢ n) ps
none_past ps n k b h e = none_past_in ps n (let u = one_le b in omega arith)

pub gone_by : (xs : List Slot) (ps : List Past) (n : ℕ) (b : Bool) (s : ℕ) → in_slots n xs + in_past n ps ≡ one_if b → is_free (get_or xs s Free) ≡ false → number_in (get_or xs s Free) ≡ n → AllByRecursion (λ p. p.state.number ≢ n) ps
gone_by xs ps n b s e f i =
    let v = here_taken (get_or xs s Free) n f i in
    let u = in_under n xs s in
    none_past ps n (in_slots n xs) b (omega arith) e
