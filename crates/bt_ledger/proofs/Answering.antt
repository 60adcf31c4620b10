-- How many items aren't answered.
use Rattle.std.proofs.Common.{◌≡◌, ℕ, zero, suc, ◌-◌, ◌<◌, ◌≤◌, Bool, true, false, cond, eqb, List, [], ◌∷◌, length, get_or, set, ◌⊎◌, inl, inr, arith, refl, sym, ap, ◌∙◌, replicate, eq-eqb}
use Rattle.std.proofs.lemmas.Bool.Decides.{nat_tests}
use Rattle.std.proofs.lemmas.Bool.{eqb-true}
use Rattle.std.proofs.lemmas.List.{get_or-map, length-map}
use Rattle.bt_demand.specs.Holding.{is_open, one_if}
use Rattle.bt_demand.specs.Outcomes.{outcome}
use Rattle.bt_demand.specs.Parts.{Part}
use Rattle.bt_ledger.specs.Open.{tree_of, from_of, part_at}
use Rattle.bt_demand.specs.declared.routes.Count.{Count}
use Rattle.bt_ledger.specs.Counted.{lefts, answered_by, Marked}
use Rattle.bt_ledger.specs.Due.{unanswered, AllSome, AllBelow, Below, times, counts_for, open_parts, AllSettled}

pub unanswered_set : (bs : List Bool) (i : ℕ) → i < length bs → get_or bs i true ≡ false → (1 ≤ unanswered bs) × (unanswered (set bs i true) ≡ unanswered bs - 1)
unanswered_set [] i h e = absurd (omega arith)
unanswered_set (b ∷ bs) zero h e = let a : cond {A = ℕ} b 0 1 ≡ 1 = ap {B = ℕ} (λ x. cond x 0 1) e in (omega arith, omega arith)
unanswered_set (b ∷ bs) (suc i) h e = let a = unanswered_set bs i (omega arith) e in let p = a.0 in let q = a.1 in (omega arith, omega arith)

pub none_unanswered : (bs : List Bool) (i : ℕ) → unanswered bs ≡ 0 → i < length bs → get_or bs i true ≡ true
none_unanswered [] i e h = refl
none_unanswered (true ∷ bs) zero e h = refl
none_unanswered (false ∷ bs) zero e h = absurd (omega arith)
none_unanswered (b ∷ bs) (suc i) e h = none_unanswered bs i (omega arith) (omega arith)

pub unanswered_all : (n : ℕ) → unanswered (replicate n false) ≡ n
unanswered_all zero = refl
unanswered_all (suc n) = let a = unanswered_all n in omega arith

below_at : (n : ℕ) (ps : List Part) (k : ℕ) → k < length ps → AllBelow n ps → Below n (from_of ps k)
below_at n [] k h b = absurd (omega arith)
below_at n (q ∷ ps) zero h b = b.0
below_at n (q ∷ ps) (suc k) h b = below_at n ps k (omega arith) b.1

some_at : (ps : List Part) (k : ℕ) → k < length ps → AllSome ps → 0 < length (from_of ps k)
some_at [] k h b = absurd (omega arith)
some_at (q ∷ ps) zero h b = b.0
some_at (q ∷ ps) (suc k) h b = some_at ps k (omega arith) b.1

open_at : (ps : List Part) (k i : ℕ) → k < length ps → counts_for i (part_at ps k) ≤ open_parts i ps
open_at [] k i h = absurd (omega arith)
open_at (q ∷ ps) zero i h = omega arith
open_at (q ∷ ps) (suc k) i h = let j = open_at ps k i (omega arith) in omega arith

record Item (n : ℕ) (xs : List ℕ) : Type 0 where
  at : ℕ
  below : at < n
  counts : 1 ≤ times at xs

first_item : (n : ℕ) (xs : List ℕ) → Below n xs → 0 < length xs → Item n xs
first_item n [] b h = absurd (omega arith)
first_item n (x ∷ xs) b h = record { at = x; below = b.0; counts = (let o : one_if (eqb x x) ≡ 1 = ap one_if (eq-eqb x x refl) in omega arith) }

open_split : (b : Bool) → (b ≡ true) ⊎ (b ≡ false)
open_split true = inl refl
open_split false = inr refl

-- once all items are answered, all parts are settled
pub all_settled : (ps : List Part) (cs : List Count) (f l n : ℕ) → Marked ps cs f l n → unanswered (answered_by cs) ≡ 0 → AllSettled ps
all_settled ps cs f l n m e = λ q h. elim (open_split (is_open (outcome (tree_of ps q)))) [
  | inl o ↦ (let i = first_item (length (lefts cs)) (from_of ps q) (below_at (length (lefts cs)) ps q h m.counted.below) (some_at ps q h m.some) in
      let a = open_at ps q i.at h in
      let g : counts_for i.at (part_at ps q) ≡ times i.at (from_of ps q) = ap {B = ℕ} (λ v. cond v (times i.at (from_of ps q)) 0) o in
      let z : eqb (get_or (lefts cs) i.at 0) 0 ≡ true = sym (get_or-map (λ n. eqb n 0) (lefts cs) i.at 0 true i.below) ∙ none_unanswered (answered_by cs) i.at e (let k = length-map (lefts cs) (λ n. eqb n 0) in let b = i.below in omega arith) in
      let zero : get_or (lefts cs) i.at 0 ≡ 0 = eqb-true (get_or (lefts cs) i.at 0) 0 z in
      let w = i.counts in
      elim (m.counted.exact i.at i.below) [ inl s ↦ absurd (omega arith) | inr s ↦ (let t = s.1 in absurd (omega arith)) ])
  | inr o ↦ o
]

-- of an item at most its answer is left exactly where all its parts are settled
pub settled_count : (ps : List Part) (cs : List Count) (f l n i : ℕ) → Marked ps cs f l n → i < length (lefts cs) → get_or (lefts cs) i 0 ≤ 1 → eqb (open_parts i ps) 0 ≡ true
settled_count ps cs f l n i m h w = elim (m.counted.exact i h) [ inl s ↦ eq-eqb (open_parts i ps) 0 (omega arith) | inr s ↦ eq-eqb (open_parts i ps) 0 s.1 ]

pub open_count : (ps : List Part) (cs : List Count) (f l n i : ℕ) → Marked ps cs f l n → i < length (lefts cs) → 1 < get_or (lefts cs) i 0 → eqb (open_parts i ps) 0 ≡ false
open_count ps cs f l n i m h w = elim (m.counted.exact i h) [ inl s ↦ grind (arith, nat_tests) | inr s ↦ (let a = s.0 in absurd (omega arith)) ]
