-- Counts per item.
use Rattle.std.proofs.Common.{◌≡◌, ℕ, zero, suc, ◌+◌, ◌-◌, ◌<◌, ◌≤◌, Bool, true, false, cond, eqb, not, List, [], ◌∷◌, length, map, get_or, set, ◌⊎◌, inl, inr, arith, refl, sym, ap, ◌∙◌, eq-eqb, Some, None, get_or-set_same, get_or-set_other, length-set}
use Rattle.std.proofs.lemmas.Bool.Decides.{eqb_tells, leb_tells, nat_tests}
use Rattle.bt_demand.specs.Tree.{Tree}
use Rattle.bt_demand.specs.Outcomes.{outcome}
use Rattle.bt_demand.specs.Holding.{one_if, is_open}
use Rattle.bt_demand.specs.Parts.{Part}
use Rattle.bt_ledger.specs.Open.{Open, part_at, tree_of, from_of, with_tree}
use Rattle.std.proofs.lemmas.List.{get_or-map, length-map}
use Rattle.std.proofs.Common.{drop, drop-cons}
use Rattle.bt_ledger.specs.Due.{times, counts_for, open_parts, IsDue, LeastDue, Below, AllBelow}
use Rattle.bt_ledger.specs.Counted.{lowered, Ready, Waits, Lined, Counted}

-- what is ready from an index on
pub ready_at : (xs cs : List ℕ) (j : ℕ) → j < length xs → Ready (drop j xs) cs → (get_or xs j 0 < length cs) × (2 ≤ get_or cs (get_or xs j 0) 0) × Ready (drop (suc j) xs) (set cs (get_or xs j 0) (get_or cs (get_or xs j 0) 0 - 1))
ready_at xs cs j h r = rw (drop-cons xs j 0 h) at r

pub lowered_at : (xs cs : List ℕ) (j : ℕ) → j < length xs → lowered (drop (suc j) xs) (set cs (get_or xs j 0) (get_or cs (get_or xs j 0) 0 - 1)) ≡ lowered (drop j xs) cs
lowered_at xs cs j h = rw (drop-cons xs j 0 h) refl

pub lowered-length : (xs cs : List ℕ) → length (lowered xs cs) ≡ length cs
lowered-length [] cs = refl
lowered-length (x ∷ xs) cs = lowered-length xs (set cs x (get_or cs x 0 - 1)) ∙ length-set cs x (get_or cs x 0 - 1)

pub ready_below : (xs cs : List ℕ) → Ready xs cs → Below (length cs) xs
ready_below [] cs r = tt
ready_below (x ∷ xs) cs r = (r.0, rw (length-set cs x (get_or cs x 0 - 1)) at (ready_below xs (set cs x (get_or cs x 0 - 1)) r.2))

-- each place is lower by how often it stands in the list
pub lowered-gives : (xs cs : List ℕ) (i : ℕ) → Ready xs cs → get_or (lowered xs cs) i 0 + times i xs ≡ get_or cs i 0
lowered-gives [] cs i r = omega arith
lowered-gives (x ∷ xs) cs i r =
    let k = lowered-gives xs (set cs x (get_or cs x 0 - 1)) i r.2 in
    elim (eqb_tells i x) [
      | inl s ↦ (let g : get_or (set cs x (get_or cs x 0 - 1)) i 0 ≡ get_or cs x 0 - 1 = ap (λ j. get_or (set cs x (get_or cs x 0 - 1)) j 0) s.1 ∙ get_or-set_same cs x (get_or cs x 0 - 1) 0 r.0 in
          let v : get_or cs i 0 ≡ get_or cs x 0 = ap (λ j. get_or cs j 0) s.1 in
          let o : one_if (eqb i x) ≡ 1 = ap one_if s.0 in
          omega (arith, r.1))
      | inr s ↦ (let g : get_or (set cs x (get_or cs x 0 - 1)) i 0 ≡ get_or cs i 0 = get_or-set_other cs x i (get_or cs x 0 - 1) 0 s.1 in
          let o : one_if (eqb i x) ≡ 0 = ap one_if s.0 in
          omega arith)
    ]

-- a list is ready where each item has a count above how often it stands there
pub ready_by : (xs cs : List ℕ) → Below (length cs) xs → ((i : ℕ) → 0 < times i xs → times i xs < get_or cs i 0) → Ready xs cs
ready_by [] cs b h = tt
ready_by (x ∷ xs) cs b h =
    let o : one_if (eqb x x) ≡ 1 = ap one_if (eq-eqb x x refl) in
    let two : 2 ≤ get_or cs x 0 = (let k = h x (omega arith) in omega arith) in (
      b.0,
      two,
      ready_by xs (set cs x (get_or cs x 0 - 1)) (rw (length-set cs x (get_or cs x 0 - 1)) b.1) (λ i w.
          elim (eqb_tells i x) [
            | inl s ↦ (let g : get_or (set cs x (get_or cs x 0 - 1)) i 0 ≡ get_or cs x 0 - 1 = ap (λ j. get_or (set cs x (get_or cs x 0 - 1)) j 0) s.1 ∙ get_or-set_same cs x (get_or cs x 0 - 1) 0 b.0 in
                let k = h x (omega arith) in
                let t : times i xs ≡ times x xs = ap (λ j. times j xs) s.1 in
                omega arith)
            | inr s ↦ (let g : get_or (set cs x (get_or cs x 0 - 1)) i 0 ≡ get_or cs i 0 = get_or-set_other cs x i (get_or cs x 0 - 1) 0 s.1 in
                let z : one_if (eqb i x) ≡ 0 = ap one_if s.0 in
                let k = h i (omega arith) in
                omega arith)
          ]),
    )

-- one part is replaced
pub open_parts-set : (ps : List Part) (k i : ℕ) (p : Part) → k < length ps → open_parts i (set ps k p) + counts_for i (part_at ps k) ≡ open_parts i ps + counts_for i p
open_parts-set [] k i p h = absurd (omega arith)
open_parts-set (q ∷ ps) zero i p h = omega arith
open_parts-set (q ∷ ps) (suc k) i p h = let j = open_parts-set ps k i p (omega arith) in omega arith

pub below-at : (n : ℕ) (ps : List Part) (k : ℕ) → k < length ps → AllBelow n ps → Below n (from_of ps k)
below-at n [] k h b = absurd (omega arith)
below-at n (q ∷ ps) zero h b = b.0
below-at n (q ∷ ps) (suc k) h b = below-at n ps k (omega arith) b.1

below-set : (n : ℕ) (ps : List Part) (k : ℕ) (p : Part) → Below n p.from → AllBelow n ps → AllBelow n (set ps k p)
below-set n [] k p b a = tt
below-set n (q ∷ ps) zero p b a = (b, a.1)
below-set n (q ∷ ps) (suc k) p b a = (a.0, below-set n ps k p b a.1)

open_in_all : (ps : List Part) (k i : ℕ) → k < length ps → counts_for i (part_at ps k) ≤ open_parts i ps
open_in_all [] k i h = absurd (omega arith)
open_in_all (q ∷ ps) zero i h = omega arith
open_in_all (q ∷ ps) (suc k) i h = let j = open_in_all ps k i (omega arith) in omega arith

-- a part that is not settled stays so, or a settled one does
pub counted_same : (ps : List Part) (cs : List ℕ) (k : ℕ) (t : Tree) → Counted ps cs → k < length ps → is_open (outcome t) ≡ is_open (outcome (tree_of ps k)) → Counted (with_tree ps k t) cs
counted_same ps cs k t r h e = record {
  exact = λ i w.
      let a = open_parts-set ps k i (record { from = from_of ps k; demand = t }) h in
      let b : cond (is_open (outcome t)) (times i (from_of ps k)) 0 ≡ cond (is_open (outcome (tree_of ps k))) (times i (from_of ps k)) 0 = ap {B = ℕ} (λ v. cond v (times i (from_of ps k)) 0) e in
      elim (r.exact i w) [ inl s ↦ inl (omega arith) | inr s ↦ inr (s.0, omega (arith, s.1)) ];
  below = below-set (length cs) ps k (record { from = from_of ps k; demand = t }) (below-at (length cs) ps k h r.below) r.below;
}

-- where it is settled, its items are ready
below-times : (n : ℕ) (xs : List ℕ) (i : ℕ) → Below n xs → n ≤ i → 0 < times i xs → ⊥
below-times n [] i b h w = omega arith
below-times n (x ∷ xs) i b h w =
    let s : eqb i x ≡ false = (let l = b.0 in grind (arith, nat_tests)) in
    let z : one_if (eqb i x) ≡ 0 = ap one_if s in
    below-times n xs i b.1 h (omega arith)

ltb_tells : (a b : ℕ) → (a < b) ⊎ (b ≤ a)
ltb_tells a b = elim (leb_tells b a) [ inl h ↦ inr h.1 | inr h ↦ inl h.1 ]

pub counted_ready : (ps : List Part) (cs : List ℕ) (k : ℕ) → Counted ps cs → k < length ps → is_open (outcome (tree_of ps k)) ≡ true → Ready (from_of ps k) cs
counted_ready ps cs k r h e = ready_by (from_of ps k) cs (below-at (length cs) ps k h r.below) (λ i w.
    let a = open_in_all ps k i h in
    let b : counts_for i (part_at ps k) ≡ times i (from_of ps k) = ap {B = ℕ} (λ v. cond v (times i (from_of ps k)) 0) e in
    elim (ltb_tells i (length cs)) [
      | inl u ↦ elim (r.exact i u) [ inl s ↦ omega arith | inr s ↦ absurd (omega (arith, s.1)) ]
      | inr u ↦ absurd (below-times (length cs) (from_of ps k) i (below-at (length cs) ps k h r.below) u w)
    ])

pub counted_settled : (ps : List Part) (cs : List ℕ) (k : ℕ) (t : Tree) → Counted ps cs → k < length ps → is_open (outcome (tree_of ps k)) ≡ true → is_open (outcome t) ≡ false
    → Counted (with_tree ps k t) (lowered (from_of ps k) cs)
counted_settled ps cs k t r h was now =
    let len = lowered-length (from_of ps k) cs in
    record {
      exact = λ i w.
          let a = open_parts-set ps k i (record { from = from_of ps k; demand = t }) h in
          let o : counts_for i (part_at ps k) ≡ times i (from_of ps k) = ap {B = ℕ} (λ v. cond v (times i (from_of ps k)) 0) was in
          let z : cond (is_open (outcome t)) (times i (from_of ps k)) 0 ≡ 0 = ap {B = ℕ} (λ v. cond v (times i (from_of ps k)) 0) now in
          let g = lowered-gives (from_of ps k) cs i (counted_ready ps cs k r h was) in
          elim (r.exact i (omega arith)) [ inl s ↦ inl (omega arith) | inr s ↦ inr (omega (arith, s.0), omega (arith, s.1)) ];
      below = rw len (below-set (length cs) ps k (record { from = from_of ps k; demand = t }) (below-at (length cs) ps k h r.below) r.below);
    }

-- of an item that is due its answer alone is left, and only of such an item
pub due_waits : (o : Open) (cs : List ℕ) (i : ℕ) → Counted o.parts cs → o.answered ≡ map (λ n. eqb n 0) cs → IsDue o i → Waits cs i
due_waits o cs i r e u =
    let w : i < length cs = omega (arith, u.0, ap length e, length-map cs (λ n. eqb n 0)) in
    let a : eqb (get_or cs i 0) 0 ≡ false = sym (get_or-map (λ n. eqb n 0) cs i 0 true w) ∙ ap (λ (xs : List Bool). get_or xs i true) (sym e) ∙ u.1 in
    elim (r.exact i w) [
      | inl s ↦ omega (arith, u.2)
      | inr s ↦ (let f : eqb (get_or cs i 0) 0 ≡ true = eq-eqb (get_or cs i 0) 0 s.0 in cc)
    ]

pub waits_due : (o : Open) (cs : List ℕ) (i : ℕ) → Counted o.parts cs → o.answered ≡ map (λ n. eqb n 0) cs → Waits cs i → i < length cs → IsDue o i
waits_due o cs i r e one w =
    let a : eqb (get_or cs i 0) 0 ≡ false = grind (arith, nat_tests) in (
      omega (arith, ap length e, length-map cs (λ n. eqb n 0)),
      ap (λ (xs : List Bool). get_or xs i true) e ∙ get_or-map (λ n. eqb n 0) cs i 0 true w ∙ a,
      elim (r.exact i w) [ inl s ↦ omega arith | inr s ↦ s.1 ],
    )

-- the first of the line is the least item that is due
pub first_due : (o : Open) (cs ns : List ℕ) (f l : ℕ) → Counted o.parts cs → o.answered ≡ map (λ n. eqb n 0) cs → Lined (Waits cs) ns f l → f < length ns → f < length cs → LeastDue o (Some f)
first_due o cs ns f l r e h w v = (waits_due o cs f r e (h.found w) v, λ j b u. h.least j b (due_waits o cs j r e u))

pub none_due : (o : Open) (cs ns : List ℕ) (f l : ℕ) → Counted o.parts cs → o.answered ≡ map (λ n. eqb n 0) cs → Lined (Waits cs) ns f l → length ns ≤ f → LeastDue o None
none_due o cs ns f l r e h w = λ i u. let d = due_waits o cs i r e u in let b = h.within i d in h.least i (omega arith) d

-- only the first of the line is the least item that is due
pub due_first : (o : Open) (cs ns : List ℕ) (f l i : ℕ) → Counted o.parts cs → o.answered ≡ map (λ n. eqb n 0) cs → Lined (Waits cs) ns f l → length ns ≡ length cs → LeastDue o (Some i) → (f ≡ i) × (i < length cs)
due_first o cs ns f l i r e h n u =
    let d = due_waits o cs i r e u.0 in
    let b = h.within i d in
    let upper : f ≤ i = elim (ltb_tells i f) [ inl v ↦ absurd (h.least i v d) | inr v ↦ v ] in
    let lower : i ≤ f = elim (ltb_tells f i) [ inl v ↦ absurd (u.1 f v (waits_due o cs f r e (h.found (omega arith)) (omega arith))) | inr v ↦ v ] in
    (omega arith, omega arith)

-- an item that is due is answered
pub counted_answered : (o : Open) (cs : List ℕ) (i : ℕ) → Counted o.parts cs → o.answered ≡ map (λ n. eqb n 0) cs → LeastDue o (Some i) → Counted o.parts (set cs i 0)
counted_answered o cs i r e u =
    let w : i < length cs = omega (arith, u.0.0, ap length e, length-map cs (λ n. eqb n 0)) in
    record {
      exact = λ j v. elim (eqb_tells j i) [
        | inl s ↦ inr (ap (λ k. get_or (set cs i 0) k 0) s.1 ∙ get_or-set_same cs i 0 0 w, ap (λ k. open_parts k o.parts) s.1 ∙ u.0.2)
        | inr s ↦ rw (get_or-set_other cs i j 0 0 s.1) (r.exact j (omega (arith, length-set cs i 0)))
      ];
      below = rw (length-set cs i 0) r.below;
    }

pub not_true : (b : Bool) → not b ≡ true → b ≡ false
not_true true e = cc
not_true false e = refl

pub not_false : (b : Bool) → not b ≡ false → b ≡ true
not_false true e = refl
not_false false e = cc

pub zero_set : (cs : List ℕ) (k : ℕ) → 2 ≤ get_or cs k 0 → map (λ n. eqb n 0) (set cs k (get_or cs k 0 - 1)) ≡ map (λ n. eqb n 0) cs
zero_set [] k h = refl
zero_set (c ∷ cs) zero h =
    let a : eqb (c - 1) 0 ≡ false = grind (arith, nat_tests) in
    let b : eqb c 0 ≡ false = grind (arith, nat_tests) in
    ap (λ (x : Bool). x ∷ map (λ n. eqb n 0) cs) (a ∙ sym b)
zero_set (c ∷ cs) (suc k) h = ap (λ xs. eqb c 0 ∷ xs) (zero_set cs k h)

-- no item is answered by that
pub answered_lowered : (xs cs : List ℕ) → Ready xs cs → map (λ n. eqb n 0) (lowered xs cs) ≡ map (λ n. eqb n 0) cs
answered_lowered [] cs r = refl
answered_lowered (x ∷ xs) cs r = answered_lowered xs (set cs x (get_or cs x 0 - 1)) r.2 ∙ zero_set cs x r.1

pub get_or-in : (xs : List ℕ) (k a b : ℕ) → k < length xs → get_or xs k a ≡ get_or xs k b
get_or-in [] k a b h = absurd (omega arith)
get_or-in (x ∷ xs) zero a b h = refl
get_or-in (x ∷ xs) (suc k) a b h = get_or-in xs k a b (omega arith)
