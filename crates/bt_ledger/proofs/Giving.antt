-- Parts that a transaction is given: nothing of them was tried, so nothing of them waits.
use Rattle.std.proofs.Common.{◌≡◌, ℕ, zero, suc, ◌+◌, ◌<◌, ◌≤◌, Bool, true, false, eqb, ◌&&◌, ◌||◌, List, [], ◌∷◌, ◌++◌, length, inl, inr, arith, refl, sym, ap, ◌∙◌, eq-eqb}
use Rattle.std.proofs.lemmas.Bool.Decides.{eqb_tells, nat_tests}
use Rattle.bt_demand.specs.Tree.{Tree, Trees, leaf, drop as nothing, reject, all, first, hold, none, more}
use Rattle.bt_demand.specs.Find.{begun, some_begun}
use Rattle.bt_demand.specs.Holding.{one_if, is_waiting, count_holds_in, every_hold, waiting, waits_at, holds_at, booked_in, Tidy, TidyIn, TidyAfter, OneEach}
use Rattle.bt_demand.specs.declared.demand.Stage.{Stage}
use Rattle.bt_demand.specs.declared.demand.Stage.TheVariants.{Untried as Idle, Waiting, Released}
use Rattle.bt_demand.specs.Parts.{Part}
use Rattle.bt_ledger.specs.Open.{tree_of}
use Rattle.bt_ledger.specs.Ledger.{Ledger}
use Rattle.std.specs.List.{All, AllByRecursion}
use Rattle.bt_demand.specs.WellFormed.{nodes, nodes_in, IsFlat, AreFlat, WellFormed}
use Rattle.bt_ledger.specs.Calls.{Fits}
use Rattle.bt_ledger.specs.Due.{Below, AllBelow, AllSome, AllRise, times}
use Rattle.bt_steps.proofs.BookLaws.{fresh_waits, fresh_waits_all}
use Rattle.bt_ledger.proofs.BookSlots.{Quiet, Fitting}
use Rattle.bt_steps.proofs.HoldLaws.{every_is_holds, count_le}
use Rattle.bt_ledger.proofs.Raising.{rises_once}

below_by : (n : ℕ) (xs : List ℕ) → AllByRecursion (λ i. i < n) xs → Below n xs
below_by n [] h = tt
below_by n (x ∷ xs) h = (h.0, below_by n xs h.1)

pub fits_below : (k n : ℕ) (ps : List Part) → Fits k n ps → AllBelow n ps
fits_below k n [] h = tt
fits_below k n (p ∷ ps) h = (below_by n p.from h.0.1.known, fits_below k n ps h.1)

pub fits_some : (k n : ℕ) (ps : List Part) → Fits k n ps → AllSome ps
fits_some k n [] h = tt
fits_some k n (p ∷ ps) h = (h.0.1.some, fits_some k n ps h.1)

pub fits_rise : (k n : ℕ) (ps : List Part) → Fits k n ps → AllRise ps
fits_rise k n [] h = tt
fits_rise k n (p ∷ ps) h = (h.0.1.rising, fits_rise k n ps h.1)

times_join : (n : ℕ) (xs ys : List ℕ) → times n (xs ++ ys) ≡ times n xs + times n ys
times_join n [] ys = omega arith
times_join n (x ∷ xs) ys = let a = times_join n xs ys in omega arith

turned : (m n : ℕ) → eqb m n ≡ eqb n m
turned m n = elim (eqb_tells m n) [
  | inl i ↦ i.0 ∙ sym (eq-eqb n m (sym i.1))
  | inr i ↦ elim (eqb_tells n m) [ inl j ↦ absurd (i.1 (sym j.1)) | inr j ↦ i.0 ∙ sym j.0 ]
]

-- the holds of a number are where it stands among the numbers
mutual
  at_nodes : (n : ℕ) (t : Tree) → holds_at n t ≡ times n (nodes t)
  at_nodes n (leaf l k b x) = refl
  at_nodes n nothing = refl
  at_nodes n (reject w) = refl
  at_nodes n (all ts) = at_nodes_in n ts
  at_nodes n (first ts) = at_nodes_in n ts
  at_nodes n (hold m e z c g) = let a = at_nodes n c in let b = ap one_if (turned m n) in omega arith

  at_nodes_in : (n : ℕ) (ts : Trees) → count_holds_in (λ m _. eqb m n) ts ≡ times n (nodes_in ts)
  at_nodes_in n none = refl
  at_nodes_in n (more t ts) = let a = at_nodes n t in let b = at_nodes_in n ts in let c = times_join n (nodes t) (nodes_in ts) in omega arith

split_empty : (xs ys : List ℕ) → xs ++ ys ≡ [] → (xs ≡ []) × (ys ≡ [])
split_empty [] ys e = (refl, e)
split_empty (x ∷ xs) ys e = cc

-- a tree without holds
mutual
  no_holds : (t : Tree) → nodes t ≡ [] → every_hold t ≡ 0
  no_holds (leaf l k b x) e = refl
  no_holds nothing e = refl
  no_holds (reject w) e = refl
  no_holds (all ts) e = no_holds_in ts e
  no_holds (first ts) e = no_holds_in ts e
  no_holds (hold m i z c g) e = cc

  no_holds_in : (ts : Trees) → nodes_in ts ≡ [] → count_holds_in (λ _ _. true) ts ≡ 0
  no_holds_in none e = refl
  no_holds_in (more t ts) e = let s = split_empty (nodes t) (nodes_in ts) e in let a = no_holds t s.0 in let b = no_holds_in ts s.1 in omega arith

wait_le : (g : Stage) → one_if (is_waiting g) ≤ one_if true
wait_le Idle = omega arith
wait_le Waiting = omega arith
wait_le Released = omega arith

waits_few : (ts : Trees) → count_holds_in (λ _ g. is_waiting g) ts ≤ count_holds_in (λ _ _. true) ts
waits_few ts = count_le (λ _ g. is_waiting g) (λ _ _. true) (all ts) (λ m g. wait_le g)

no_waits : (ts : Trees) → nodes_in ts ≡ [] → count_holds_in (λ _ g. is_waiting g) ts ≡ 0
no_waits ts e = let a = no_holds_in ts e in let b = waits_few ts in omega arith

or_none : (a b : Bool) → (a || b) ≡ false → (a ≡ false) × (b ≡ false)
or_none true b e = cc
or_none false b e = (refl, e)

mutual
  tidy_flat : (t : Tree) → nodes t ≡ [] → Tidy t
  tidy_flat (leaf l k b x) e = tt
  tidy_flat nothing e = tt
  tidy_flat (reject w) e = tt
  tidy_flat (all ts) e = tidy_flat_in ts e
  tidy_flat (first ts) e = tidy_flat_after ts e
  tidy_flat (hold m i z c g) e = cc

  tidy_flat_in : (ts : Trees) → nodes_in ts ≡ [] → TidyIn ts
  tidy_flat_in none e = tt
  tidy_flat_in (more t ts) e = let s = split_empty (nodes t) (nodes_in ts) e in (tidy_flat t s.0, tidy_flat_in ts s.1)

  tidy_flat_after : (ts : Trees) → nodes_in ts ≡ [] → TidyAfter ts
  tidy_flat_after none e = tt
  tidy_flat_after (more t ts) e = let s = split_empty (nodes t) (nodes_in ts) e in (tidy_flat t s.0, (inr (no_waits ts s.1), tidy_flat_after ts s.1))

-- a tree of which nothing was tried is tidy
mutual
  tidy_new : (t : Tree) → IsFlat t → begun t ≡ false → Tidy t
  tidy_new (leaf l k b x) f e = tt
  tidy_new nothing f e = tt
  tidy_new (reject w) f e = tt
  tidy_new (all ts) f e = tidy_new_in ts f e
  tidy_new (first ts) f e = tidy_new_after ts f e
  tidy_new (hold m i z c g) f e = (tidy_flat c f, no_holds c f)

  tidy_new_in : (ts : Trees) → AreFlat ts → some_begun ts ≡ false → TidyIn ts
  tidy_new_in none f e = tt
  tidy_new_in (more t ts) f e = let s = or_none (begun t) (some_begun ts) e in (tidy_new t f.0 s.0, tidy_new_in ts f.1 s.1)

  tidy_new_after : (ts : Trees) → AreFlat ts → some_begun ts ≡ false → TidyAfter ts
  tidy_new_after none f e = tt
  tidy_new_after (more t ts) f e = let s = or_none (begun t) (some_begun ts) e in (tidy_new t f.0 s.0, (inr (fresh_waits_all ts s.1), tidy_new_after ts f.1 s.1))

known_none : (k n : ℕ) (xs : List ℕ) → AllByRecursion (λ x. x < k) xs → k ≤ n → times n xs ≡ 0
known_none k n [] h w = refl
known_none k n (x ∷ xs) h w =
    let a : eqb n x ≡ false = (let b = h.0 in grind (arith, nat_tests)) in
    let o : one_if (eqb n x) ≡ 0 = ap one_if a in
    let r = known_none k n xs h.1 w in omega arith

record NewTree (k : ℕ) (t : Tree) : Type 0 where
  tidy : Tidy t
  single : OneEach t
  few : every_hold t ≤ 64
  known : (n : ℕ) → k ≤ n → holds_at n t ≡ 0
  waits : (n : ℕ) → waits_at n t ≡ 0
  sum : waiting t ≡ 0
  booked : booked_in t ≡ 0

and_le : (a b : Bool) → one_if (a && b) ≤ one_if b
and_le true b = omega arith
and_le false true = omega arith
and_le false false = omega arith

waits_le : (n : ℕ) (t : Tree) → waits_at n t ≤ waiting t
waits_le n t = count_le (λ m g. eqb m n && is_waiting g) (λ _ g. is_waiting g) t (λ m g. and_le (eqb m n) (is_waiting g))

all_known : (k : ℕ) (xs : List ℕ) → All (λ n. n < k) xs → AllByRecursion (λ n. n < k) xs
all_known k [] h = tt
all_known k (x ∷ xs) h = (h 0 x (omega arith), all_known k xs (λ i d v. h (suc i) d (omega arith)))

new_tree : (sinks k : ℕ) (t : Tree) → WellFormed sinks k t → NewTree k t
new_tree sinks k t w = record {
  tidy = tidy_new t w.holds_flat w.untried;
  single = λ n. (let a = at_nodes n t in let b = rises_once n (nodes t) w.holds_rise in omega arith);
  few = (let a = every_is_holds t in let b = w.few_holds in omega arith);
  known = λ n h. at_nodes n t ∙ known_none k n (nodes t) (all_known k (nodes t) w.holds_known) h;
  waits = λ n. (let a = waits_le n t in let b = fresh_waits t w.untried in omega arith);
  sum = fresh_waits t w.untried;
  booked = rw w.untried refl;
}

quiet_waits : (k n : ℕ) (ps : List Part) → Fits k n ps → (m q : ℕ) → waits_at m (tree_of ps q) ≡ 0
quiet_waits k n [] h m q = refl
quiet_waits k n (p ∷ ps) h m zero = (new_tree h.0.0 k p.demand h.0.1.well_formed).waits m
quiet_waits k n (p ∷ ps) h m (suc q) = quiet_waits k n ps h.1 m q

pub fits_quiet : (k n : ℕ) (ps : List Part) → Fits k n ps → Quiet ps
fits_quiet k n [] h = record { waits = λ m p. refl; sum = refl; booked = refl }
fits_quiet k n (p ∷ ps) h =
    let t = new_tree h.0.0 k p.demand h.0.1.well_formed in
    let r = fits_quiet k n ps h.1 in
    record { waits = quiet_waits k n (p ∷ ps) h; sum = (let a = t.sum in let b = r.sum in omega arith); booked = (let a = t.booked in let b = r.booked in omega arith) }

new_at : (k n : ℕ) (ps : List Part) → Fits k n ps → (q : ℕ) → NewTree k (tree_of ps q)
new_at k n [] h q = record { tidy = tt; single = λ m. omega arith; few = omega arith; known = λ m w. refl; waits = λ m. refl; sum = refl; booked = refl }
new_at k n (p ∷ ps) h zero = new_tree h.0.0 k p.demand h.0.1.well_formed
new_at k n (p ∷ ps) h (suc q) = new_at k n ps h.1 q

pub fits_fitting : (l : Ledger) (n : ℕ) (ps : List Part) → Fits (length l.policies) n ps → Fitting l ps
fits_fitting l n ps h = record {
  tidy = λ p. (new_at (length l.policies) n ps h p).tidy;
  single = λ p. (new_at (length l.policies) n ps h p).single;
  few = λ p. (new_at (length l.policies) n ps h p).few;
  known = λ p. (new_at (length l.policies) n ps h p).known;
}
