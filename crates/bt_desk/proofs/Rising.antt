-- The lists that follow from a history rise by transaction and item.
use Rattle.std.proofs.Common.{inl, inr, ℕ, suc, ◌+◌, ◌<◌, ◌≤◌, List, [], ◌∷◌, ◌++◌, map, refl, arith}
use Rattle.std.specs.Prelude.{All, AllPairs, filter}
use Rattle.std.proofs.lemmas.List.Elements.{All-append, All-map, All-cons}
use Rattle.std.proofs.lemmas.List.Kept.{AllPairs-cons, AllPairs-filter}
use Rattle.bt_desk.specs.History.{Numbered, Settled, numbered_items, numbered_from, numbered, was_accepted, was_refused, accepted_records, refused_records, answers, record_of, item_of, answer_with, verdict_of}
use Rattle.bt_desk.specs.Finished.{IsBefore, IsRecordBefore, IsCallBefore, RecordsRise, CallsRise}

module _ {X : Type 0} (R : X → X → Type 0) where
  pairs_head : (x : X) (xs : List X) → AllPairs R (x ∷ xs) → All (R x) xs
  pairs_head x xs p = λ k d h. p 0 (suc k) d (omega arith) (omega arith)

  pairs_tail : (x : X) (xs : List X) → AllPairs R (x ∷ xs) → AllPairs R xs
  pairs_tail x xs p = λ i j d before h. p (suc i) (suc j) d (omega arith) (omega arith)

pub AllPairs-map : {X Y : Type 0} (R : Y → Y → Type 0) (f : X → Y) (xs : List X) → AllPairs (λ a b. R (f a) (f b)) xs → AllPairs R (map f xs)
AllPairs-map R f [] p = λ i j d before h. absurd (omega arith)
AllPairs-map {X} R f (x ∷ xs) p =
    let S : X → X → Type 0 = λ a b. R (f a) (f b) in
    AllPairs-cons R (f x) (map f xs) (All-map (R (f x)) f xs (pairs_head S x xs p)) (AllPairs-map R f xs (pairs_tail S x xs p))

module _ {T : Type 0} where
  -- a numbered thing comes before another
  abbrev Before : Numbered T → Numbered T → Type 0
  Before a b = IsBefore a.txn a.number b.txn b.number

  -- what has a higher number in the transaction comes after
  later_items : (p : Numbered T) (i : ℕ) (xs : List T) → p.number < i → All (Before p) (numbered_items p.txn i xs)
  later_items p i [] h = λ k d within. absurd (omega arith)
  later_items p i (x ∷ xs) h = All-cons (Before p) _ (numbered_items p.txn (i + 1) xs) (inr (refl, h)) (later_items p (i + 1) xs (omega arith))

  items_rise : (n i : ℕ) (xs : List T) (rest : List (Numbered T)) → All (λ (q : Numbered T). n < q.txn) rest → AllPairs Before rest → AllPairs Before (numbered_items n i xs ++ rest)
  items_rise n i [] rest after rise = rise
  items_rise n i (x ∷ xs) rest after rise =
      let p : Numbered T = record { txn = n; number = i; value = x } in
      AllPairs-cons Before p (numbered_items n (i + 1) xs ++ rest)
      (All-append (Before p) (numbered_items n (i + 1) xs) rest (later_items p (i + 1) xs (omega arith)) (λ k d h. inl (after k d h)))
      (items_rise n (i + 1) xs rest after rise)

  items_from : (n m i : ℕ) (xs : List T) → n ≤ m → All (λ (q : Numbered T). n ≤ q.txn) (numbered_items m i xs)
  items_from n m i [] h = λ k d within. absurd (omega arith)
  items_from n m i (x ∷ xs) h = All-cons (λ (q : Numbered T). n ≤ q.txn) _ (numbered_items m (i + 1) xs) h (items_from n m (i + 1) xs h)

  txns_from : (n m : ℕ) (txns : List (List T)) → n ≤ m → All (λ (q : Numbered T). n ≤ q.txn) (numbered_from m txns)
  txns_from n m [] h = λ k d within. absurd (omega arith)
  txns_from n m (t ∷ txns) h = All-append (λ (q : Numbered T). n ≤ q.txn) (numbered_items m 0 t) (numbered_from (m + 1) txns) (items_from n m 0 t h) (txns_from n (m + 1) txns (omega arith))

  txns_rise : (n : ℕ) (txns : List (List T)) → AllPairs Before (numbered_from n txns)
  txns_rise n [] = λ i j d before h. absurd (omega arith)
  txns_rise n (t ∷ txns) = items_rise n 0 t (numbered_from (n + 1) txns) (λ k d h. omega (arith, txns_from (n + 1) (n + 1) txns (omega arith) k d h)) (txns_rise (n + 1) txns)

pub accepted-rise : (h : List (List Settled)) → RecordsRise (accepted_records (numbered h))
accepted-rise h = AllPairs-map IsRecordBefore (λ p. record_of (item_of p)) (filter was_accepted (numbered h)) (AllPairs-filter Before was_accepted (numbered h) (txns_rise 1 h))

pub refused-rise : (h : List (List Settled)) → RecordsRise (refused_records (numbered h))
refused-rise h = AllPairs-map IsRecordBefore (λ p. record_of (item_of p)) (filter was_refused (numbered h)) (AllPairs-filter Before was_refused (numbered h) (txns_rise 1 h))

pub answers-rise : (h : List (List Settled)) → CallsRise (answers (numbered h))
answers-rise h = AllPairs-map IsCallBefore (λ p. answer_with (verdict_of p) p.value.answer_failed (item_of p)) (numbered h) (txns_rise 1 h)
