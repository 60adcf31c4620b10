-- A new ledger.
use Rattle.std.proofs.Common.{◌≡◌, ℕ, zero, suc, ◌+◌, ◌<◌, ◌≤◌, ◌^◌, true, false, eqb, List, [], ◌∷◌, ◌++◌, length, map, get_or, arith, refl, sym, ap, ◌∙◌, eq-eqb, Option}
use Rattle.std.proofs.lemmas.Bool.Decides.{nat_tests}
use Rattle.bt_demand.specs.Tree.{Tree, drop as nothing}
use Rattle.bt_demand.specs.Holding.{one_if, every_hold, waiting, waits_at, holds_at, booked_in}
use Rattle.bt_chains.specs.declared.Entry.{Entry}
use Rattle.bt_ledger.specs.Open.{tree_of}
use Rattle.bt_ledger.specs.Ledger.{parts_in, is_free, part_tree, chain_at, taken_slots, over_slots, held_in, sizes, entries_of}
use Rattle.bt_ledger.specs.declared.slot.Slot.{Slot}
use Rattle.bt_ledger.specs.declared.slot.Slot.TheVariants.{Free}
use Rattle.bt_ledger.specs.Book.{Booked}
use Rattle.std.proofs.Common.{replicate}
use Rattle.bt_chains.specs.Places.{Places, total_length, numbers_from, IsSound}
use Rattle.bt_demand.specs.declared.routes.HoldPolicy.{HoldPolicy}
use Rattle.bt_ledger.specs.Due.{times}
use Rattle.bt_ledger.specs.Kept.{Kept, empty_ledger, no_tally, taken_slot}
use Rattle.bt_ledger.specs.Pooled.{ledger_of, listed}
use Rattle.bt_ledger.specs.declared.tally.Tally.{Tally}

pub numbers_more : (k i : ℕ) → numbers_from (suc k) i ≡ numbers_from k i ++ (i + k) ∷ []
numbers_more zero i = let e : i ≡ i + 0 = omega arith in ap (λ n. n ∷ []) e
numbers_more (suc k) i = let e : (i + 1) + k ≡ i + suc k = omega arith in ap (λ xs. i ∷ xs) (numbers_more k (i + 1) ∙ ap (λ n. numbers_from k (i + 1) ++ n ∷ []) e)

pub slots_more : (k : ℕ) → replicate {A = Slot} (suc k) Free ≡ replicate k Free ++ Free ∷ []
slots_more zero = refl
slots_more (suc k) = ap (λ (xs : List Slot). Free ∷ xs) (slots_more k)

pub numbers_length : (k i : ℕ) → length (numbers_from k i) ≡ k
numbers_length zero i = refl
numbers_length (suc k) i = ap suc (numbers_length k (i + 1))

pub slots_length : (k : ℕ) → length (replicate {A = Slot} k Free) ≡ k
slots_length zero = refl
slots_length (suc k) = ap suc (slots_length k)

free_at : (k s : ℕ) → get_or (replicate {A = Slot} k Free) s Free ≡ Free
free_at zero s = refl
free_at (suc k) zero = refl
free_at (suc k) (suc s) = free_at k s

below_none : (x k i : ℕ) → x < i → times x (numbers_from k i) ≡ 0
below_none x zero i h = refl
below_none x (suc k) i h =
    let a : eqb x i ≡ false = grind (arith, nat_tests) in
    let o : one_if (eqb x i) ≡ 0 = ap one_if a in
    let b = below_none x k (i + 1) (omega arith) in omega arith

each_free : (k i x : ℕ) → times (i + x) (numbers_from k i) ≡ one_if (is_free (get_or (replicate {A = Slot} k Free) x taken_slot))
each_free zero i x = refl
each_free (suc k) i zero =
    let e : i + 0 ≡ i = omega arith in
    let a : eqb (i + 0) i ≡ true = eq-eqb (i + 0) i e in
    let o : one_if (eqb (i + 0) i) ≡ 1 = ap one_if a in
    let b = below_none (i + 0) k (i + 1) (omega arith) in omega arith
each_free (suc k) i (suc x) =
    let a : eqb (i + suc x) i ≡ false = grind (arith, nat_tests) in
    let o : one_if (eqb (i + suc x) i) ≡ 0 = ap one_if a in
    let e : i + suc x ≡ (i + 1) + x = omega arith in
    let b = ap (λ n. times n (numbers_from k (i + 1))) e ∙ each_free k (i + 1) x in omega arith

none_taken : (k : ℕ) → taken_slots (replicate k Free) ≡ 0
none_taken zero = refl
none_taken (suc k) = let a = none_taken k in omega arith

none_over : (f : Tree → ℕ) (k : ℕ) → over_slots f (replicate k Free) ≡ 0
none_over f zero = refl
none_over f (suc k) = let a = none_over f k in omega arith

no_chains : (es : List (Option Entry)) (cs : List (List ℕ)) → total_length cs ≡ 0 → map (listed es) cs ≡ replicate (length cs) []
no_chains es [] h = refl
no_chains es ([] ∷ cs) h = ap (λ (xs : List (List Entry)). [] ∷ xs) (no_chains es cs (omega arith))
no_chains es ((x ∷ c) ∷ cs) h = absurd (omega arith)

empty_at : (k n : ℕ) → get_or (replicate {A = List Entry} k []) n [] ≡ []
empty_at zero n = refl
empty_at (suc k) zero = refl
empty_at (suc k) (suc n) = empty_at k n

none_held : (k : ℕ) → held_in (replicate k []) ≡ 0
none_held zero = refl
none_held (suc k) = let a = none_held k in omega arith

empties_length : (k : ℕ) → length (replicate {A = List Entry} k []) ≡ k
empties_length zero = refl
empties_length (suc k) = ap suc (empties_length k)

tallies_length : (k : ℕ) → length (replicate {A = Tally} k no_tally) ≡ k
tallies_length zero = refl
tallies_length (suc k) = ap suc (tallies_length k)

tally_at : (k n : ℕ) → get_or (replicate {A = Tally} k no_tally) n no_tally ≡ no_tally
tally_at zero n = refl
tally_at (suc k) zero = refl
tally_at (suc k) (suc n) = tally_at k n

pub empty_is : (w : ℕ) (ps : List HoldPolicy) (p : Places) → total_length p.chains ≡ 0 → length p.chains ≡ length ps → ledger_of (replicate w Free) ps p ≡ empty_ledger w ps (length p.entries)
empty_is w ps p z e = ap (λ (cs : List (List Entry)). record { slots = replicate w Free; policies = ps; entries = length p.entries; chains = cs }) (no_chains p.entries p.chains z ∙ ap (λ n. replicate n []) e)

empty_book : (w n : ℕ) (ps : List HoldPolicy) → Booked (empty_ledger w ps n)
empty_book w n ps =
    let tree : (s p : ℕ) → part_tree (empty_ledger w ps n) s p ≡ nothing = λ s p. ap (λ (x : Slot). tree_of (parts_in x) p) (free_at w s) in
    let chain : (k : ℕ) → chain_at (empty_ledger w ps n) k ≡ [] = λ k. empty_at (length ps) k in
    record {
      own = λ k s p. ap (entries_of s p) (chain k) ∙ sym (ap (waits_at k) (tree s p));
      filled = λ k. rw (chain k) tt;
      total = none_held (length ps) ∙ sym (none_over waiting w);
      bound = (let a = none_over booked_in w in omega arith);
      tidy = λ s p. rw (tree s p) tt;
      single = λ s p k. (let a = ap (holds_at k) (tree s p) in omega arith);
      few = λ s p. (let a = ap every_hold (tree s p) in omega arith);
      known = λ s p k h. ap (holds_at k) (tree s p);
      chains = empties_length (length ps);
    }

pub kept_empty : (w n : ℕ) (ps : List HoldPolicy) (cap : ℕ) → w ≤ cap → w < 2 ^ 32 → n < 2 ^ 32 → Kept (empty_ledger w ps n) 0 (numbers_from w 0) (replicate (length ps) no_tally) cap
kept_empty w n ps cap h small few =
    let l = slots_length w in
    let chain : (k : ℕ) → chain_at (empty_ledger w ps n) k ≡ [] = λ k. empty_at (length ps) k in
    record {
      book = empty_book w n ps;
      number = sym (none_over booked_in w);
      vacancy = record { each = λ x. (let e : x ≡ 0 + x = omega arith in ap (λ n. times n (numbers_from w 0)) e ∙ each_free w 0 x) };
      counted = (let a = numbers_length w 0 in let b = none_taken w in omega arith);
      tallied = record {
        each = tallies_length (length ps) ∙ sym (empties_length (length ps));
        bytes = λ k. ap (λ (t : Tally). t.bytes) (tally_at (length ps) k) ∙ sym (ap sizes (chain k));
        wide = λ k. rw (chain k) tt;
        ends = λ k x. absurd (x (chain k));
      };
      room = omega arith;
      small = (omega arith, few);
    }

-- a pool whose chains are empty has no more places than are free
pub places_free : (p : Places) → IsSound p → total_length p.chains ≡ 0 → length p.free ≡ length p.entries
places_free p s e = let a = s.counted in omega arith
