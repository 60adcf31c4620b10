-- A pool whose places are all free.
use Rattle.std.proofs.Common.{◌≡◌, ℕ, zero, suc, ◌+◌, ◌<◌, ◌^◌, cond, ltb, List, [], ◌∷◌, Option, None, length, get_or, replicate, arith, refl, sym, ap, ◌∙◌}
use Rattle.std.proofs.lemmas.Bool.Decides.{nat_tests}
use Rattle.std.proofs.lemmas.List.{length-replicate, get_or-replicate}
use Rattle.bt_chains.specs.declared.Chain.{Chain}
use Rattle.bt_chains.specs.declared.Entry.{Entry}
use Rattle.bt_chains.specs.Links.{walk, places, held, no_place, IsLinked}
use Rattle.bt_chains.specs.Places.{times, times_all, occupied, numbers_from}

abbrev pub empty_chain : Chain
empty_chain = record { first = no_place; last = no_place; len = 0 }

walk_up : (k i : ℕ) (ns : List ℕ) → ((j : ℕ) → j < i + k → get_or ns j 0 ≡ j + 1) → walk k ns i ≡ numbers_from k i
walk_up zero i ns e = refl
walk_up (suc k) i ns e =
    ap (λ n. i ∷ walk k ns n) (e i (omega arith)) ∙ ap (λ ys. i ∷ ys) (walk_up k (i + 1) ns (λ j h. e j (omega arith)))

times_up : (x k i : ℕ) → times x (numbers_from k i) ≡ cond (ltb x i) 0 (cond (ltb x (i + k)) 1 0)
times_up x zero i = grind (arith, nat_tests)
times_up x (suc k) i = let j = times_up x k (i + 1) in grind (arith, nat_tests)

pub empty_places : (m : ℕ) (ns : List ℕ) → places ns (replicate m empty_chain) ≡ replicate m []
empty_places zero ns = refl
empty_places (suc m) ns = ap (λ yss. [] ∷ yss) (empty_places m ns)

no_times : (m x : ℕ) → times_all x (replicate m []) ≡ 0
no_times zero x = refl
no_times (suc m) x = let i = no_times m x in omega arith

none_held : (m : ℕ) → held (replicate m empty_chain) ≡ 0
none_held zero = refl
none_held (suc m) = let i = none_held m in omega arith

vacated : (n x : ℕ) → get_or (replicate {A = Option Entry} n None) x None ≡ None
vacated zero x = refl
vacated (suc n) zero = refl
vacated (suc n) (suc x) = vacated n x

nth_empty : (m k : ℕ) (d : Chain) → k < length (replicate m empty_chain) → get_or (replicate m empty_chain) k d ≡ empty_chain
nth_empty m k d h = get_or-replicate m k empty_chain d (rw (length-replicate m empty_chain) at h)

pub record IsFresh (n m : ℕ) (ns : List ℕ) : Type 0 where
  pub linked : IsLinked (replicate n None) ns (replicate m empty_chain) 0 n
  pub free : walk n ns 0 ≡ numbers_from n 0

pub fresh : (n m : ℕ) (ns : List ℕ) → n < 2 ^ 32 → length ns ≡ n → ((j : ℕ) → j < n → get_or ns j 0 ≡ j + 1) → IsFresh n m ns
fresh n m ns s l e =
    let w : walk n ns 0 ≡ numbers_from n 0 = walk_up n 0 ns (λ j h. e j (omega arith)) in
    record {
      free = w;
      linked = record {
        chained = λ x. ap (times_all x) (empty_places m ns) ∙ no_times m x ∙ sym (ap occupied (vacated n x));
        vacant = λ x. let a = ap (times x) w in let b = times_up x n 0 in let c = ap occupied (vacated n x) in let e = length-replicate {A = Option Entry} n None in grind (arith, nat_tests);
        counted = let a = none_held m in let b = length-replicate {A = Option Entry} n None in omega arith;
        ends = λ k d h. rw (nth_empty m k d h) (record { past = refl; last = refl });
        linked = let b = length-replicate {A = Option Entry} n None in omega arith;
        small = let b = length-replicate {A = Option Entry} n None in omega arith;
      };
    }
