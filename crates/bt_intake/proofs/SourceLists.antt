-- Lists of sources, of which one changes.
use Rattle.std.proofs.Common.{◌≡◌, ℕ, zero, suc, ◌+◌, ◌≤◌, IsTrue, List, [], ◌∷◌, length, drop, Some, slice_get, slice_set, refl, sym, ap, ◌∙◌, subst, arith, inl, inr}
use Rattle.std.proofs.lemmas.Bool.{and_parts, and_from}
use Rattle.bt_ports.specs.Faults.{Rose}
use Rattle.bt_ports.specs.declared.parts.Named.{Named}
use Rattle.bt_ports.specs.declared.outside.Source as Source
use Rattle.bt_intake.specs.Sources.{all_tell, told, openings, inputs, taken_count, fault_count, SourceKept, SourcesKept, OneRose}

pub drop-get : {A : Type 0} (xs : List A) (i : ℕ) (x : A) → slice_get xs i ≡ Some x → drop i xs ≡ x ∷ drop (i + 1) xs
drop-get [] i x e = cc
drop-get (y ∷ ys) zero x e = cc
drop-get (y ∷ ys) (suc i) x e = let n : suc i + 1 ≡ suc (i + 1) = omega arith in rw n (drop-get ys i x e)

pub drop-slice_set : {A : Type 0} (xs : List A) (i : ℕ) (x y : A) → slice_get xs i ≡ Some x → drop i (slice_set xs i y) ≡ y ∷ drop (i + 1) xs
drop-slice_set [] i x y e = cc
drop-slice_set (z ∷ zs) zero x y e = refl
drop-slice_set (z ∷ zs) (suc i) x y e = let n : suc i + 1 ≡ suc (i + 1) = omega arith in rw n (drop-slice_set zs i x y e)

pub get-slice_set : {A : Type 0} (xs : List A) (i : ℕ) (x y : A) → slice_get xs i ≡ Some x → slice_get (slice_set xs i y) i ≡ Some y
get-slice_set [] i x y e = cc
get-slice_set (z ∷ zs) zero x y e = refl
get-slice_set (z ∷ zs) (suc i) x y e = get-slice_set zs i x y e

some-same : {A : Type 0} {x y : A} → Some x ≡ Some y → x ≡ y
some-same e = cc

module _ {S : Type 0} (g : Source.Ghosts S) where
  pub kept-same : (n : Named S) → SourceKept g n n
  kept-same n = record { path = refl; placed = refl; counted = omega arith; told = λ t. t; same = λ t. refl }

  pub sources_kept-same : (ns : List (Named S)) → SourcesKept g ns ns
  sources_kept-same [] = tt
  sources_kept-same (n ∷ ns) = (kept-same n, sources_kept-same ns)

  pub kept-then : (n m l : Named S) → SourceKept g n m → SourceKept g m l → SourceKept g n l
  kept-then n m l a b = record {
    path = b.path ∙ a.path;
    placed = b.placed ∙ a.placed;
    counted = omega (arith, a.counted, b.counted);
    told = λ t. a.told (b.told t);
    same = λ t. b.same t ∙ a.same (b.told t);
  }

  pub sources_kept-then : (ns ms ls : List (Named S)) → SourcesKept g ns ms → SourcesKept g ms ls → SourcesKept g ns ls
  sources_kept-then [] [] ls a b = b
  sources_kept-then (n ∷ ns) (m ∷ ms) (l ∷ ls) a b = (kept-then n m l a.0 b.0, sources_kept-then ns ms ls a.1 b.1)
  sources_kept-then (n ∷ ns) (m ∷ ms) [] a b = absurd b
  sources_kept-then (n ∷ ns) [] ls a b = absurd a
  sources_kept-then [] (m ∷ ms) ls a b = absurd a

  pub kept-slice_set : (ns : List (Named S)) (i : ℕ) (n m : Named S) → slice_get ns i ≡ Some n → SourceKept g n m → SourcesKept g ns (slice_set ns i m)
  kept-slice_set [] i n m e k = cc
  kept-slice_set (x ∷ xs) zero n m e k = let same : x ≡ n = cc in (subst (λ y. SourceKept g y m) (sym same) k, sources_kept-same xs)
  kept-slice_set (x ∷ xs) (suc i) n m e k = (kept-same x, kept-slice_set xs i n m e k)

  pub kept-length : (ns ms : List (Named S)) → SourcesKept g ns ms → length ms ≡ length ns
  kept-length [] [] k = refl
  kept-length (n ∷ ns) (m ∷ ms) k = ap suc (kept-length ns ms k.1)
  kept-length (n ∷ ns) [] k = absurd k
  kept-length [] (m ∷ ms) k = absurd k

  -- those that tell now told before, and the same bytes
  pub tell-kept : (ns ms : List (Named S)) → SourcesKept g ns ms → IsTrue (all_tell g ms) → IsTrue (all_tell g ns)
  tell-kept [] [] k t = refl
  tell-kept (n ∷ ns) (m ∷ ms) k t =
      let p = and_parts (g.tells m.source) (all_tell g ms) t in
      and_from _ _ (k.0.told p.0) (tell-kept ns ms k.1 p.1)
  tell-kept (n ∷ ns) [] k t = absurd k
  tell-kept [] (m ∷ ms) k t = absurd k

  pub told-kept : (ns ms : List (Named S)) → SourcesKept g ns ms → IsTrue (all_tell g ms) → told g ms ≡ told g ns
  told-kept [] [] k t = refl
  told-kept (n ∷ ns) (m ∷ ms) k t =
      let p = and_parts (g.tells m.source) (all_tell g ms) t in
      let e = k.0.path in
      let f = k.0.same p.0 in
      let r = told-kept ns ms k.1 p.1 in
      cc
  told-kept (n ∷ ns) [] k t = absurd k
  told-kept [] (m ∷ ms) k t = absurd k

  pub openings-kept : (ns ms : List (Named S)) → SourcesKept g ns ms → openings g ms ≡ openings g ns
  openings-kept [] [] k = refl
  openings-kept (n ∷ ns) (m ∷ ms) k = let p = k.0.path in let q = k.0.placed in let r = openings-kept ns ms k.1 in cc
  openings-kept (n ∷ ns) [] k = absurd k
  openings-kept [] (m ∷ ms) k = absurd k

  pub inputs-kept : (ns ms : List (Named S)) → SourcesKept g ns ms → IsTrue (all_tell g ms) → inputs g ms ≡ inputs g ns
  inputs-kept [] [] k t = refl
  inputs-kept (n ∷ ns) (m ∷ ms) k t =
      let p = and_parts (g.tells m.source) (all_tell g ms) t in
      let e = k.0.same p.0 in
      let r = inputs-kept ns ms k.1 p.1 in
      cc
  inputs-kept (n ∷ ns) [] k t = absurd k
  inputs-kept [] (m ∷ ms) k t = absurd k

  pub tell-at : (ns : List (Named S)) (i : ℕ) (n : Named S) → slice_get ns i ≡ Some n → IsTrue (all_tell g ns) → IsTrue (g.tells n.source)
  tell-at [] i n e t = cc
  tell-at (x ∷ xs) zero n e t = let same : x ≡ n = cc in subst (λ y. IsTrue (g.tells y.source)) same (and_parts (g.tells x.source) (all_tell g xs) t).0
  tell-at (x ∷ xs) (suc i) n e t = tell-at xs i n e (and_parts (g.tells x.source) (all_tell g xs) t).1

  -- counts
  pub faults-kept : (ns ms : List (Named S)) → SourcesKept g ns ms → fault_count g ns ≤ fault_count g ms
  faults-kept [] [] k = omega arith
  faults-kept (n ∷ ns) (m ∷ ms) k = omega (arith, k.0.counted, faults-kept ns ms k.1)
  faults-kept (n ∷ ns) [] k = absurd k
  faults-kept [] (m ∷ ms) k = absurd k

  pub faults-slice_set : (ns : List (Named S)) (i : ℕ) (n m : Named S) → slice_get ns i ≡ Some n → g.faults m.source ≡ g.faults n.source → fault_count g (slice_set ns i m) ≡ fault_count g ns
  faults-slice_set [] i n m e f = cc
  faults-slice_set (x ∷ xs) zero n m e f = let same : g.faults x.source ≡ g.faults n.source = ap (λ y. g.faults y.source) (some-same e) in ap (λ k. k + fault_count g xs) (f ∙ sym same)
  faults-slice_set (x ∷ xs) (suc i) n m e f = ap (λ k. g.faults x.source + k) (faults-slice_set xs i n m e f)

  pub rose-slice_set : (ns : List (Named S)) (i : ℕ) (n m : Named S) → slice_get ns i ≡ Some n → Rose (g.faults n.source) (g.faults m.source) → OneRose g ns (slice_set ns i m)
  rose-slice_set [] i n m e r = cc
  rose-slice_set (x ∷ xs) zero n m e r = let same : x ≡ n = cc in inl (subst (λ y. Rose (g.faults y.source) (g.faults m.source)) (sym same) r)
  rose-slice_set (x ∷ xs) (suc i) n m e r = inr (rose-slice_set xs i n m e r)

  pub rose-kept : (ns ms ls : List (Named S)) → SourcesKept g ns ms → OneRose g ms ls → OneRose g ns ls
  rose-kept [] [] ls k r = r
  rose-kept (n ∷ ns) (m ∷ ms) [] k r = absurd r
  rose-kept (n ∷ ns) (m ∷ ms) (l ∷ ls) k (inl r) = inl (omega (arith, k.0.counted, r))
  rose-kept (n ∷ ns) (m ∷ ms) (l ∷ ls) k (inr r) = inr (rose-kept ns ms ls k.1 r)
  rose-kept (n ∷ ns) [] ls k r = absurd k
  rose-kept [] (m ∷ ms) ls k r = absurd k

  pub rose-count : (ns ms : List (Named S)) → SourcesKept g ns ms → OneRose g ns ms → Rose (fault_count g ns) (fault_count g ms)
  rose-count [] ms k r = absurd r
  rose-count (n ∷ ns) [] k r = absurd k
  rose-count (n ∷ ns) (m ∷ ms) k (inl r) = omega (arith, r, faults-kept ns ms k.1)
  rose-count (n ∷ ns) (m ∷ ms) k (inr r) = omega (arith, k.0.counted, rose-count ns ms k.1 r)

  pub taken-slice_set : (ns : List (Named S)) (i : ℕ) (n m : Named S) → slice_get ns i ≡ Some n → taken_count g (slice_set ns i m) + g.taken n.source ≡ taken_count g ns + g.taken m.source
  taken-slice_set [] i n m e = cc
  taken-slice_set (x ∷ xs) zero n m e = let same : x ≡ n = cc in let t : g.taken x.source ≡ g.taken n.source = ap (λ y. g.taken y.source) same in omega arith
  taken-slice_set (x ∷ xs) (suc i) n m e = omega (arith, taken-slice_set xs i n m e)
