-- The fields of counts, as lists of their own.
use Rattle.std.proofs.Common.{◌≡◌, ℕ, zero, suc, ◌+◌, ◌<◌, List, [], ◌∷◌, ◌++◌, length, map, get_or, set, arith, refl, sym, ap, ◌∙◌, replicate, eqb, None}
use Rattle.std.proofs.lemmas.List.{get_or-map, length-map}
use Rattle.bt_demand.specs.declared.routes.Count.{Count}
use Rattle.bt_ledger.specs.Counted.{fresh_count, lefts, losses, answered_by}

-- a field of the count at a place
pub field_at : {X : Type 0} (f : Count → X) (cs : List Count) (k : ℕ) (c : Count) (d : X) → k < length cs → c ≡ get_or cs k c → f c ≡ get_or (map f cs) k d
field_at f cs k c d w e = ap f e ∙ sym (get_or-map f cs k c d w)

-- a field that a write left as it was
pub field_kept : {X : Type 0} (f : Count → X) (cs : List Count) (k : ℕ) (c r : Count) → c ≡ get_or cs k c → f r ≡ f c → map f (set cs k r) ≡ map f cs
field_kept f [] k c r e q = refl
field_kept {X = X} f (x ∷ cs) zero c r e q = ap (λ (y : X). y ∷ map f cs) (q ∙ ap f e)
field_kept {X = X} f (x ∷ cs) (suc k) c r e q = ap (λ (ys : List X). f x ∷ ys) (field_kept f cs k c r e q)

pub fresh_length : (n : ℕ) → length (replicate n fresh_count) ≡ n
fresh_length zero = refl
fresh_length (suc n) = ap suc (fresh_length n)

fresh_suc : (n : ℕ) → replicate {A = Count} (suc n) fresh_count ≡ replicate n fresh_count ++ fresh_count ∷ []
fresh_suc zero = refl
fresh_suc (suc n) = ap (λ (cs : List Count). fresh_count ∷ cs) (fresh_suc n)

pub fresh_more : (n : ℕ) → replicate {A = Count} (n + 1) fresh_count ≡ replicate n fresh_count ++ fresh_count ∷ []
fresh_more n = let e : n + 1 ≡ suc n = omega arith in rw e (fresh_suc n)

pub fresh_lefts : (n : ℕ) → lefts (replicate n fresh_count) ≡ replicate n 1
fresh_lefts zero = refl
fresh_lefts (suc n) = ap (λ ns. 1 ∷ ns) (fresh_lefts n)

pub fresh_losses : (n i : ℕ) → get_or (losses (replicate n fresh_count)) i None ≡ None
fresh_losses zero i = refl
fresh_losses (suc n) zero = refl
fresh_losses (suc n) (suc i) = fresh_losses n i

pub lefts_length : (cs : List Count) → length (lefts cs) ≡ length cs
lefts_length cs = length-map cs (λ (c : Count). c.left)

-- a place of counts whose lefts stayed
pub lefts_long : (cs ds : List Count) (k : ℕ) → lefts ds ≡ lefts cs → k < length cs → k < length ds
lefts_long cs ds k e h = let a = ap length e in let b = lefts_length cs in let c = lefts_length ds in omega arith

-- there is a count for each item
pub counts_inside : (cs : List Count) (k : ℕ) → k < length (answered_by cs) → k < length cs
counts_inside cs k h = let a = length-map (lefts cs) (λ n. eqb n 0) in let b = lefts_length cs in omega arith
