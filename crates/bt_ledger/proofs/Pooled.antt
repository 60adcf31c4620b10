-- A push and a pop of the pool, as lists of entries.
use Rattle.std.proofs.Common.{◌≡◌, ℕ, zero, suc, ◌+◌, ◌<◌, ◌≤◌, Bool, true, false, cond, eqb, ltb, List, [], ◌∷◌, ◌++◌, length, map, get_or, set, ◌⊎◌, inl, inr, arith, refl, sym, ap, ◌∙◌, subst, eq-eqb, Option, Some, None, get_or-set_same, get_or-set_other}
use Rattle.std.proofs.lemmas.Bool.Decides.{eqb_tells}
use Rattle.std.proofs.lemmas.Bool.{ltb-true}
use Rattle.std.proofs.lemmas.List.{map-set}
use Rattle.bt_chains.specs.declared.Entry.{Entry}
use Rattle.bt_chains.specs.Places.{Places, IsSound, IsPushed, IsPopped, FrontLeft, times, times_all, total_length, occupied, entry_at}
use Rattle.bt_ledger.specs.Ledger.{held_in}
use Rattle.bt_ledger.specs.Pooled.{entry_or, listed, chains_of}

-- a place that is not among these changes none of their entries
pub listed_other : (es : List (Option Entry)) (x : ℕ) (o : Option Entry) (xs : List ℕ) → times x xs ≡ 0 → listed (set es x o) xs ≡ listed es xs
listed_other es x o [] h = refl
listed_other es x o (y ∷ ys) h = elim (eqb_tells x y) [
  | inl i ↦ (let a = ap {B = ℕ} (λ b. cond b 1 0) i.0 in absurd (omega arith))
  | inr i ↦ (let b : times x ys ≡ 0 = omega arith in
      let c : get_or (set es x o) y None ≡ get_or es y None = get_or-set_other es x y o None (λ e. i.1 (sym e)) in
      ap (λ e. entry_or e ∷ listed (set es x o) ys) c ∙ ap (λ r. entry_or (get_or es y None) ∷ r) (listed_other es x o ys b))
]

pub chains_other : (es : List (Option Entry)) (x : ℕ) (o : Option Entry) (cs : List (List ℕ)) → times_all x cs ≡ 0 → map (listed (set es x o)) cs ≡ map (listed es) cs
chains_other es x o [] h = refl
chains_other es x o (c ∷ cs) h =
    let a : times x c ≡ 0 = omega arith in let b : times_all x cs ≡ 0 = omega arith in
    ap (λ e. e ∷ map (listed (set es x o)) cs) (listed_other es x o c a) ∙ ap (λ r. listed es c ∷ r) (chains_other es x o cs b)

pub listed_more : (es : List (Option Entry)) (xs : List ℕ) (x : ℕ) → listed es (xs ++ x ∷ []) ≡ listed es xs ++ entry_or (get_or es x None) ∷ []
listed_more es [] x = refl
listed_more es (y ∷ ys) x = ap (λ r. entry_or (get_or es y None) ∷ r) (listed_more es ys x)

pub length_listed : (es : List (Option Entry)) (xs : List ℕ) → length (listed es xs) ≡ length xs
length_listed es [] = refl
length_listed es (x ∷ xs) = let a = length_listed es xs in omega arith

pub held_is : (es : List (Option Entry)) (cs : List (List ℕ)) → held_in (map (listed es) cs) ≡ total_length cs
held_is es [] = refl
held_is es (c ∷ cs) = let a = length_listed es c in let b = held_is es cs in omega arith

chain_is_in : (es : List (Option Entry)) (cs : List (List ℕ)) (k : ℕ) → get_or (map (listed es) cs) k [] ≡ listed es (get_or cs k [])
chain_is_in es [] k = refl
chain_is_in es (c ∷ cs) zero = refl
chain_is_in es (c ∷ cs) (suc k) = chain_is_in es cs k

pub chain_is : (p : Places) (k : ℕ) → get_or (chains_of p) k [] ≡ listed p.entries (get_or p.chains k [])
chain_is p k = chain_is_in p.entries p.chains k

ltb_go : (a b : ℕ) (t : Bool) → ltb a b ≡ t → ((ltb a b ≡ true) × (a < b)) ⊎ (ltb a b ≡ false)
ltb_go a b true e = inl (e, ltb-true a b e)
ltb_go a b false e = inr e

ltb_cases : (a b : ℕ) → ((ltb a b ≡ true) × (a < b)) ⊎ (ltb a b ≡ false)
ltb_cases a b = ltb_go a b (ltb a b) refl

-- a place that is free is in no chain, and is one of the places
free_apart : (p : Places) (x : ℕ) (xs : List ℕ) → IsSound p → p.free ≡ x ∷ xs → (times_all x p.chains ≡ 0) × (x < length p.entries)
free_apart p x xs s e =
    let a = s.vacant x in
    let b = s.chained x in
    let c : times x p.free ≡ cond {A = ℕ} (eqb x x) 1 0 + times x xs = ap (times x) e in
    let d : cond {A = ℕ} (eqb x x) 1 0 ≡ 1 = rw (eq-eqb x x refl) refl in
    elim (ltb_cases x (length p.entries)) [
      | inl u ↦ (let f : cond {A = ℕ} (ltb x (length p.entries)) 1 0 ≡ 1 = rw u.0 refl in (omega arith, u.1))
      | inr u ↦ (let f : cond {A = ℕ} (ltb x (length p.entries)) 1 0 ≡ 0 = rw u refl in absurd (omega arith))
    ]

pub push_lists : (p q : Places) (k x : ℕ) (e : Entry) → IsSound p → k < length p.chains → IsPushed p q k e x → chains_of q ≡ set (chains_of p) k (get_or (chains_of p) k [] ++ e ∷ [])
push_lists p q k x e s h w =
    let f = free_apart p x q.free s w.was_free in
    let a : map (listed (set p.entries x (Some e))) p.chains ≡ map (listed p.entries) p.chains = chains_other p.entries x (Some e) p.chains f.0 in
    let here : listed (set p.entries x (Some e)) (get_or p.chains k []) ≡ listed p.entries (get_or p.chains k []) = sym (chain_is_in (set p.entries x (Some e)) p.chains k) ∙ ap (λ (cs : List (List Entry)). get_or cs k []) a ∙ chain_is_in p.entries p.chains k in
    let last : entry_or (get_or (set p.entries x (Some e)) x None) ≡ e = ap entry_or (get_or-set_same p.entries x (Some e) None f.1) in
    let new : listed (set p.entries x (Some e)) (get_or p.chains k [] ++ x ∷ []) ≡ get_or (chains_of p) k [] ++ e ∷ [] =
    listed_more (set p.entries x (Some e)) (get_or p.chains k []) x ∙ ap (λ r. listed (set p.entries x (Some e)) (get_or p.chains k []) ++ r ∷ []) last ∙ ap (λ r. r ++ e ∷ []) (here ∙ sym (chain_is p k)) in
    ap (λ es. map (listed es) q.chains) w.entries ∙ ap (map (listed (set p.entries x (Some e)))) w.chains ∙ map-set (listed (set p.entries x (Some e))) p.chains k (get_or p.chains k [] ++ x ∷ []) ∙ ap (λ cs. set cs k (listed (set p.entries x (Some e)) (get_or p.chains k [] ++ x ∷ []))) a ∙ ap (set (chains_of p) k) new

-- a place of a chain is there no second time
once : (cs : List (List ℕ)) (k x : ℕ) (xs : List ℕ) → k < length cs → get_or cs k [] ≡ x ∷ xs → (times x xs + 1 + times_all x (set cs k []) ≡ times_all x cs)
once [] k x xs h e = absurd (omega arith)
once (c ∷ cs) zero x xs h e =
    let a : times x c ≡ cond {A = ℕ} (eqb x x) 1 0 + times x xs = ap (times x) e in
    let d : cond {A = ℕ} (eqb x x) 1 0 ≡ 1 = rw (eq-eqb x x refl) refl in
    omega arith
once (c ∷ cs) (suc k) x xs h e = let a = once cs k x xs (omega arith) e in omega arith

abbrev pub LeftFront : List Entry → Places → Places → ℕ → Option Entry → Type 0
LeftFront [] p q k r = (r ≡ None) × (q ≡ p)
LeftFront (e ∷ es) p q k r = (r ≡ Some e) × (chains_of q ≡ set (chains_of p) k es)

occupied_one : (o : Option Entry) → occupied o ≤ 1
occupied_one None = omega arith
occupied_one (Some e) = omega arith

occupied_is : (o : Option Entry) → 1 ≤ occupied o → o ≡ Some (entry_or o)
occupied_is None h = absurd (omega arith)
occupied_is (Some e) h = refl

drop_front : (cs : List (List ℕ)) (k : ℕ) (es : List (Option Entry)) (x : ℕ) (o : Option Entry) (xs : List ℕ) → k < length cs → times x xs ≡ 0 → times_all x (set cs k []) ≡ 0
    → map (listed (set es x o)) (set cs k xs) ≡ set (map (listed es) cs) k (listed es xs)
drop_front [] k es x o xs h a b = absurd (omega arith)
drop_front (c ∷ cs) zero es x o xs h a b = ap (λ r. r ∷ map (listed (set es x o)) cs) (listed_other es x o xs a) ∙ ap (λ r. listed es xs ∷ r) (chains_other es x o cs (omega arith))
drop_front (c ∷ cs) (suc k) es x o xs h a b =
    let u : times x c ≡ 0 = omega arith in let v : times_all x (set cs k []) ≡ 0 = omega arith in
    ap (λ r. r ∷ map (listed (set es x o)) (set cs k xs)) (listed_other es x o c u) ∙ ap (λ r. listed es c ∷ r) (drop_front cs k es x o xs (omega arith) a v)

pop_go : (p q : Places) (k : ℕ) (r : Option Entry) (xs : List ℕ) → IsSound p → k < length p.chains → get_or p.chains k [] ≡ xs → FrontLeft xs p q k r → LeftFront (listed p.entries xs) p q k r
pop_go p q k r [] s h e w = w
pop_go p q k r (x ∷ xs) s h e w =
    let o = once p.chains k x xs h e in
    let c = s.chained x in
    let d = occupied_one (entry_at p x) in
    let u : 1 ≤ occupied (entry_at p x) = omega arith in (
      w.taken ∙ occupied_is (entry_at p x) u,
      ap (λ es. map (listed es) q.chains) w.entries ∙ ap (map (listed (set p.entries x None))) w.chains ∙ drop_front p.chains k p.entries x None xs h (omega arith) (omega arith),
    )

pub pop_lists : (p q : Places) (k : ℕ) (r : Option Entry) → IsSound p → k < length p.chains → IsPopped p q k r → LeftFront (get_or (chains_of p) k []) p q k r
pop_lists p q k r s h w = subst (λ (es : List Entry). LeftFront es p q k r) (sym (chain_is p k)) (pop_go p q k r (get_or p.chains k []) s h refl w)

-- a pool that is full has as many entries as places
pub full_held : (p : Places) → IsSound p → p.free ≡ [] → held_in (chains_of p) ≡ length p.entries
full_held p s e = let a = held_is p.entries p.chains in let b = s.counted in let c : length p.free ≡ 0 = ap length e in omega arith
