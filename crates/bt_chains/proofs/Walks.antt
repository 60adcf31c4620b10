-- Walks along links, after a link was written.
use Rattle.std.proofs.Common.{◌≡◌, ◌≢◌, ℕ, zero, suc, ◌+◌, ◌<◌, ◌≤◌, Bool, true, false, cond, eqb, List, [], ◌∷◌, ◌++◌, length, get_or, set, arith, refl, sym, ap, ◌∙◌, subst, eq-eqb, get_or-set_same, get_or-set_other}
use Rattle.bt_chains.specs.declared.Chain.{Chain}
use Rattle.bt_chains.specs.Links.{walk, beyond, places, held}
use Rattle.bt_chains.specs.Places.{times, times_all, total_length, last_or}

one_if : (b : Bool) (n : ℕ) → cond b 1 0 + n ≡ 0 → (b ≡ false) × (n ≡ 0)
one_if true n e = absurd (omega arith)
one_if false n e = (refl, omega arith)

pub differs : (p h : ℕ) → eqb p h ≡ false → h ≢ p
differs p h e i = let j : eqb p h ≡ true = eq-eqb p h (sym i) in cc

-- a write to a place that is not walked over
pub walk_set : (k : ℕ) (ns : List ℕ) (h p x : ℕ) → times p (walk k ns h) ≡ 0 → walk k (set ns p x) h ≡ walk k ns h
walk_set zero ns h p x e = refl
walk_set (suc k) ns h p x e =
    let w = one_if (eqb p h) (times p (walk k ns (get_or ns h 0))) e in
    let i : get_or (set ns p x) h 0 ≡ get_or ns h 0 = get_or-set_other ns p h x 0 (differs p h w.0) in
    ap (λ n. h ∷ walk k (set ns p x) n) i ∙ ap (λ ys. h ∷ ys) (walk_set k ns (get_or ns h 0) p x w.1)

pub beyond_set : (k : ℕ) (ns : List ℕ) (h p x : ℕ) → times p (walk k ns h) ≡ 0 → beyond k (set ns p x) h ≡ beyond k ns h
beyond_set zero ns h p x e = refl
beyond_set (suc k) ns h p x e =
    let w = one_if (eqb p h) (times p (walk k ns (get_or ns h 0))) e in
    let i : get_or (set ns p x) h 0 ≡ get_or ns h 0 = get_or-set_other ns p h x 0 (differs p h w.0) in
    ap (λ n. beyond k (set ns p x) n) i ∙ beyond_set k ns (get_or ns h 0) p x w.1

pub places_set : (ns : List ℕ) (cs : List Chain) (p x : ℕ) → times_all p (places ns cs) ≡ 0 → places (set ns p x) cs ≡ places ns cs
places_set ns [] p x e = refl
places_set ns (c ∷ cs) p x e =
    let a = walk_set c.len ns c.first p x (omega arith) in
    let b = places_set ns cs p x (omega arith) in
    cc

-- the count with one list replaced
pub times_all_set : (x : ℕ) (yss : List (List ℕ)) (k : ℕ) (ys : List ℕ) → k < length yss → times_all x (set yss k ys) + times x (get_or yss k []) ≡ times_all x yss + times x ys
times_all_set x [] k ys h = absurd (omega arith)
times_all_set x (y ∷ yss) zero ys h = omega arith
times_all_set x (y ∷ yss) (suc k) ys h = let i = times_all_set x yss k ys (omega arith) in omega arith

-- one list's count is in all
pub times_in : (x : ℕ) (ns : List ℕ) (cs : List Chain) (k : ℕ) (d : Chain) → k < length cs → times x (walk (get_or cs k d).len ns (get_or cs k d).first) ≤ times_all x (places ns cs)
times_in x ns [] k d h = absurd (omega arith)
times_in x ns (b ∷ cs) zero d h = omega arith
times_in x ns (b ∷ cs) (suc k) d h = let i = times_in x ns cs k d (omega arith) in omega arith

-- and so are two
pub times_two : (x : ℕ) (ns : List ℕ) (cs : List Chain) (j k : ℕ) (d : Chain) → j ≢ k → j < length cs → k < length cs
    → times x (walk (get_or cs j d).len ns (get_or cs j d).first) + times x (walk (get_or cs k d).len ns (get_or cs k d).first) ≤ times_all x (places ns cs)
times_two x ns [] j k d n g h = absurd (omega arith)
times_two x ns (b ∷ cs) zero zero d n g h = absurd (n refl)
times_two x ns (b ∷ cs) zero (suc k) d n g h = let i = times_in x ns cs k d (omega arith) in omega arith
times_two x ns (b ∷ cs) (suc j) zero d n g h = let i = times_in x ns cs j d (omega arith) in omega arith
times_two x ns (b ∷ cs) (suc j) (suc k) d n g h = let i = times_two x ns cs j k d (λ e. n (ap suc e)) (omega arith) (omega arith) in omega arith

-- the other chains, walked over after a write to a place of one of them
pub places_set_but : (ns : List ℕ) (cs : List Chain) (k p x : ℕ) (d c : Chain) → k < length cs → times_all p (places ns cs) ≡ times p (walk (get_or cs k d).len ns (get_or cs k d).first)
    → places (set ns p x) (set cs k c) ≡ set (places ns cs) k (walk c.len (set ns p x) c.first)
places_set_but ns [] k p x d c h e = absurd (omega arith)
places_set_but ns (b ∷ cs) zero p x d c h e = ap (λ yss. walk c.len (set ns p x) c.first ∷ yss) (places_set ns cs p x (omega arith))
places_set_but ns (b ∷ cs) (suc k) p x d c h e =
    let w = times_in p ns cs k d (omega arith) in
    let a = walk_set b.len ns b.first p x (omega arith) in
    let i = places_set_but ns cs k p x d c (omega arith) (omega arith) in
    ap (λ ys. ys ∷ places (set ns p x) (set cs k c)) a ∙ ap (λ yss. walk b.len ns b.first ∷ yss) i

pub held_set : (cs : List Chain) (k : ℕ) (d c : Chain) → k < length cs → held (set cs k c) + (get_or cs k d).len ≡ held cs + c.len
held_set [] k d c h = absurd (omega arith)
held_set (b ∷ cs) zero d c h = omega arith
held_set (b ∷ cs) (suc k) d c h = let i = held_set cs k d c (omega arith) in omega arith

pub length_walk : (k : ℕ) (ns : List ℕ) (h : ℕ) → length (walk k ns h) ≡ k
length_walk zero ns h = refl
length_walk (suc k) ns h = let i = length_walk k ns (get_or ns h 0) in omega arith

pub length_places : (ns : List ℕ) (cs : List Chain) → total_length (places ns cs) ≡ held cs
length_places ns [] = refl
length_places ns (c ∷ cs) = let i = length_places ns cs in let j = length_walk c.len ns c.first in omega arith

-- the last of a list stands in it
pub times_last : (ys : List ℕ) (y : ℕ) → 1 ≤ times (last_or ys y) (y ∷ ys)
times_last [] y = rw (eq-eqb y y refl) (omega arith)
times_last (z ∷ zs) y = let i = times_last zs z in omega arith

-- a chain whose last place gets a link is longer by where that leads
pub extended : (l : ℕ) (ns : List ℕ) (h p last d : ℕ) → last_or (walk (suc l) ns h) d ≡ last → times last (walk (suc l) ns h) ≤ 1 → last < length ns
    → (walk (suc (suc l)) (set ns last p) h ≡ walk (suc l) ns h ++ p ∷ []) × (beyond (suc (suc l)) (set ns last p) h ≡ get_or (set ns last p) p 0)
extended zero ns h p last d e t b =
    let i : get_or (set ns last p) last 0 ≡ p = get_or-set_same ns last p 0 b in
    let j : get_or (set ns last p) h 0 ≡ p = ap (λ n. get_or (set ns last p) n 0) e ∙ i in
    (ap (λ n. h ∷ n ∷ []) j, ap (λ n. get_or (set ns last p) n 0) j)
extended (suc l) ns h p last d e t b =
    let m : last_or (walk l ns (get_or ns (get_or ns h 0) 0)) (get_or ns h 0) ≡ last = e in
    let s : 1 ≤ times last (walk (suc l) ns (get_or ns h 0)) = let P : ℕ → Type 0 = λ n. 1 ≤ times n (walk (suc l) ns (get_or ns h 0)) in subst P m (times_last (walk l ns (get_or ns (get_or ns h 0) 0)) (get_or ns h 0)) in
    let w = one_if (eqb last h) 0 (omega arith) in
    let i : get_or (set ns last p) h 0 ≡ get_or ns h 0 = get_or-set_other ns last h p 0 (differs last h w.0) in
    let r = extended l ns (get_or ns h 0) p last h e (omega arith) b in (
      ap (λ n. h ∷ walk (suc (suc l)) (set ns last p) n) i ∙ ap (λ ys. h ∷ ys) r.0,
      ap (λ n. beyond (suc (suc l)) (set ns last p) n) i ∙ r.1,
    )

-- the last of a longer list
pub last_push : (ys : List ℕ) (x d : ℕ) → last_or (ys ++ x ∷ []) d ≡ x
last_push [] x d = refl
last_push (y ∷ ys) x d = last_push ys x y

pub times_push : (x : ℕ) (ys : List ℕ) (y : ℕ) → times x (ys ++ y ∷ []) ≡ times x ys + times x (y ∷ [])
times_push x [] y = omega arith
times_push x (z ∷ ys) y = let i = times_push x ys y in omega arith
