-- What stands behind a place, read off its link.
use Rattle.std.proofs.Common.{◌≡◌, ◌≢◌, ℕ, zero, suc, ◌+◌, ◌<◌, ◌≤◌, Bool, true, false, cond, eqb, ltb, List, [], ◌∷◌, Option, Some, None, is_some, length, get_or, ◌⊎◌, inl, inr, arith, zero-add, refl, sym, ap, ◌∙◌, subst, eq-eqb}
use Rattle.std.proofs.lemmas.Bool.{eqb-true}
use Rattle.std.proofs.lemmas.Bool.Decides.{nat_tests}
use Rattle.std.proofs.lemmas.List.{get_or_default}
use Rattle.bt_chains.specs.declared.Chain.{Chain}
use Rattle.bt_chains.specs.declared.Entry.{Entry}
use Rattle.bt_chains.specs.Links.{walk, beyond, places, no_place, onward, link_after, IsEnded, IsLinked}
use Rattle.bt_chains.specs.Places.{times, times_all, behind, after_of, or_else, front_of, occupied}

-- where x was seen, what its link gives
abbrev seen : ℕ → Option ℕ → Option ℕ
seen n o = cond (ltb 0 n) o None

positive : (n : ℕ) → 0 < n → ltb 0 n ≡ true
positive n h = grind (arith, nat_tests)

pub decide : (x p : ℕ) (b : Bool) → eqb x p ≡ b → ((eqb x p ≡ true) × (x ≡ p)) ⊎ ((eqb x p ≡ false) × (x ≢ p))
decide x p true e = inl (e, eqb-true x p e)
decide x p false e = inr (e, λ i. let j : eqb x p ≡ true = eq-eqb x p i in cc)

front_onward : (l : ℕ) (ns : List ℕ) (h : ℕ) → beyond (suc l) ns h ≡ no_place → ((y : ℕ) → 1 ≤ times y (walk (suc l) ns h) → y < no_place)
    → front_of (walk l ns (get_or ns h 0)) ≡ seen (1 + times h (walk l ns (get_or ns h 0))) (onward (get_or ns h 0))
front_onward zero ns h e b = rw e refl
front_onward (suc l) ns h e b =
    let n = get_or ns h 0 in
    let s : 1 ≤ times n (walk (suc (suc l)) ns h) = rw (eq-eqb n n refl) (omega arith) in
    let f : eqb n no_place ≡ false = grind (arith, nat_tests, b n s) in
    rw (positive (1 + times h (walk (suc l) ns n)) (omega arith), f) refl

behind_walk : (l : ℕ) (ns : List ℕ) (h x : ℕ) → beyond l ns h ≡ no_place → ((y : ℕ) → 1 ≤ times y (walk l ns h) → y < no_place)
    → behind x (walk l ns h) ≡ seen (times x (walk l ns h)) (onward (get_or ns x 0))
behind_walk zero ns h x e b = refl
behind_walk (suc l) ns h x e b =
    let i = behind_walk l ns (get_or ns h 0) x e (λ y s. b y (omega arith)) in
    elim (decide x h (eqb x h) refl) [
      | inl w ↦
          let P : ℕ → Type 0 = λ y. behind y (walk (suc l) ns h) ≡ seen (times y (walk (suc l) ns h)) (onward (get_or ns y 0)) in
          subst P (sym w.1) (rw (eq-eqb h h refl) (front_onward l ns h e b))
      | inr w ↦ rw w.0 (rw zero-add i)
    ]

nowhere : (b : Bool) → cond {A = Option ℕ} b None None ≡ None
nowhere true = refl
nowhere false = refl

none_either : (m n : ℕ) → or_else (seen m None) (seen n None) ≡ seen (m + n) None
none_either m n = simp nowhere

or_seen : (m n : ℕ) (o : Option ℕ) → or_else (seen m o) (seen n o) ≡ seen (m + n) o
or_seen zero n o = rw zero-add refl
or_seen (suc m) n None = none_either (suc m) n
or_seen (suc m) n (Some y) = rw (positive (suc m) (omega arith), positive (suc m + n) (omega arith)) refl

after_walks : (ns : List ℕ) (cs : List Chain) (x : ℕ) → ((k : ℕ) (d : Chain) → k < length cs → IsEnded ns (get_or cs k d)) → ((y : ℕ) → 1 ≤ times_all y (places ns cs) → y < no_place)
    → after_of x (places ns cs) ≡ seen (times_all x (places ns cs)) (onward (get_or ns x 0))
after_walks ns [] x ends b = refl
after_walks ns (c ∷ cs) x ends b =
    let e : IsEnded ns c = ends 0 c (omega arith) in
    let i = behind_walk c.len ns c.first x e.past (λ y h. b y (omega arith)) in
    let j = after_walks ns cs x (λ k d h. ends (suc k) d (omega arith)) (λ y h. b y (omega arith)) in
    let k = or_seen (times x (walk c.len ns c.first)) (times_all x (places ns cs)) (onward (get_or ns x 0)) in
    cc

seen_occupied : (o : Option Entry) (n : ℕ) → seen (occupied o) (onward n) ≡ link_after o n
seen_occupied None n = refl
seen_occupied (Some e) n = refl

-- an occupied place is one of the pool's
pub within : (es : List (Option Entry)) (ns : List ℕ) (cs : List Chain) (f fl y : ℕ) → IsLinked es ns cs f fl → 1 ≤ times_all y (places ns cs) → y < length es
within es ns cs f fl y linked h =
    let a = linked.chained y in
    let b = linked.vacant y in
    grind (arith, nat_tests)

pub after_is : (es : List (Option Entry)) (ns : List ℕ) (cs : List Chain) (f fl : ℕ) → IsLinked es ns cs f fl → (x : ℕ) → after_of x (places ns cs) ≡ link_after (get_or es x None) (get_or ns x 0)
after_is es ns cs f fl linked x =
    let b : (y : ℕ) → 1 ≤ times_all y (places ns cs) → y < no_place = λ y h. let w = within es ns cs f fl y linked h in let s = linked.small in omega arith in
    after_walks ns cs x linked.ends b ∙ ap (λ n. seen n (onward (get_or ns x 0))) (linked.chained x) ∙ seen_occupied (get_or es x None) (get_or ns x 0)

-- a free place has nothing behind it
pub after_none : (es : List (Option Entry)) (ns : List ℕ) (cs : List Chain) (f fl x : ℕ) (o : Option Entry) → IsLinked es ns cs f fl → x < length es → o ≡ get_or es x o → is_some o ≡ false
    → None ≡ after_of x (places ns cs)
after_none es ns cs f fl x None linked h at free = sym (after_is es ns cs f fl linked x ∙ ap (λ o. link_after o (get_or ns x 0)) (sym at))
after_none es ns cs f fl x (Some e) linked h at free = absurd (cc)

pub no_link : (o : Option Entry) → link_after o no_place ≡ None
no_link None = refl
no_link (Some e) = refl

-- nor has the last of a chain
pub after_no_place : (es : List (Option Entry)) (ns : List ℕ) (cs : List Chain) (f fl x n : ℕ) → IsLinked es ns cs f fl → x < length es → n ≡ get_or ns x n → n ≡ no_place
    → None ≡ after_of x (places ns cs)
after_no_place es ns cs f fl x n linked h at last =
    let s = linked.linked in
    let u : x < length ns = omega arith in
    let link : get_or ns x 0 ≡ no_place = get_or_default ns x 0 n u ∙ sym at ∙ last in
    sym (after_is es ns cs f fl linked x ∙ ap (link_after (get_or es x None)) link ∙ no_link (get_or es x None))

-- any other place's link leads to the one behind it
pub after_some : (es : List (Option Entry)) (ns : List ℕ) (cs : List Chain) (f fl x : ℕ) (o : Option Entry) (n : ℕ) → IsLinked es ns cs f fl → x < length es → o ≡ get_or es x o → is_some o ≡ true
    → n ≡ get_or ns x n → n ≢ no_place → Some n ≡ after_of x (places ns cs)
after_some es ns cs f fl x None n linked h at some link other = absurd (cc)
after_some es ns cs f fl x (Some e) n linked h at some link other =
    let s = linked.linked in
    let u : x < length ns = omega arith in
    let entry : get_or es x None ≡ Some e = get_or_default es x None (Some e) h ∙ sym at in
    let to : get_or ns x 0 ≡ n = get_or_default ns x 0 n u ∙ sym link in
    let no : eqb n no_place ≡ false = grind (arith, nat_tests) in
    let on : onward n ≡ Some n = rw no refl in
    sym (after_is es ns cs f fl linked x ∙ ap (λ p. link_after p (get_or ns x 0)) entry ∙ ap onward to ∙ on)
