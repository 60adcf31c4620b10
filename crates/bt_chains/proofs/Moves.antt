-- A pool after one entry came or left.
use Rattle.std.proofs.Common.{◌≡◌, ◌≢◌, ℕ, zero, suc, ◌+◌, ◌-◌, ◌<◌, ◌≤◌, ◌^◌, Bool, false, cond, eqb, ltb, List, [], ◌∷◌, ◌++◌, Option, Some, None, length, get_or, set, IsNone, is_some, rules, inl, inr, arith, refl, sym, ap, ◌∙◌, subst, eq-eqb, add-one, get_or-set_same, get_or-set_other, length-set}
use Rattle.std.proofs.lemmas.Bool.Decides.{nat_tests}
use Rattle.std.proofs.lemmas.List.{get_or_default, map-set, get_or-map, length-map}
use Rattle.bt_chains.specs.declared.Chain.{Chain}
use Rattle.bt_chains.specs.declared.Entry.{Entry}
use Rattle.bt_chains.specs.Links.{walk, beyond, places, held, no_place, joined, grown, IsEnded, IsLinked}
use Rattle.bt_chains.specs.Places.{front_of, front_entry, times, times_all, occupied, last_or, IsSound}
use Rattle.bt_chains.proofs.Afters.{decide, within}
use Rattle.bt_chains.proofs.Walks.{walk_set, times_last, beyond_set, places_set, times_all_set, times_in, times_two, places_set_but, held_set, length_walk, length_places, extended, last_push, times_push}

pub sound : (es : List (Option Entry)) (ns : List ℕ) (cs : List Chain) (f fl : ℕ) → IsLinked es ns cs f fl → IsSound (record { entries = es; chains = places ns cs; free = walk fl ns f })
sound es ns cs f fl linked =
    record {
      chained = linked.chained;
      vacant = linked.vacant;
      counted = let a = length_places ns cs in let b = length_walk fl ns f in let c = linked.counted in omega arith;
    }

cleared : (es : List (Option Entry)) (p x : ℕ) → p < length es → occupied (get_or es p None) ≡ 1 → occupied (get_or (set es p None) x None) + cond (eqb x p) 1 0 ≡ occupied (get_or es x None)
cleared es p x h o =
    elim (decide x p (eqb x p) refl) [
      | inl w ↦ rw (w.0, w.1, get_or-set_same es p None None h) (sym o)
      | inr w ↦ rw (w.0, get_or-set_other es p x None None w.1) (omega arith)
    ]

filled : (es : List (Option Entry)) (p x : ℕ) (e : Entry) → p < length es → occupied (get_or es p None) ≡ 0 → occupied (get_or (set es p (Some e)) x None) ≡ occupied (get_or es x None) + cond (eqb x p) 1 0
filled es p x e h o =
    elim (decide x p (eqb x p) refl) [
      | inl w ↦ rw (w.0, w.1, get_or-set_same es p (Some e) None h, o) refl
      | inr w ↦ rw (w.0, get_or-set_other es p x (Some e) None w.1) (omega arith)
    ]

last_tail : (ys : List ℕ) (x d : ℕ) → last_or ys x ≡ d → last_or ys d ≡ d
last_tail [] x d e = refl
last_tail (y ∷ ys) x d e = e

ended_set : (ns : List ℕ) (c : Chain) (p x : ℕ) → IsEnded ns c → times p (walk c.len ns c.first) ≡ 0 → IsEnded (set ns p x) c
ended_set ns c p x ended e =
    record {
      past = beyond_set c.len ns c.first p x e ∙ ended.past;
      last = ap (λ ys. last_or ys c.last) (walk_set c.len ns c.first p x e) ∙ ended.last;
    }

-- the ends of the other chains, after a write to a place of one of them
ends_but : (ns : List ℕ) (cs : List Chain) (k p x : ℕ) (b c : Chain) → ((j : ℕ) (d : Chain) → j < length cs → IsEnded ns (get_or cs j d)) → k < length cs → get_or cs k b ≡ b
    → times_all p (places ns cs) ≡ times p (walk b.len ns b.first) → IsEnded (set ns p x) c → (j : ℕ) (d : Chain) → j < length (set cs k c) → IsEnded (set ns p x) (get_or (set cs k c) j d)
ends_but ns cs k p x b c ends h at e ended j d g =
    elim (decide j k (eqb j k) refl) [
      | inl w ↦ rw (w.1, get_or-set_same cs k c d h) ended
      | inr w ↦
          let g' : j < length cs = rw (length-set cs k c) at g in
          let mine : get_or cs k d ≡ b = get_or_default cs k d b h ∙ at in
          let two = times_two p ns cs j k d w.1 g' h in
          let same : times p (walk (get_or cs k d).len ns (get_or cs k d).first) ≡ times p (walk b.len ns b.first) = ap (λ (a : Chain). times p (walk a.len ns a.first)) mine in
          rw (get_or-set_other cs k j c d w.1) (ended_set ns (get_or cs j d) p x (ends j d g') (omega arith))
    ]

-- the list of chain k
pub chain_is : (ns : List ℕ) (cs : List Chain) (k : ℕ) (b : Chain) → k < length cs → get_or cs k b ≡ b → get_or (places ns cs) k [] ≡ walk b.len ns b.first
chain_is ns cs k b h at = get_or-map (λ (d : Chain). walk d.len ns d.first) cs k b [] h ∙ ap (λ (d : Chain). walk d.len ns d.first) at

times_chain : (x : ℕ) (ns : List ℕ) (cs : List Chain) (k : ℕ) (b : Chain) → k < length cs → get_or cs k b ≡ b → times x (walk b.len ns b.first) ≤ times_all x (places ns cs)
times_chain x ns cs k b h at =
    let i = times_in x ns cs k b h in
    let same : times x (walk (get_or cs k b).len ns (get_or cs k b).first) ≡ times x (walk b.len ns b.first) = ap (λ (a : Chain). times x (walk a.len ns a.first)) at in
    omega arith

one_at_most : (o : Option Entry) → occupied o ≤ 1
one_at_most None = omega arith
one_at_most (Some e) = omega arith

-- a chain without its front
abbrev pub shrunk : List ℕ → Chain → ℕ → Chain
shrunk ns b l = record { first = get_or ns b.first 0; last = b.last; len = l }

-- the front of chain k goes to the free places
pub record IsTaken (es : List (Option Entry)) (ns : List ℕ) (cs : List Chain) (f fl k : ℕ) (b : Chain) (l : ℕ) : Type 0 where
  pub within : b.first < length es
  pub stands : occupied (get_or es b.first None) ≡ 1
  pub was : get_or (places ns cs) k [] ≡ b.first ∷ walk l ns (get_or ns b.first 0)
  pub chains : places (set ns b.first f) (set cs k (shrunk ns b l)) ≡ set (places ns cs) k (walk l ns (get_or ns b.first 0))
  pub free : walk (suc fl) (set ns b.first f) b.first ≡ b.first ∷ walk fl ns f
  pub linked : IsLinked (set es b.first None) (set ns b.first f) (set cs k (shrunk ns b l)) b.first (suc fl)

pub taken : (es : List (Option Entry)) (ns : List ℕ) (cs : List Chain) (f fl k : ℕ) (b : Chain) (l : ℕ) → IsLinked es ns cs f fl → k < length cs → get_or cs k b ≡ b → b.len ≡ suc l → IsTaken es ns cs f fl k b l
taken es ns cs f fl k b l linked h at n =
    let whole : walk b.len ns b.first ≡ b.first ∷ walk l ns (get_or ns b.first 0) = ap (λ m. walk m ns b.first) n in
    let was : get_or (places ns cs) k [] ≡ b.first ∷ walk l ns (get_or ns b.first 0) = chain_is ns cs k b h at ∙ whole in
    let mine = times_chain b.first ns cs k b h at in
    let self : times b.first (b.first ∷ walk l ns (get_or ns b.first 0)) ≡ 1 + times b.first (walk l ns (get_or ns b.first 0)) = rw (eq-eqb b.first b.first refl) refl in
    let seen = ap (times b.first) whole in
    let once = linked.chained b.first in
    let most = one_at_most (get_or es b.first None) in
    let stands : occupied (get_or es b.first None) ≡ 1 = omega arith in
    let inside : b.first < length es = within es ns cs f fl b.first linked (omega arith) in
    let room : b.first < length ns = let s = linked.linked in omega arith in
    let vacant = linked.vacant b.first in
    let at_one : cond (ltb b.first (length es)) 1 0 ≤ 1 = grind (arith, nat_tests) in
    let rest : walk l (set ns b.first f) (get_or ns b.first 0) ≡ walk l ns (get_or ns b.first 0) = walk_set l ns (get_or ns b.first 0) b.first f (omega arith) in
    let frees : walk fl (set ns b.first f) f ≡ walk fl ns f = walk_set fl ns f b.first f (omega arith) in
    let next : get_or (set ns b.first f) b.first 0 ≡ f = get_or-set_same ns b.first f 0 room in
    let free : walk (suc fl) (set ns b.first f) b.first ≡ b.first ∷ walk fl ns f = ap (λ y. b.first ∷ walk fl (set ns b.first f) y) next ∙ ap (λ zs. b.first ∷ zs) frees in
    let sole : times_all b.first (places ns cs) ≡ times b.first (walk b.len ns b.first) = omega arith in
    let same : times b.first (walk (get_or cs k b).len ns (get_or cs k b).first) ≡ times b.first (walk b.len ns b.first) = ap (λ (a : Chain). times b.first (walk a.len ns a.first)) at in
    let chains : places (set ns b.first f) (set cs k (shrunk ns b l)) ≡ set (places ns cs) k (walk l ns (get_or ns b.first 0))
    = places_set_but ns cs k b.first f b (shrunk ns b l) h (omega arith) ∙ ap (λ zs. set (places ns cs) k zs) rest in
    let ended : IsEnded ns b = let e = linked.ends k b h in rw at at e in
    let past : beyond l (set ns b.first f) (get_or ns b.first 0) ≡ no_place = beyond_set l ns (get_or ns b.first 0) b.first f (omega arith) ∙ ap (λ m. beyond m ns b.first) (sym n) ∙ ended.past in
    let tail : last_or (walk l ns (get_or ns b.first 0)) b.first ≡ b.last = ap (λ zs. last_or zs b.last) (sym whole) ∙ ended.last in
    let last : last_or (walk l (set ns b.first f) (get_or ns b.first 0)) b.last ≡ b.last = ap (λ zs. last_or zs b.last) rest ∙ last_tail (walk l ns (get_or ns b.first 0)) b.first b.last tail in
    let size = length-set es b.first None in
    record {
      within = inside;
      stands = stands;
      was = was;
      chains = chains;
      free = free;
      linked = record {
        chained = λ x.
            let a = ap (times_all x) chains in
            let t = times_all_set x (places ns cs) k (walk l ns (get_or ns b.first 0)) (rw (length-map cs (λ (d : Chain). walk d.len ns d.first)) h) in
            let w = ap (times x) was in
            let o = cleared es b.first x inside stands in
            let i = linked.chained x in
            omega arith;
        vacant = λ x.
            let a = ap (times x) free in
            let o = cleared es b.first x inside stands in
            let i = linked.vacant x in
            let s = ap {B = ℕ} (λ m. cond (ltb x m) 1 0) size in
            omega arith;
        counted = let t = held_set cs k b (shrunk ns b l) h in let u = ap (λ (a : Chain). a.len) at in let i = linked.counted in omega arith;
        ends = ends_but ns cs k b.first f b (shrunk ns b l) linked.ends h at sole (record { past = past; last = last });
        linked = let s = length-set ns b.first f in let i = linked.linked in omega arith;
        small = let i = linked.small in omega arith;
      };
    }

-- what a chain's last place getting a link to f, and the chain growing by it, makes of links ns
record IsJoined (ns ns2 : List ℕ) (cs : List Chain) (k : ℕ) (b c : Chain) (f : ℕ) : Type 0 where
  size : length ns2 ≡ length ns
  chains : places ns2 (set cs k c) ≡ set (places ns cs) k (walk b.len ns b.first ++ f ∷ [])
  ends : (j : ℕ) (d : Chain) → j < length (set cs k c) → IsEnded ns2 (get_or (set cs k c) j d)
  stop : get_or ns2 f 0 ≡ no_place
  still : (m h : ℕ) → ((y : ℕ) → times y (walk m ns h) + times_all y (places ns cs) ≤ 1) → walk m ns2 h ≡ walk m ns h

join_empty : (ns : List ℕ) (cs : List Chain) (k bf bl f : ℕ) → ((j : ℕ) (d : Chain) → j < length cs → IsEnded ns (get_or cs j d)) → k < length cs → get_or ns f 0 ≡ no_place
    → IsJoined ns ns cs k (record { first = bf; last = bl; len = 0 }) (record { first = f; last = f; len = 1 }) f
join_empty ns cs k bf bl f ends h link =
    let c : Chain = record { first = f; last = f; len = 1 } in
    record {
      size = refl;
      chains = map-set (λ (d : Chain). walk d.len ns d.first) cs k c;
      ends = λ j d g.
          elim (decide j k (eqb j k) refl) [
            | inl w ↦ rw (w.1, get_or-set_same cs k c d h) (record { past = link; last = refl })
            | inr w ↦ rw (get_or-set_other cs k j c d w.1) (ends j d (rw (length-set cs k c) at g))
          ];
      stop = link;
      still = λ m t e. refl;
    }

join_last : (ns : List ℕ) (cs : List Chain) (k bf bl l f : ℕ) → ((j : ℕ) (d : Chain) → j < length cs → IsEnded ns (get_or cs j d)) → k < length cs
    → get_or cs k (record { first = bf; last = bl; len = suc l }) ≡ record { first = bf; last = bl; len = suc l }
    → ((y : ℕ) → times_all y (places ns cs) ≤ 1) → ((y : ℕ) → 1 ≤ times_all y (places ns cs) → y < length ns) → times_all f (places ns cs) ≡ 0 → get_or ns f 0 ≡ no_place
    → IsJoined ns (set ns bl f) cs k (record { first = bf; last = bl; len = suc l }) (record { first = bf; last = f; len = suc (suc l) }) f
join_last ns cs k bf bl l f ends h at once inside absent link =
    let b : Chain = record { first = bf; last = bl; len = suc l } in
    let c : Chain = record { first = bf; last = f; len = suc (suc l) } in
    let ended : IsEnded ns b = rw at at (ends k b h) in
    let P : ℕ → Type 0 = λ n. 1 ≤ times n (walk (suc l) ns bf) in
    let some : 1 ≤ times bl (walk (suc l) ns bf) = subst P ended.last (times_last (walk l ns (get_or ns bf 0)) bf) in
    let mine = times_chain bl ns cs k b h at in
    let one = once bl in
    let other : bl ≢ f = λ e. let z : times_all bl (places ns cs) ≡ 0 = ap (λ n. times_all n (places ns cs)) e ∙ absent in absurd (omega arith) in
    let longer = extended l ns bf f bl bl ended.last (omega arith) (inside bl (omega arith)) in
    let end : get_or (set ns bl f) f 0 ≡ no_place = get_or-set_other ns bl f f 0 (λ e. other (sym e)) ∙ link in
    let sole : times_all bl (places ns cs) ≡ times bl (walk (suc l) ns bf) = omega arith in
    let same : times bl (walk (get_or cs k b).len ns (get_or cs k b).first) ≡ times bl (walk (suc l) ns bf) = ap (λ (a : Chain). times bl (walk a.len ns a.first)) at in
    record {
      size = length-set ns bl f;
      chains = places_set_but ns cs k bl f b c h (omega arith) ∙ ap (λ zs. set (places ns cs) k zs) longer.0;
      ends = ends_but ns cs k bl f b c ends h at sole (record { past = longer.1 ∙ end; last = ap (λ zs. last_or zs f) longer.0 ∙ last_push (walk (suc l) ns bf) f f });
      stop = end;
      still = λ m t e. let i = e bl in walk_set m ns t bl f (omega arith);
    }

join : (ns : List ℕ) (cs : List Chain) (k bf bl n f : ℕ) → ((j : ℕ) (d : Chain) → j < length cs → IsEnded ns (get_or cs j d)) → k < length cs
    → get_or cs k (record { first = bf; last = bl; len = n }) ≡ record { first = bf; last = bl; len = n }
    → ((y : ℕ) → times_all y (places ns cs) ≤ 1) → ((y : ℕ) → 1 ≤ times_all y (places ns cs) → y < length ns) → times_all f (places ns cs) ≡ 0 → get_or ns f 0 ≡ no_place
    → IsJoined ns (joined (record { first = bf; last = bl; len = n }) f ns) cs k (record { first = bf; last = bl; len = n }) (grown (record { first = bf; last = bl; len = n }) f) f
join ns cs k bf bl zero f ends h at once inside absent link = join_empty ns cs k bf bl f ends h link
join ns cs k bf bl (suc l) f ends h at once inside absent link =
    let r = join_last ns cs k bf bl l f ends h at once inside absent link in
    let z : eqb (suc l) 0 ≡ false = grind (arith, nat_tests) in
    let Q : Bool → ℕ → Type 0 = λ t n. IsJoined ns (cond t ns (set ns bl f)) cs k (record { first = bf; last = bl; len = suc l }) (record { first = cond t f bf; last = f; len = n }) f in
    let s : Q false (suc l + 1) = subst (Q false) (sym (add-one (suc l))) r in
    subst (λ t. Q t (suc l + 1)) (sym z) s

-- the first free place goes to the end of chain k
pub record IsPlaced (es : List (Option Entry)) (ns : List ℕ) (cs : List Chain) (f m k : ℕ) (b : Chain) (e : Entry) : Type 0 where
  pub within : f < length es
  pub empty : occupied (get_or es f None) ≡ 0
  pub stop : get_or (joined b f (set ns f no_place)) f 0 ≡ no_place
  pub free : walk m (joined b f (set ns f no_place)) (get_or ns f 0) ≡ walk m ns (get_or ns f 0)
  pub chains : places (joined b f (set ns f no_place)) (set cs k (grown b f)) ≡ set (places ns cs) k (get_or (places ns cs) k [] ++ f ∷ [])
  pub linked : IsLinked (set es f (Some e)) (joined b f (set ns f no_place)) (set cs k (grown b f)) (get_or ns f 0) m

pub placed : (es : List (Option Entry)) (ns : List ℕ) (cs : List Chain) (f m k : ℕ) (b : Chain) (e : Entry) → IsLinked es ns cs f (suc m) → k < length cs → get_or cs k b ≡ b → IsPlaced es ns cs f m k b e
placed es ns cs f m k b e linked h at =
    let self : times f (walk (suc m) ns f) ≡ 1 + times f (walk m ns (get_or ns f 0)) = rw (eq-eqb f f refl) refl in
    let vacant = linked.vacant f in
    let at_one : cond (ltb f (length es)) 1 0 ≤ 1 = grind (arith, nat_tests) in
    let empty : occupied (get_or es f None) ≡ 0 = omega arith in
    let inside : f < length es = grind (arith, nat_tests) in
    let chained = linked.chained f in
    let absent : times_all f (places ns cs) ≡ 0 = omega arith in
    let s1 : places (set ns f no_place) cs ≡ places ns cs = places_set ns cs f no_place absent in
    let w1 : walk m (set ns f no_place) (get_or ns f 0) ≡ walk m ns (get_or ns f 0) = walk_set m ns (get_or ns f 0) f no_place (omega arith) in
    let z1 = length-set ns f no_place in
    let sizes = linked.linked in
    let once : (y : ℕ) → times_all y (places (set ns f no_place) cs) ≤ 1 = λ y. let i = ap (times_all y) s1 in let j = linked.chained y in let o = one_at_most (get_or es y None) in omega arith in
    let ends : (j : ℕ) (d : Chain) → j < length cs → IsEnded (set ns f no_place) (get_or cs j d)
    = λ j d g. let t = times_in f ns cs j d g in ended_set ns (get_or cs j d) f no_place (linked.ends j d g) (omega arith) in
    let bounds : (y : ℕ) → 1 ≤ times_all y (places (set ns f no_place) cs) → y < length (set ns f no_place)
    = λ y g. let i = ap (times_all y) s1 in let j = within es ns cs f (suc m) y linked (omega arith) in omega arith in
    let absent1 : times_all f (places (set ns f no_place) cs) ≡ 0 = ap (times_all f) s1 ∙ absent in
    let link : get_or (set ns f no_place) f 0 ≡ no_place = get_or-set_same ns f no_place 0 (omega arith) in
    let r = join (set ns f no_place) cs k b.first b.last b.len f ends h at once bounds absent1 link in
    let mine = times_chain f ns cs k b h at in
    let alone : (y : ℕ) → times y (walk m (set ns f no_place) (get_or ns f 0)) + times_all y (places (set ns f no_place) cs) ≤ 1
    = λ y. let i = ap (times_all y) s1 in let j = ap (times y) w1 in let a = linked.chained y in let v = linked.vacant y in
    let t : cond (ltb y (length es)) 1 0 ≤ 1 = grind (arith, nat_tests) in omega arith in
    let frees : walk m (joined b f (set ns f no_place)) (get_or ns f 0) ≡ walk m ns (get_or ns f 0) = r.still m (get_or ns f 0) alone ∙ w1 in
    let same : walk b.len (set ns f no_place) b.first ≡ walk b.len ns b.first = walk_set b.len ns b.first f no_place (omega arith) in
    let list : walk b.len (set ns f no_place) b.first ≡ get_or (places ns cs) k [] = same ∙ sym (chain_is ns cs k b h at) in
    let chains : places (joined b f (set ns f no_place)) (set cs k (grown b f)) ≡ set (places ns cs) k (get_or (places ns cs) k [] ++ f ∷ [])
    = r.chains ∙ ap (λ yss. set yss k (walk b.len (set ns f no_place) b.first ++ f ∷ [])) s1 ∙ ap (λ ys. set (places ns cs) k (ys ++ f ∷ [])) list in
    let size = length-set es f (Some e) in
    let z2 = r.size in
    record {
      within = inside;
      empty = empty;
      stop = r.stop;
      free = frees;
      chains = chains;
      linked = record {
        chained = λ x.
            let a = ap (times_all x) chains in
            let t = times_all_set x (places ns cs) k (get_or (places ns cs) k [] ++ f ∷ []) (rw (length-map cs (λ (d : Chain). walk d.len ns d.first)) h) in
            let w = times_push x (get_or (places ns cs) k []) f in
            let o = filled es f x e inside empty in
            let i = linked.chained x in
            omega arith;
        vacant = λ x.
            let a = ap (times x) frees in
            let o = filled es f x e inside empty in
            let i = linked.vacant x in
            let s = ap {B = ℕ} (λ n. cond (ltb x n) 1 0) size in
            omega arith;
        counted = let t = held_set cs k b (grown b f) h in let u = ap (λ (a : Chain). a.len) at in let i = linked.counted in omega arith;
        ends = r.ends;
        linked = omega arith;
        small = let i = linked.small in omega arith;
      };
    }

held_in : (cs : List Chain) (k : ℕ) (d : Chain) → k < length cs → (get_or cs k d).len ≤ held cs
held_in [] k d h = absurd (omega arith)
held_in (b ∷ cs) zero d h = omega arith
held_in (b ∷ cs) (suc k) d h = let i = held_in cs k d (omega arith) in omega arith

-- a chain can grow where a place is free
pub short : (es : List (Option Entry)) (ns : List ℕ) (cs : List Chain) (f fl k : ℕ) (b : Chain) → IsLinked es ns cs f fl → k < length cs → get_or cs k b ≡ b → b.len + fl < 2 ^ 32
short es ns cs f fl k b linked h at =
    let i = held_in cs k b h in
    let e = ap (λ (a : Chain). a.len) at in
    let j = linked.counted in
    let s = linked.small in
    omega arith

last_in : (ns : List ℕ) (n : ℕ) (b : Chain) → b.len ≡ suc n → IsEnded ns b → 1 ≤ times b.last (walk b.len ns b.first)
last_in ns n b e ended =
    let whole : walk b.len ns b.first ≡ walk (suc n) ns b.first = ap (λ m. walk m ns b.first) e in
    let l : last_or (walk n ns (get_or ns b.first 0)) b.first ≡ b.last = ap (λ zs. last_or zs b.last) (sym whole) ∙ ended.last in
    let P : ℕ → Type 0 = λ m. 1 ≤ times m (walk (suc n) ns b.first) in
    let some : 1 ≤ times b.last (walk (suc n) ns b.first) = subst P l (times_last (walk n ns (get_or ns b.first 0)) b.first) in
    let s = ap (times b.last) whole in
    omega arith

-- the last place of a chain is one of the pool's
pub last_within : (es : List (Option Entry)) (ns : List ℕ) (cs : List Chain) (f fl k : ℕ) (b : Chain) → IsLinked es ns cs f fl → k < length cs → get_or cs k b ≡ b → 0 < b.len → b.last < length ns
last_within es ns cs f fl k b linked h at some =
    let ended : IsEnded ns b = rw at at (linked.ends k b h) in
    let n : b.len ≡ suc (b.len - 1) = omega arith in
    let i = last_in ns (b.len - 1) b n ended in
    let t = times_chain b.last ns cs k b h at in
    let w = within es ns cs f fl b.last linked (omega arith) in
    let s = linked.linked in
    omega arith

pub chain_within : (ns : List ℕ) (cs : List Chain) (k : ℕ) → k < length (places ns cs) → k < length cs
chain_within ns cs k h = rw (length-map cs (λ (d : Chain). walk d.len ns d.first)) at h

occupied_some : (r : Option Entry) → occupied r ≡ 1 → IsNone r → ⊥
occupied_some None e n = omega arith
occupied_some (Some x) e n = cc

-- a chain with a place isn't empty, and an entry stands at its front
pub emptiness : (es : List (Option Entry)) (ns : List ℕ) (cs : List Chain) (f fl k : ℕ) (b : Chain) (r : Option Entry) → IsLinked es ns cs f fl → k < length cs → get_or cs k b ≡ b → b.len ≢ 0
    → r ≡ get_or es b.first r → (IsNone r → get_or (places ns cs) k [] ≡ []) × (get_or (places ns cs) k [] ≡ [] → IsNone r)
emptiness es ns cs f fl k b r linked h at some seen =
    let n : b.len ≡ suc (b.len - 1) = omega arith in
    let t = taken es ns cs f fl k b (b.len - 1) linked h at n in
    let same : r ≡ get_or es b.first None = seen ∙ get_or_default es b.first r None t.within in
    let one : occupied r ≡ 1 = ap occupied same ∙ t.stands in
    (λ none. absurd (occupied_some r one none), λ empty. let w = t.was in cc)

front_walk : (n : ℕ) (ns : List ℕ) (h : ℕ) → n ≢ 0 → Some h ≡ front_of (walk n ns h)
front_walk zero ns h e = absurd (e refl)
front_walk (suc n) ns h e = refl

pub front_place : (ns : List ℕ) (cs : List Chain) (k : ℕ) (b : Chain) → k < length cs → get_or cs k b ≡ b → b.len ≢ 0 → Some b.first ≡ front_of (get_or (places ns cs) k [])
front_place ns cs k b h at some = front_walk b.len ns b.first some ∙ ap front_of (sym (chain_is ns cs k b h at))

front_seen : (es : List (Option Entry)) (n : ℕ) (ns : List ℕ) (h : ℕ) → n ≢ 0 → get_or es h None ≡ front_entry es (walk n ns h)
front_seen es zero ns h e = absurd (e refl)
front_seen es (suc n) ns h e = refl

pub front_stands : (es : List (Option Entry)) (ns : List ℕ) (cs : List Chain) (k : ℕ) (b : Chain) → k < length cs → get_or cs k b ≡ b → b.len ≢ 0
    → get_or es b.first None ≡ front_entry es (get_or (places ns cs) k [])
front_stands es ns cs k b h at some = front_seen es b.len ns b.first some ∙ ap (front_entry es) (sym (chain_is ns cs k b h at))

free_in : (fl : ℕ) (ns : List ℕ) (f : ℕ) → fl ≢ 0 → 1 ≤ times f (walk fl ns f)
free_in zero ns f e = absurd (e refl)
free_in (suc m) ns f e = rw (eq-eqb f f refl) (omega arith)

-- where a place is free, the first free one is one of the pool's
pub free_within : (es : List (Option Entry)) (ns : List ℕ) (cs : List Chain) (f fl : ℕ) → IsLinked es ns cs f fl → fl ≢ 0 → f < length es
free_within es ns cs f fl linked some =
    let i = free_in fl ns f some in
    let v = linked.vacant f in
    grind (arith, nat_tests)

pub front_found : (es : List (Option Entry)) (ns : List ℕ) (cs : List Chain) (f fl k : ℕ) (b : Chain) (r : Option Entry) → IsLinked es ns cs f fl → k < length cs → get_or cs k b ≡ b → b.len ≢ 0
    → r ≡ get_or es b.first r → r ≡ front_entry es (get_or (places ns cs) k [])
front_found es ns cs f fl k b r linked h at some seen =
    let n : b.len ≡ suc (b.len - 1) = omega arith in
    let t = taken es ns cs f fl k b (b.len - 1) linked h at n in
    seen ∙ get_or_default es b.first r None t.within ∙ front_stands es ns cs k b h at some

pub none_alike : {A B : Type 0} (a : Option A) (b : Option B) → is_some a ≡ is_some b → IsNone a → IsNone b
none_alike None None e n = search rules
none_alike None (Some y) e n = absurd (cc)
none_alike (Some x) b e n = absurd (cc)
