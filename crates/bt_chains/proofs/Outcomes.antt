-- What a push and a pop make of a pool, as its callers see it.
use Rattle.std.proofs.Common.{inl, inr, ◌≡◌, ◌≢◌, ℕ, zero, suc, ◌+◌, ◌-◌, ◌<◌, ◌^◌, Bool, true, false, cond, eqb, List, ◌∷◌, ◌++◌, Option, Some, None, length, get_or, set, take, drop, arith, refl, sym, ap, ◌∙◌, subst, add-one, get_or-set_other, length-set}
use Rattle.std.proofs.Math.Dec.{eqb-suc-zero}
use Rattle.std.proofs.lemmas.List.{get_or_default, take-append-le, take_all, length-map}
use Rattle.bt_chains.specs.declared.Chain.{Chain}
use Rattle.bt_chains.specs.declared.Entry.{Entry}
use Rattle.bt_chains.specs.Links.{walk, places, no_place, joined, grown, link_after, IsEnded, IsLinked}
use Rattle.bt_chains.specs.Places.{Places, occupied, after_of, last_of, IsPushed, IsPopped}
use Rattle.bt_chains.proofs.Afters.{after_is, decide, no_link}
use Rattle.bt_chains.proofs.Moves.{taken, placed, short, chain_is}

abbrev pub shown : List (Option Entry) → List ℕ → List Chain → ℕ → ℕ → Places
shown es ns cs f fl = record { entries = es; chains = places ns cs; free = walk fl ns f }

-- a place whose entry and link stayed has the same place behind it
same_after : (es es2 : List (Option Entry)) (ns ns2 : List ℕ) (cs cs2 : List Chain) (f f2 fl fl2 y : ℕ) → IsLinked es ns cs f fl → IsLinked es2 ns2 cs2 f2 fl2
    → get_or es2 y None ≡ get_or es y None → get_or ns2 y 0 ≡ get_or ns y 0 → after_of y (places ns2 cs2) ≡ after_of y (places ns cs)
same_after es es2 ns ns2 cs cs2 f f2 fl fl2 y was now e n =
    after_is es2 ns2 cs2 f2 fl2 now y ∙ ap (λ o. link_after o (get_or ns2 y 0)) e ∙ ap (link_after (get_or es y None)) n ∙ sym (after_is es ns cs f fl was y)

empty_after : (o : Option Entry) (n : ℕ) → occupied o ≡ 0 → link_after o n ≡ None
empty_after None n e = refl
empty_after (Some x) n e = absurd (omega arith)

-- a place that was free and then the last of a chain has nothing behind it either time
stopped_after : (es es2 : List (Option Entry)) (ns ns2 : List ℕ) (cs cs2 : List Chain) (f f2 fl fl2 : ℕ) → IsLinked es ns cs f fl → IsLinked es2 ns2 cs2 f2 fl2
    → occupied (get_or es f None) ≡ 0 → get_or ns2 f 0 ≡ no_place → after_of f (places ns2 cs2) ≡ after_of f (places ns cs)
stopped_after es es2 ns ns2 cs cs2 f f2 fl fl2 was now empty stop =
    after_is es2 ns2 cs2 f2 fl2 now f ∙ ap (link_after (get_or es2 f None)) stop ∙ no_link (get_or es2 f None)
    ∙ sym (empty_after (get_or es f None) (get_or ns f 0) empty) ∙ sym (after_is es ns cs f fl was f)

pub record IsPop (es : List (Option Entry)) (ns : List ℕ) (cs : List Chain) (f fl k : ℕ) (b : Chain) (next : ℕ) (r : Option Entry) : Type 0 where
  pub room : fl + 1 < 2 ^ 32
  pub linked : IsLinked (set es b.first None) (set ns b.first f) (set cs k (record { first = next; last = b.last; len = b.len - 1 })) b.first (fl + 1)
  pub popped : IsPopped (shown es ns cs f fl) (shown (set es b.first None) (set ns b.first f) (set cs k (record { first = next; last = b.last; len = b.len - 1 })) b.first (fl + 1)) k r

pub within_pop : (es : List (Option Entry)) (ns : List ℕ) (cs : List Chain) (f fl k : ℕ) (b : Chain) → IsLinked es ns cs f fl → k < length cs → get_or cs k b ≡ b → b.len ≢ 0 → b.first < length es
within_pop es ns cs f fl k b linked h at some =
    let n : b.len ≡ suc (b.len - 1) = omega arith in
    (taken es ns cs f fl k b (b.len - 1) linked h at n).within

pub pop : (es : List (Option Entry)) (ns : List ℕ) (cs : List Chain) (f fl k : ℕ) (b : Chain) (next : ℕ) (r : Option Entry) → IsLinked es ns cs f fl → k < length cs → get_or cs k b ≡ b → b.len ≢ 0
    → next ≡ get_or ns b.first next → r ≡ get_or es b.first r → IsPop es ns cs f fl k b next r
pop es ns cs f fl k b next r linked h at some link seen =
    let n : b.len ≡ suc (b.len - 1) = omega arith in
    let t = taken es ns cs f fl k b (b.len - 1) linked h at n in
    let sizes = linked.linked in
    let inside = t.within in
    let u : b.first < length ns = omega arith in
    let link0 : next ≡ get_or ns b.first 0 = link ∙ get_or_default ns b.first next 0 u in
    let seen0 : r ≡ get_or es b.first None = seen ∙ get_or_default es b.first r None inside in
    let s = short es ns cs f fl k b linked h at in
    let now : IsLinked (set es b.first None) (set ns b.first f) (set cs k (record { first = next; last = b.last; len = b.len - 1 })) b.first (fl + 1) = rw (link0, add-one) t.linked in
    record {
      room = omega arith;
      linked = now;
      popped = rw t.was (record {
        taken = seen0;
        entries = refl;
        chains = rw link0 t.chains;
        free = rw add-one t.free;
        others = λ y o.
            same_after es (set es b.first None) ns (set ns b.first f) cs (set cs k (record { first = next; last = b.last; len = b.len - 1 })) f b.first fl (fl + 1) y linked now
            (get_or-set_other es b.first y None None o) (get_or-set_other ns b.first y f 0 o);
      });
    }

joined_other : (ns : List ℕ) (bf bl n f y : ℕ) → IsEnded ns (record { first = bf; last = bl; len = n }) → y ≢ f → last_of (walk n ns bf) ≢ Some y
    → get_or (joined (record { first = bf; last = bl; len = n }) f (set ns f no_place)) y 0 ≡ get_or ns y 0
joined_other ns bf bl zero f y ended o e = get_or-set_other ns f y no_place 0 o
joined_other ns bf bl (suc l) f y ended o e =
    let P : Bool → Type 0 = λ t. get_or (cond t (set ns f no_place) (set (set ns f no_place) bl f)) y 0 ≡ get_or ns y 0 in
    let other : y ≢ bl = λ i. e (ap Some (ended.last ∙ sym i)) in
    subst P (sym (eqb-suc-zero l)) (get_or-set_other (set ns f no_place) bl y f 0 other ∙ get_or-set_other ns f y no_place 0 o)

pub record IsPush (es : List (Option Entry)) (ns ns2 : List ℕ) (cs : List Chain) (f fl k : ℕ) (c : Chain) (next : ℕ) (e : Entry) : Type 0 where
  pub linked : IsLinked (set es f (Some e)) ns2 (set cs k c) next (fl - 1)
  pub pushed : IsPushed (shown es ns cs f fl) (shown (set es f (Some e)) ns2 (set cs k c) next (fl - 1)) k e f

pub push : (es : List (Option Entry)) (ns ns2 : List ℕ) (cs : List Chain) (f fl k : ℕ) (b c : Chain) (next : ℕ) (e : Entry) → IsLinked es ns cs f fl → k < length cs → get_or cs k b ≡ b → fl ≢ 0
    → next ≡ get_or ns f next → c ≡ grown b f → ns2 ≡ joined b f (set ns f no_place) → IsPush es ns ns2 cs f fl k c next e
push es ns ns2 cs f fl k b c next e linked h at some link longer write =
    let n : fl ≡ suc (fl - 1) = omega arith in
    let linked1 : IsLinked es ns cs f (suc (fl - 1)) = subst (λ m. IsLinked es ns cs f m) n linked in
    let p = placed es ns cs f (fl - 1) k b e linked1 h at in
    let sizes = linked.linked in
    let inside = p.within in
    let u : f < length ns = omega arith in
    let link0 : next ≡ get_or ns f 0 = link ∙ get_or_default ns f next 0 u in
    let now : IsLinked (set es f (Some e)) ns2 (set cs k c) next (fl - 1) = rw (link0, longer, write) p.linked in
    let ended : IsEnded ns b = rw at at (linked.ends k b h) in
    record {
      linked = now;
      pushed = record {
        was_free = ap (λ m. walk m ns f) n ∙ ap (λ ys. f ∷ ys) (sym (rw (link0, write) p.free));
        entries = refl;
        chains = rw (longer, write) p.chains;
        others = λ y l.
            elim (decide y f (eqb y f) refl) [
              | inl w ↦
                  let new : get_or ns2 f 0 ≡ no_place = ap (λ ms. get_or ms f 0) write ∙ p.stop in
                  rw w.1 (stopped_after es (set es f (Some e)) ns ns2 cs (set cs k c) f next fl (fl - 1) linked now p.empty new)
              | inr w ↦
                  same_after es (set es f (Some e)) ns ns2 cs (set cs k c) f next fl (fl - 1) y linked now
                  (get_or-set_other es f y (Some e) None w.1)
                  (ap (λ ms. get_or ms y 0) write ∙ joined_other ns b.first b.last b.len f y ended w.1 (rw (chain_is ns cs k b h at) at l))
            ];
      };
    }

-- a list written whole over one as long
refilled : (n : ℕ) (xs ys : List ℕ) → length xs ≡ length ys → n ≡ length ys → take n (xs ++ drop (length xs) ys) ≡ xs
refilled n xs ys e i = take-append-le n xs (drop (length xs) ys) (omega arith) ∙ take_all n xs (omega arith)

cond_length : (t : Bool) (ns : List ℕ) (p x : ℕ) → length (cond t ns (set ns p x)) ≡ length ns
cond_length true ns p x = refl
cond_length false ns p x = length-set ns p x

length_joined : (b : Chain) (f : ℕ) (ns : List ℕ) → length (joined b f ns) ≡ length ns
length_joined b f ns = cond_length (eqb b.len 0) ns b.last f

pub pushed_links : (n : ℕ) (new old : List ℕ) (ns : List ℕ) (b : Chain) (f : ℕ) → new ≡ joined b f old → old ≡ set ns f no_place → n ≡ length ns
    → take n (new ++ drop (length new) (set ns f no_place)) ≡ joined b f (set ns f no_place)
pushed_links n new old ns b f write was size =
    let w : new ≡ joined b f (set ns f no_place) = write ∙ ap (joined b f) was in
    let l = length_joined b f (set ns f no_place) in
    let s = length-set ns f no_place in
    let e = ap {B = ℕ} length w in
    refilled n new (set ns f no_place) (omega arith) (omega arith) ∙ w

pub chains_kept : (ns ns2 : List ℕ) (cs : List Chain) (k : ℕ) (c : Chain) → length (places ns2 (set cs k c)) ≡ length (places ns cs)
chains_kept ns ns2 cs k c = length-map (set cs k c) (λ (d : Chain). walk d.len ns2 d.first) ∙ length-set cs k c ∙ sym (length-map cs (λ (d : Chain). walk d.len ns d.first))
