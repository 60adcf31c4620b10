-- A line of items: one more at its front or between two, its first answered, and what it is at the beginning.
use Rattle.std.proofs.Common.{◌≡◌, ◌≢◌, ℕ, zero, suc, ◌+◌, ◌<◌, ◌≤◌, cond, eqb, List, [], ◌∷◌, length, get_or, set, ◌⊎◌, inl, inr, arith, sym, ap, ◌∙◌, subst, get_or-set_same, get_or-set_other, length-set}
use Rattle.std.specs.Prelude.{max}
use Rattle.std.proofs.lemmas.Bool.Decides.{eqb_tells, leb_tells}
use Rattle.bt_ledger.specs.Counted.{Waits, WaitsFrom, Lined}

below_or : (a b : ℕ) → (a < b) ⊎ (b ≤ a)
below_or a b = elim (leb_tells b a) [ inl h ↦ inr h.1 | inr h ↦ inl h.1 ]

-- the same items
pub line_same : (D E : ℕ → Type 0) (ns : List ℕ) (f l : ℕ) → Lined D ns f l → ((i : ℕ) → E i → D i) → ((i : ℕ) → D i → E i) → Lined E ns f l
line_same D E ns f l h to from = record {
  inside = h.inside;
  least = λ i v e. h.least i v (to i e);
  found = λ v. from f (h.found v);
  within = λ i e. h.within i (to i e);
  later = λ i e. h.later i (to i e);
  ends = λ i e. h.ends i (to i e);
  gap = λ i j e v w g. h.gap i j (to i e) v w (to j g);
  leads = λ i e v. from (get_or ns i 0) (h.leads i (to i e) v);
  closes = λ v. from l (h.closes v);
  most = λ i v e. h.most i v (to i e);
}

-- no item at all
pub line_empty : (D : ℕ → Type 0) (ns : List ℕ) (l : ℕ) → ((i : ℕ) → D i → ⊥) → Lined D ns (length ns) l
line_empty D ns l none = record {
  inside = omega arith;
  least = λ i v d. none i d;
  found = λ v. absurd (omega arith);
  within = λ i d. absurd (none i d);
  later = λ i d. absurd (none i d);
  ends = λ i d. absurd (none i d);
  gap = λ i j d v w e. none i d;
  leads = λ i d v. absurd (none i d);
  closes = λ v. absurd (omega arith);
  most = λ i v d. none i d;
}

-- one more before all others
pub line_front : (D E : ℕ → Type 0) (ns : List ℕ) (f l x : ℕ) → Lined D ns f l → x < f → ((i : ℕ) → E i → D i ⊎ (i ≡ x)) → ((i : ℕ) → D i → E i) → E x
    → Lined E (set ns x f) x (cond (eqb f (length ns)) x l)
line_front D E ns f l x h w to from here =
    let inside = h.inside in
    let len : length (set ns x f) ≡ length ns = length-set ns x f in
    let at : get_or (set ns x f) x 0 ≡ f = get_or-set_same ns x f 0 (omega arith) in
    let apart : (i : ℕ) → D i → i ≢ x = λ i d e. h.least i (omega arith) d in
    let other : (i : ℕ) → D i → get_or (set ns x f) i 0 ≡ get_or ns i 0 = λ i d. get_or-set_other ns x i f 0 (apart i d) in
    let same : (i : ℕ) → i ≡ x → get_or (set ns x f) i 0 ≡ f = λ i e. ap (λ k. get_or (set ns x f) k 0) e ∙ at in
    record {
      inside = omega arith;
      least = λ i v e. elim (to i e) [ inl d ↦ h.least i (omega arith) d | inr q ↦ absurd (omega arith) ];
      found = λ v. here;
      within = λ i e. elim (to i e) [ inl d ↦ (let a = h.within i d in omega arith) | inr q ↦ omega arith ];
      later = λ i e. elim (to i e) [
        | inl d ↦ (let o = other i d in let a = h.later i d in omega arith)
        | inr q ↦ (let s = same i q in omega arith)
      ];
      ends = λ i e. elim (to i e) [
        | inl d ↦ (let o = other i d in let a = h.ends i d in omega arith)
        | inr q ↦ (let s = same i q in omega arith)
      ];
      gap = λ i j e v u g. elim (to j g) [
        | inl b ↦ elim (to i e) [
          | inl d ↦ (let o = other i d in h.gap i j d v (omega arith) b)
          | inr q ↦ (let s = same i q in h.least j (omega arith) b)
        ]
        | inr p ↦ elim (to i e) [ inl d ↦ h.least i (omega arith) d | inr q ↦ omega arith ]
      ];
      leads = λ i e v. elim (to i e) [
        | inl d ↦ (let o = other i d in subst E (sym o) (from (get_or ns i 0) (h.leads i d (omega arith))))
        | inr q ↦ (let s = same i q in subst E (sym s) (from f (h.found (omega arith))))
      ];
      closes = λ v. elim (eqb_tells f (length ns)) [
        | inl p ↦ subst E (sym (ap (λ b. cond b x l) p.0)) here
        | inr p ↦ subst E (sym (ap (λ b. cond b x l) p.0)) (from l (h.closes (let n = p.1 in omega arith)))
      ];
      most = λ i v e. elim (eqb_tells f (length ns)) [
        | inl p ↦ (let y : cond (eqb f (length ns)) x l ≡ x = ap (λ b. cond b x l) p.0 in let q = p.1 in
            elim (to i e) [ inl d ↦ (let a = h.within i d in h.least i (omega arith) d) | inr r ↦ omega arith ])
        | inr p ↦ (let y : cond (eqb f (length ns)) x l ≡ l = ap (λ b. cond b x l) p.0 in let n = p.1 in
            elim (to i e) [ inl d ↦ h.most i (omega arith) d | inr r ↦ h.least l (omega arith) (h.closes (omega arith)) ])
      ];
    }

-- one more between an item and the one that it leads to
pub line_behind : (D E : ℕ → Type 0) (ns : List ℕ) (f l p x : ℕ) → Lined D ns f l → D p → p < x → x < get_or ns p 0 → x < length ns → ((i : ℕ) → E i → D i ⊎ (i ≡ x)) → ((i : ℕ) → D i → E i) → E x
    → Lined E (set (set ns x (get_or ns p 0)) p x) f (max l x)
line_behind D E ns f l p x h dp px xm xn to from here =
    let m = get_or ns p 0 in
    let len : length (set (set ns x (get_or ns p 0)) p x) ≡ length ns = length-set (set ns x (get_or ns p 0)) p x ∙ length-set ns x (get_or ns p 0) in
    let lenx : length (set ns x (get_or ns p 0)) ≡ length ns = length-set ns x (get_or ns p 0) in
    let out : D x → ⊥ = λ d. h.gap p x dp px xm d in
    let start : f ≤ p = elim (below_or p f) [ inl v ↦ absurd (h.least p v dp) | inr v ↦ v ] in
    let vp : (i : ℕ) → i ≡ p → get_or (set (set ns x (get_or ns p 0)) p x) i 0 ≡ x = λ i e. ap (λ k. get_or (set (set ns x (get_or ns p 0)) p x) k 0) e ∙ get_or-set_same (set ns x (get_or ns p 0)) p x 0 (omega arith) in
    let vx : (i : ℕ) → i ≡ x → get_or (set (set ns x (get_or ns p 0)) p x) i 0 ≡ get_or ns p 0 = λ i e. ap (λ k. get_or (set (set ns x (get_or ns p 0)) p x) k 0) e ∙ get_or-set_other (set ns x (get_or ns p 0)) p x x 0 (λ q. omega arith) ∙ get_or-set_same ns x (get_or ns p 0) 0 xn in
    let vo : (i : ℕ) → D i → i ≢ p → get_or (set (set ns x (get_or ns p 0)) p x) i 0 ≡ get_or ns i 0 = λ i d n. get_or-set_other (set ns x (get_or ns p 0)) p i x 0 n ∙ get_or-set_other ns x i (get_or ns p 0) 0 (λ e. out (subst D e d)) in
    let end = h.ends p dp in
    record {
      inside = omega arith;
      least = λ i v e. elim (to i e) [ inl d ↦ h.least i v d | inr q ↦ omega arith ];
      found = λ v. from f (h.found (omega arith));
      within = λ i e. elim (to i e) [ inl d ↦ (let a = h.within i d in omega arith) | inr q ↦ omega arith ];
      later = λ i e. elim (to i e) [
        | inl d ↦ elim (eqb_tells i p) [ inl q ↦ (let o = vp i q.1 in let r = q.1 in omega arith) | inr q ↦ (let o = vo i d q.1 in let a = h.later i d in omega arith) ]
        | inr q ↦ (let o = vx i q in omega arith)
      ];
      ends = λ i e. elim (to i e) [
        | inl d ↦ elim (eqb_tells i p) [ inl q ↦ (let o = vp i q.1 in omega arith) | inr q ↦ (let o = vo i d q.1 in let a = h.ends i d in omega arith) ]
        | inr q ↦ (let o = vx i q in omega arith)
      ];
      gap = λ i j e v u g. elim (to i e) [
        | inl d ↦ elim (eqb_tells i p) [
          | inl q ↦ (let o = vp i q.1 in let r = q.1 in elim (to j g) [ inl b ↦ h.gap p j dp (omega arith) (omega arith) b | inr s ↦ omega arith ])
          | inr q ↦ (let o = vo i d q.1 in elim (to j g) [
            | inl b ↦ h.gap i j d v (omega arith) b
            | inr s ↦ elim (below_or i p) [ inl y ↦ h.gap i p d y (omega arith) dp | inr y ↦ (let n = q.1 in h.gap p i dp (omega arith) (omega arith) d) ]
          ])
        ]
        | inr q ↦ (let o = vx i q in elim (to j g) [ inl b ↦ h.gap p j dp (omega arith) (omega arith) b | inr s ↦ omega arith ])
      ];
      leads = λ i e v. elim (to i e) [
        | inl d ↦ elim (eqb_tells i p) [
          | inl q ↦ subst E (sym (vp i q.1)) here
          | inr q ↦ (let o = vo i d q.1 in subst E (sym o) (from (get_or ns i 0) (h.leads i d (omega arith))))
        ]
        | inr q ↦ (let o = vx i q in subst E (sym o) (from (get_or ns p 0) (h.leads p dp (omega arith))))
      ];
      closes = λ v. elim (below_or l x) [
        | inl w ↦ (let q : x ≡ max l x = omega arith in subst E q here)
        | inr w ↦ (let q : l ≡ max l x = omega arith in subst E q (from l (h.closes (omega arith))))
      ];
      most = λ i v e. elim (to i e) [ inl d ↦ h.most i (omega arith) d | inr q ↦ omega arith ];
    }

-- the first leaves
pub line_leave : (D E : ℕ → Type 0) (ns : List ℕ) (f l : ℕ) → Lined D ns f l → f < length ns → ((i : ℕ) → E i → D i × (i ≢ f)) → ((i : ℕ) → D i → i ≢ f → E i) → Lined E ns (get_or ns f 0) l
line_leave D E ns f l h w to from =
    let df = h.found w in
    let above : (i : ℕ) → D i → f ≤ i = λ i d. elim (below_or i f) [ inl v ↦ absurd (h.least i v d) | inr v ↦ v ] in
    record {
      inside = h.ends f df;
      least = λ i v e. (let a = above i (to i e).0 in let n = (to i e).1 in h.gap f i df (omega arith) v (to i e).0);
      found = λ v. (let a = h.later f df in from (get_or ns f 0) (h.leads f df v) (λ q. omega arith));
      within = λ i e. h.within i (to i e).0;
      later = λ i e. h.later i (to i e).0;
      ends = λ i e. h.ends i (to i e).0;
      gap = λ i j e v u g. h.gap i j (to i e).0 v u (to j g).0;
      leads = λ i e v. (let a = above i (to i e).0 in let b = h.later i (to i e).0 in from (get_or ns i 0) (h.leads i (to i e).0 v) (λ q. omega arith));
      closes = λ v. from l (h.closes w) (λ q. (let a = h.later f df in h.most (get_or ns f 0) (omega arith) (h.leads f df v)));
      most = λ i v e. h.most i v (to i e).0;
    }

-- what is left after one place was set
waits_at : (os : List ℕ) (x v i : ℕ) → x < length os → Waits (set os x v) i → (Waits os i × (i ≢ x)) ⊎ ((i ≡ x) × (v ≡ 1))
waits_at os x v i w e = elim (eqb_tells i x) [
  | inl s ↦ inr (s.1, sym (get_or-set_same os x v 0 w) ∙ ap (λ k. get_or (set os x v) k 0) (sym s.1) ∙ e)
  | inr s ↦ inl (sym (get_or-set_other os x i v 0 s.1) ∙ e, s.1)
]

waits_kept : (os : List ℕ) (x v i : ℕ) → Waits os i → i ≢ x → Waits (set os x v) i
waits_kept os x v i e n = get_or-set_other os x i v 0 n ∙ e

waits_here : (os : List ℕ) (x : ℕ) → x < length os → Waits (set os x 1) x
waits_here os x w = get_or-set_same os x 1 0 w

apart : (os : List ℕ) (x i : ℕ) → (Waits os x → ⊥) → Waits os i → i ≢ x
apart os x i out e q = out (subst (Waits os) q e)

one_more : (os : List ℕ) (x i : ℕ) → x < length os → Waits (set os x 1) i → Waits os i ⊎ (i ≡ x)
one_more os x i w e = elim (waits_at os x 1 i w e) [ inl s ↦ inl s.0 | inr s ↦ inr s.0 ]

pub front_waits : (os ns : List ℕ) (f l x : ℕ) → Lined (Waits os) ns f l → x < f → x < length os → (Waits os x → ⊥) → Lined (Waits (set os x 1)) (set ns x f) x (cond (eqb f (length ns)) x l)
front_waits os ns f l x h w v out = line_front (Waits os) (Waits (set os x 1)) ns f l x h w (λ i e. one_more os x i v e) (λ i e. waits_kept os x 1 i e (apart os x i out e)) (waits_here os x v)

pub behind_waits : (os ns : List ℕ) (f l p x : ℕ) → Lined (Waits os) ns f l → Waits os p → p < x → x < get_or ns p 0 → x < length ns → x < length os → (Waits os x → ⊥)
    → Lined (Waits (set os x 1)) (set (set ns x (get_or ns p 0)) p x) f (max l x)
behind_waits os ns f l p x h dp a b n v out = line_behind (Waits os) (Waits (set os x 1)) ns f l p x h dp a b n (λ i e. one_more os x i v e) (λ i e. waits_kept os x 1 i e (apart os x i out e)) (waits_here os x v)

-- an item of which more than its answer is left, before and after
pub other_waits : (os ns : List ℕ) (f l x v : ℕ) → Lined (Waits os) ns f l → x < length os → (Waits os x → ⊥) → v ≢ 1 → Lined (Waits (set os x v)) ns f l
other_waits os ns f l x v h w out n = line_same (Waits os) (Waits (set os x v)) ns f l h
    (λ i e. elim (waits_at os x v i w e) [ inl s ↦ s.0 | inr s ↦ absurd (n s.1) ])
    (λ i e. waits_kept os x v i e (apart os x i out e))

pub leave_waits : (os ns : List ℕ) (f l : ℕ) → Lined (Waits os) ns f l → f < length ns → f < length os → Lined (Waits (set os f 0)) ns (get_or ns f 0) l
leave_waits os ns f l h w v = line_leave (Waits os) (Waits (set os f 0)) ns f l h w
    (λ i e. elim (waits_at os f 0 i v e) [ inl s ↦ s | inr s ↦ absurd (let z = s.1 in omega arith) ])
    (λ i e n. waits_kept os f 0 i e n)

-- the line of the later items, with one more
pub from_more : (os ns : List ℕ) (f l k : ℕ) → Lined (WaitsFrom (k + 1) os) ns f l → k < length ns → Waits os k → Lined (WaitsFrom k os) (set ns k f) k (cond (eqb f (length ns)) k l)
from_more os ns f l k h w e =
    let first : k < f = elim (below_or k f) [ inl v ↦ v | inr v ↦ absurd (let d = h.found (omega arith) in omega (arith, d.0)) ] in
    line_front (WaitsFrom (k + 1) os) (WaitsFrom k os) ns f l k h first
    (λ i d. elim (eqb_tells i k) [ inl s ↦ inr s.1 | inr s ↦ inl (let a = d.0 in let n = s.1 in omega arith, d.1) ])
    (λ i d. (let a = d.0 in omega arith, d.1))
    (omega arith, e)

pub from_same : (os ns : List ℕ) (f l k : ℕ) → Lined (WaitsFrom (k + 1) os) ns f l → (Waits os k → ⊥) → Lined (WaitsFrom k os) ns f l
from_same os ns f l k h out = line_same (WaitsFrom (k + 1) os) (WaitsFrom k os) ns f l h
    (λ i d. elim (eqb_tells i k) [ inl s ↦ absurd (out (subst (Waits os) s.1 d.1)) | inr s ↦ (let a = d.0 in let n = s.1 in omega arith, d.1) ])
    (λ i d. (let a = d.0 in omega arith, d.1))

within_list : (os : List ℕ) (i : ℕ) → Waits os i → i < length os
within_list [] i e = absurd (omega arith)
within_list (n ∷ os) zero e = omega arith
within_list (n ∷ os) (suc i) e = let a = within_list os i e in omega arith

pub from_none : (os ns : List ℕ) (l : ℕ) → length os ≡ length ns → Lined (WaitsFrom (length ns) os) ns (length ns) l
from_none os ns l q = line_empty (WaitsFrom (length ns) os) ns l (λ i d. let a = within_list os i d.1 in let b = d.0 in omega arith)

pub from_all : (os ns : List ℕ) (f l : ℕ) → Lined (WaitsFrom 0 os) ns f l → Lined (Waits os) ns f l
from_all os ns f l h = line_same (WaitsFrom 0 os) (Waits os) ns f l h (λ i e. (omega arith, e)) (λ i d. d.1)
