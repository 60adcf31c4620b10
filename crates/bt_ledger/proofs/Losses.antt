-- The least lost part from an item, as parts are lost one by one.
use Rattle.std.proofs.Common.{◌≡◌, ℕ, zero, suc, ◌+◌, ◌<◌, ◌≤◌, Bool, true, false, cond, eqb, ltb, ◌&&◌, List, [], ◌∷◌, length, get_or, set, inl, inr, arith, refl, sym, ap, ◌∙◌, Option, Some, None, get_or-set_same, get_or-set_other, length-set, drop, drop-cons}
use Rattle.std.specs.Prelude.{min, MatchOption}
use Rattle.std.proofs.lemmas.Bool.Decides.{eqb_tells, nat_tests}
use Rattle.bt_demand.specs.Holding.{one_if}
use Rattle.bt_demand.specs.Outcomes.{lost}
use Rattle.bt_demand.specs.Parts.{Part}
use Rattle.bt_demand.specs.Reasons.{lesser}
use Rattle.bt_demand.specs.Tree.{Tree}
use Rattle.bt_ledger.specs.Counted.{noted}
use Rattle.bt_ledger.specs.Due.{times, Below}
use Rattle.bt_ledger.specs.Open.{tree_of, from_of, with_tree}
use Rattle.bt_ledger.specs.Verdicts.{is_lost_from, lost_from}

pub lesser_joins : (a b c : Option ℕ) → lesser (lesser a b) c ≡ lesser a (lesser b c)
lesser_joins None b c = refl
lesser_joins (Some x) None c = refl
lesser_joins (Some x) (Some y) None = refl
lesser_joins (Some x) (Some y) (Some z) = ap Some (let e : min (min x y) z ≡ min x (min y z) = omega arith in e)

lesser_none : (a : Option ℕ) → lesser a None ≡ a
lesser_none None = refl
lesser_none (Some x) = refl

lesser_same : (a : Option ℕ) (p : ℕ) → lesser (lesser a (Some p)) (Some p) ≡ lesser a (Some p)
lesser_same None p = ap Some (let e : min p p ≡ p = omega arith in e)
lesser_same (Some x) p = ap Some (let e : min (min x p) p ≡ min x p = omega arith in e)

-- no number of the list is below k
abbrev From : ℕ → Option ℕ → Type 0
From k None = Unit {0}
From k (Some m) = k ≤ m

from_later : (k : ℕ) (o : Option ℕ) → From (k + 1) o → From k o
from_later k None h = tt
from_later k (Some m) h = omega arith

from_cond : (b : Bool) (k : ℕ) (o : Option ℕ) → From k o → From k (cond b (Some k) o)
from_cond true k o h = omega arith
from_cond false k o h = h

lost_later : (i k : ℕ) (ps : List Part) → From k (lost_from i k ps)
lost_later i k [] = tt
lost_later i k (p ∷ ps) = from_cond (is_lost_from i p) k (lost_from i (k + 1) ps) (from_later k (lost_from i (k + 1) ps) (lost_later i (k + 1) ps))

-- the lesser of a number and of later ones
lesser_first : (k : ℕ) (o : Option ℕ) → From k o → lesser (Some k) o ≡ Some k
lesser_first k None h = refl
lesser_first k (Some m) h = ap Some (let e : min k m ≡ k = omega arith in e)

lesser_last : (k : ℕ) (o : Option ℕ) → From k o → lesser o (Some k) ≡ Some k
lesser_last k None h = refl
lesser_last k (Some m) h = ap Some (let e : min m k ≡ k = omega arith in e)

-- one more part at the front of the later ones
lost_cons : (b : Bool) (a : Option ℕ) (k : ℕ) (o : Option ℕ) → From k o → lesser (cond b (lesser a (Some k)) a) o ≡ lesser a (cond b (Some k) o)
lost_cons true a k o h = lesser_joins a (Some k) o ∙ ap (lesser a) (lesser_first k o h)
lost_cons false a k o h = refl

pub lost_next : (i k : ℕ) (p : Part) (ps : List Part) (a : Option ℕ) → lesser (cond (is_lost_from i p) (lesser a (Some k)) a) (lost_from i (k + 1) ps) ≡ lesser a (lost_from i k (p ∷ ps))
lost_next i k p ps a = lost_cons (is_lost_from i p) a k (lost_from i (k + 1) ps) (from_later k (lost_from i (k + 1) ps) (lost_later i (k + 1) ps))

-- one part becomes lost
set_cond : (b : Bool) (k m : ℕ) (o r : Option ℕ) → k ≤ m → r ≡ lesser o (Some m) → cond b (Some k) r ≡ lesser (cond b (Some k) o) (Some m)
set_cond true k m o r h e = ap Some (let q : k ≡ min k m = omega arith in q)
set_cond false k m o r h e = e

put_cond : (b c : Bool) (k : ℕ) (o : Option ℕ) → b ≡ false → From k o → cond c (Some k) o ≡ cond c (lesser (cond b (Some k) o) (Some k)) (cond b (Some k) o)
put_cond b true k o e h = sym (ap (λ x. lesser (cond x (Some k) o) (Some k)) e ∙ lesser_last k o h)
put_cond b false k o e h = sym (ap (λ x. cond x (Some k) o) e)

keep_cond : (b c : Bool) (k m : ℕ) (o r : Option ℕ) → k ≤ m → r ≡ cond c (lesser o (Some m)) o → cond b (Some k) r ≡ cond c (lesser (cond b (Some k) o) (Some m)) (cond b (Some k) o)
keep_cond b true k m o r h e = set_cond b k m o r h e
keep_cond b false k m o r h e = ap (cond b (Some k)) e

and_false : (b : Bool) → (b && false) ≡ false
and_false true = refl
and_false false = refl

-- the least lost part after part p, which was not lost, has another tree
pub lost_set : (i k : ℕ) (ps : List Part) (p : ℕ) (t : Tree) → p < length ps → lost (tree_of ps p) ≡ false
    → lost_from i k (with_tree ps p t) ≡ cond (ltb 0 (times i (from_of ps p)) && lost t) (lesser (lost_from i k ps) (Some (k + p))) (lost_from i k ps)
lost_set i k [] p t h e = absurd (omega arith)
lost_set i k (q ∷ ps) zero t h e =
    let z : k + 0 ≡ k = omega arith in
    let b : is_lost_from i q ≡ false = ap (λ x. ltb 0 (times i q.from) && x) e ∙ and_false (ltb 0 (times i q.from)) in
    put_cond (is_lost_from i q) (ltb 0 (times i q.from) && lost t) k (lost_from i (k + 1) ps) b (from_later k (lost_from i (k + 1) ps) (lost_later i (k + 1) ps))
    ∙ ap (λ n. cond (ltb 0 (times i q.from) && lost t) (lesser (lost_from i k (q ∷ ps)) (Some n)) (lost_from i k (q ∷ ps))) (sym z)
lost_set i k (q ∷ ps) (suc p) t h e =
    let z : (k + 1) + p ≡ k + suc p = omega arith in
    keep_cond (is_lost_from i q) (ltb 0 (times i (from_of ps p)) && lost t) k (k + suc p) (lost_from i (k + 1) ps) (lost_from i (k + 1) (with_tree ps p t)) (omega arith)
    (lost_set i (k + 1) ps p t (omega arith) e ∙ ap (λ n. cond (ltb 0 (times i (from_of ps p)) && lost t) (lesser (lost_from i (k + 1) ps) (Some n)) (lost_from i (k + 1) ps)) z)

-- a part whose tree is lost or not as before
pub lost_same : (i k : ℕ) (ps : List Part) (p : ℕ) (t : Tree) → lost t ≡ lost (tree_of ps p) → lost_from i k (with_tree ps p t) ≡ lost_from i k ps
lost_same i k [] p t e = refl
lost_same i k (q ∷ ps) zero t e = ap (λ b. cond (ltb 0 (times i q.from) && b) (Some k) (lost_from i (k + 1) ps)) e
lost_same i k (q ∷ ps) (suc p) t e = ap (cond (is_lost_from i q) (Some k)) (lost_same i (k + 1) ps p t e)

-- a part that is lost is there
in_range : (b : Bool) (k n : ℕ) (o : Option ℕ) (m : ℕ) → cond b (Some k) o ≡ Some m → (o ≡ Some m → m < (k + 1) + n) → m < k + suc n
in_range true k n o m e f = let q : k ≡ m = cc in omega arith
in_range false k n o m e f = let a = f e in omega arith

pub lost_within : (i k : ℕ) (ps : List Part) (m : ℕ) → lost_from i k ps ≡ Some m → m < k + length ps
lost_within i k [] m e = cc
lost_within i k (p ∷ ps) m e = in_range (is_lost_from i p) k (length ps) (lost_from i (k + 1) ps) m e (lost_within i (k + 1) ps m)

pub noted_at : (p : ℕ) (xs : List ℕ) (ls : List (Option ℕ)) (j : ℕ) → j < length xs → noted p (drop (suc j) xs) (set ls (get_or xs j 0) (lesser (get_or ls (get_or xs j 0) None) (Some p))) ≡ noted p (drop j xs) ls
noted_at p xs ls j h = rw (drop-cons xs j 0 h) refl

pub noted-length : (p : ℕ) (xs : List ℕ) (ls : List (Option ℕ)) → length (noted p xs ls) ≡ length ls
noted-length p [] ls = refl
noted-length p (x ∷ xs) ls = noted-length p xs (set ls x (lesser (get_or ls x None) (Some p))) ∙ length-set ls x (lesser (get_or ls x None) (Some p))

-- an item of the part has it noted, and no other has
noted_here : (b : Bool) (a : Option ℕ) (p : ℕ) → cond b (lesser (lesser a (Some p)) (Some p)) (lesser a (Some p)) ≡ lesser a (Some p)
noted_here true a p = lesser_same a p
noted_here false a p = refl

pub noted-gives : (p : ℕ) (xs : List ℕ) (ls : List (Option ℕ)) (i : ℕ) → Below (length ls) xs → get_or (noted p xs ls) i None ≡ cond (ltb 0 (times i xs)) (lesser (get_or ls i None) (Some p)) (get_or ls i None)
noted-gives p [] ls i h = refl
noted-gives p (x ∷ xs) ls i h =
    let v = lesser (get_or ls x None) (Some p) in
    let k = noted-gives p xs (set ls x (lesser (get_or ls x None) (Some p))) i (rw (length-set ls x (lesser (get_or ls x None) (Some p))) h.1) in
    elim (eqb_tells i x) [
      | inl s ↦ (let g : get_or (set ls x (lesser (get_or ls x None) (Some p))) i None ≡ lesser (get_or ls i None) (Some p) =
          ap (λ j. get_or (set ls x (lesser (get_or ls x None) (Some p))) j None) s.1 ∙ get_or-set_same ls x (lesser (get_or ls x None) (Some p)) None h.0 ∙ ap (λ j. lesser (get_or ls j None) (Some p)) (sym s.1) in
          let o : one_if (eqb i x) ≡ 1 = ap one_if s.0 in
          let b : ltb 0 (one_if (eqb i x) + times i xs) ≡ true = grind (arith, nat_tests) in
          k ∙ ap (λ y. cond (ltb 0 (times i xs)) (lesser y (Some p)) y) g ∙ noted_here (ltb 0 (times i xs)) (get_or ls i None) p ∙ sym (ap (λ y. cond y (lesser (get_or ls i None) (Some p)) (get_or ls i None)) b))
      | inr s ↦ (let g : get_or (set ls x (lesser (get_or ls x None) (Some p))) i None ≡ get_or ls i None = get_or-set_other ls x i (lesser (get_or ls x None) (Some p)) None s.1 in
          let o : one_if (eqb i x) + times i xs ≡ times i xs = (let z = ap one_if s.0 in omega arith) in
          k ∙ ap (λ y. cond (ltb 0 (times i xs)) (lesser y (Some p)) y) g ∙ sym (ap (λ n. cond (ltb 0 n) (lesser (get_or ls i None) (Some p)) (get_or ls i None)) o))
    ]

-- of one part that may be lost
and_cond : (a b : Bool) (x y : Option ℕ) → cond b (cond a x y) y ≡ cond (a && b) x y
and_cond true true x y = refl
and_cond true false x y = refl
and_cond false true x y = refl
and_cond false false x y = refl

get_cond : (b : Bool) (xs ys : List (Option ℕ)) (i : ℕ) → get_or (cond b xs ys) i None ≡ cond b (get_or xs i None) (get_or ys i None)
get_cond true xs ys i = refl
get_cond false xs ys i = refl

pub noted_if : (b : Bool) (p : ℕ) (xs : List ℕ) (ls : List (Option ℕ)) (i : ℕ) → Below (length ls) xs
    → get_or (cond b (noted p xs ls) ls) i None ≡ cond (ltb 0 (times i xs) && b) (lesser (get_or ls i None) (Some p)) (get_or ls i None)
noted_if b p xs ls i h = get_cond b (noted p xs ls) ls i ∙ ap (λ y. cond b y (get_or ls i None)) (noted-gives p xs ls i h) ∙ and_cond (ltb 0 (times i xs)) b (lesser (get_or ls i None) (Some p)) (get_or ls i None)

pub lost_inside : (i : ℕ) (ps : List Part) (o : Option ℕ) → o ≡ lost_from i 0 ps → MatchOption o (0 ≤ 0) (λ p. p < length ps)
lost_inside i ps None e = omega arith
lost_inside i ps (Some m) e = let a = lost_within i 0 ps m (sym e) in omega arith
