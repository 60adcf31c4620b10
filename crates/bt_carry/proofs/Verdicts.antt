-- Parts that are lost alike, of the same items, give the same verdicts.
use Rattle.std.proofs.Common.{◌≡◌, ℕ, zero, suc, ◌+◌, Bool, true, false, cond, ltb, ◌&&◌, List, [], ◌∷◌, ◌⊎◌, inl, inr, arith, refl, sym, ap, ◌∙◌, subst, Option, Some, None}
use Rattle.bt_carry.specs.Account.{verdict_on, why_on}
use Rattle.bt_carry.specs.Settled.{settled_from, state_among}
use Rattle.bt_carry.proofs.Trees.{recorded_lost, recorded_refused, recorded_why, lost_outcome}
use Rattle.bt_demand.specs.Holding.{is_open}
use Rattle.bt_demand.specs.Outcomes.{outcome, lost}
use Rattle.bt_demand.specs.Parts.{Part}
use Rattle.bt_demand.specs.Reasons.{least, refused_leaves, why}
use Rattle.bt_demand.specs.Recorded.{recorded, untried, Agree}
use Rattle.bt_demand.specs.Tree.{Tree}
use Rattle.bt_demand.proofs.Recorded.{recorded-untried}
use Rattle.bt_ledger.specs.Due.{times}
use Rattle.bt_ledger.specs.Open.{part_at, tree_of}
use Rattle.bt_ledger.specs.Verdicts.{is_lost_from, lost_from, refusal, verdict_by, why_by, why_unless, text_or}
use Rattle.bt_ports.specs.declared.parts.Record.{Record}
use Rattle.bt_sound.specs.Transactions.{untried_parts}

record Alike (a b : Part) : Type 0 where
  same_from : b.from ≡ a.from
  same_lost : lost b.demand ≡ lost a.demand
  same_refused : refused_leaves b.demand ≡ refused_leaves a.demand
  same_why : lost a.demand ≡ true → why b.demand ≡ why a.demand

abbrev AllAlike : List Part → List Part → Type 0
AllAlike [] [] = Unit {0}
AllAlike [] (q ∷ qs) = ⊥
AllAlike (p ∷ ps) [] = ⊥
AllAlike (p ∷ ps) (q ∷ qs) = Alike p q × AllAlike ps qs

same_part : (p : Part) → Alike p p
same_part p = record { same_from = refl; same_lost = refl; same_refused = refl; same_why = λ e. refl }

alike_at : (ps qs : List Part) (k : ℕ) → AllAlike ps qs → Alike (part_at ps k) (part_at qs k)
alike_at [] [] k h = same_part _
alike_at [] (q ∷ qs) k h = absurd h
alike_at (p ∷ ps) [] k h = absurd h
alike_at (p ∷ ps) (q ∷ qs) zero h = h.0
alike_at (p ∷ ps) (q ∷ qs) (suc k) h = alike_at ps qs k h.1

lost_alike : (ps qs : List Part) (i k : ℕ) → AllAlike ps qs → lost_from i k qs ≡ lost_from i k ps
lost_alike [] [] i k h = refl
lost_alike [] (q ∷ qs) i k h = absurd h
lost_alike (p ∷ ps) [] i k h = absurd h
lost_alike (p ∷ ps) (q ∷ qs) i k h =
    let rest = lost_alike ps qs i (k + 1) h.1 in
    let here : is_lost_from i q ≡ is_lost_from i p = rw (h.0.same_from, h.0.same_lost) refl in
    rw (here, rest) refl

by_alike : (ps qs : List Part) (o : Option ℕ) → AllAlike ps qs → verdict_by qs o ≡ verdict_by ps o
by_alike ps qs None h = refl
by_alike ps qs (Some p) h = ap (λ ls. refusal p (least ls)) (alike_at ps qs p h).same_refused

verdict_alike : (ps qs : List Part) (i : ℕ) → AllAlike ps qs → verdict_on qs i ≡ verdict_on ps i
verdict_alike ps qs i h = ap (verdict_by qs) (lost_alike ps qs i 0 h) ∙ by_alike ps qs (lost_from i 0 ps) h

some_cond : (b : Bool) (k r : ℕ) (o : Option ℕ) → cond b (Some k) o ≡ Some r → ((b ≡ true) × (k ≡ r)) ⊎ (o ≡ Some r)
some_cond true k r o e = let a : k ≡ r = cc in inl (refl, a)
some_cond false k r o e = inr e

and_right : (a b : Bool) → (a && b) ≡ true → b ≡ true
and_right true b e = e
and_right false b e = cc

found_lost : (ps : List Part) (i k r : ℕ) → lost_from i k ps ≡ Some r → (j : ℕ) × ((r ≡ k + j) × (lost (tree_of ps j) ≡ true))
found_lost [] i k r e = cc
found_lost (p ∷ ps) i k r e = elim (some_cond (is_lost_from i p) k r (lost_from i (k + 1) ps) e) [
  | inl h ↦ (0, (omega (arith, h.1), and_right (ltb 0 (times i p.from)) (lost p.demand) h.0))
  | inr h ↦ (let w = found_lost ps i (k + 1) r h in (suc w.0, (let a = w.1.0 in omega arith, w.1.1)))
]

unless_same : (t u : Tree) (o : Option ℕ) → why u ≡ why t → why_unless u o ≡ why_unless t o
unless_same t u None e = ap text_or e
unless_same t u (Some l) e = refl

text_alike : (ps qs : List Part) (o : Option ℕ) → AllAlike ps qs → ((p : ℕ) → o ≡ Some p → lost (tree_of ps p) ≡ true) → why_by qs o ≡ why_by ps o
text_alike ps qs None h f = refl
text_alike ps qs (Some p) h f =
    let a = alike_at ps qs p h in
    ap (λ ls. why_unless (tree_of qs p) (least ls)) a.same_refused ∙ unless_same (tree_of ps p) (tree_of qs p) (least (refused_leaves (tree_of ps p))) (a.same_why (f p refl))

why_alike : (ps qs : List Part) (i : ℕ) → AllAlike ps qs → why_on qs i ≡ why_on ps i
why_alike ps qs i h = ap (why_by qs) (lost_alike ps qs i 0 h) ∙ text_alike ps qs (lost_from i 0 ps) h
    (λ p e. (let w = found_lost ps i 0 p e in let f : w.0 ≡ p = (let a = w.1.0 in omega arith) in subst (λ x. lost (tree_of ps x) ≡ true) f w.1.1))

-- each part's leaves have the states of the records, and it is met or lost
pub record Read (acc rs : List Record) (n p : ℕ) (t : Tree) : Type 0 where
  pub agree : Agree (state_among acc rs n p) t
  pub settles : is_open (outcome t) ≡ false

pub read_shift : (acc rs : List Record) (n p q : ℕ) (t : Tree) → p ≡ q → Read acc rs n p t → Read acc rs n q t
read_shift acc rs n p q t e h = subst (λ x. Read acc rs n x t) e h

settled_alike : (acc rs : List Record) (n p : ℕ) (ps : List Part) → ((j : ℕ) → Read acc rs n (p + j) (tree_of ps j)) → AllAlike ps (settled_from acc rs n p (untried_parts ps))
settled_alike acc rs n p [] h = tt
settled_alike acc rs n p (x ∷ xs) h =
    let here = read_shift acc rs n (p + 0) p x.demand (omega arith) (h 0) in
    let look = state_among acc rs n p in
    let e = recorded-untried look x.demand in (
      record {
        same_from = refl;
        same_lost = ap lost e ∙ recorded_lost look x.demand here.agree here.settles;
        same_refused = ap refused_leaves e ∙ recorded_refused look x.demand here.agree;
        same_why = λ l. ap why e ∙ recorded_why look x.demand here.agree (lost_outcome x.demand l);
      },
      settled_alike acc rs n (p + 1) xs (λ j. read_shift acc rs n (p + suc j) (p + 1 + j) (tree_of xs j) (omega arith) (h (suc j))),
    )

-- the verdicts of parts are those of the parts that the records settle
pub settled_verdict : (acc rs : List Record) (n i : ℕ) (ps : List Part) → ((j : ℕ) → Read acc rs n (0 + j) (tree_of ps j)) → verdict_on ps i ≡ verdict_on (settled_from acc rs n 0 (untried_parts ps)) i
settled_verdict acc rs n i ps h = sym (verdict_alike ps (settled_from acc rs n 0 (untried_parts ps)) i (settled_alike acc rs n 0 ps h))

pub settled_why : (acc rs : List Record) (n i : ℕ) (ps : List Part) → ((j : ℕ) → Read acc rs n (0 + j) (tree_of ps j)) → why_on ps i ≡ why_on (settled_from acc rs n 0 (untried_parts ps)) i
settled_why acc rs n i ps h = sym (why_alike ps (settled_from acc rs n 0 (untried_parts ps)) i (settled_alike acc rs n 0 ps h))

-- the tree of a part that the records settle
pub tree_settled : (acc rs : List Record) (n p : ℕ) (ps : List Part) (j : ℕ) → tree_of (settled_from acc rs n p ps) j ≡ recorded (state_among acc rs n (p + j)) (tree_of ps j)
tree_settled acc rs n p [] j = refl
tree_settled acc rs n p (x ∷ xs) zero = let e : p ≡ p + 0 = omega arith in ap (λ k. recorded (state_among acc rs n k) x.demand) e
tree_settled acc rs n p (x ∷ xs) (suc j) = let e : p + 1 + j ≡ p + suc j = omega arith in tree_settled acc rs n (p + 1) xs j ∙ ap (λ k. recorded (state_among acc rs n k) (tree_of xs j)) e

pub tree_untried : (ps : List Part) (j : ℕ) → tree_of (untried_parts ps) j ≡ untried (tree_of ps j)
tree_untried [] j = refl
tree_untried (p ∷ ps) zero = refl
tree_untried (p ∷ ps) (suc j) = tree_untried ps j
