-- A step of a part of an open transaction, and its counts.
use Rattle.std.proofs.Common.{◌≡◌, ℕ, zero, suc, ◌+◌, ◌-◌, ◌<◌, ◌≤◌, Bool, true, false, cond, eqb, ltb, ◌&&◌, not, List, [], ◌∷◌, length, map, get_or, set, arith, refl, sym, ap, ◌∙◌, Option, Some, None, length-set}
use Rattle.bt_demand.specs.Tree.{Tree}
use Rattle.bt_demand.specs.Outcomes.{outcome}
use Rattle.bt_demand.specs.Recorded.{Grows}
use Rattle.bt_demand.specs.Holding.{is_open}
use Rattle.bt_demand.specs.declared.outcome.Outcome.{Outcome}
use Rattle.bt_demand.specs.declared.outcome.Outcome.TheVariants.{Open as Pending, Met, Lost}
use Rattle.bt_demand.specs.Parts.{Part}
use Rattle.bt_ledger.specs.Open.{Open, tree_of, from_of, with_tree}
use Rattle.bt_demand.specs.Parts.{parts_of}
use Rattle.bt_demand.specs.View.{tree}
use Rattle.bt_demand.specs.declared.demand.Demand.{Demand}
use Rattle.bt_demand.specs.declared.routes.Routed.{Routed}
use Rattle.std.proofs.lemmas.List.{length-map}
use Rattle.bt_demand.specs.Outcomes.{lost, is_lost}
use Rattle.bt_demand.specs.Reasons.{lesser}
use Rattle.bt_demand.specs.declared.routes.Count.{Count}
use Rattle.bt_demand.proofs.Outcomes.{outcome-lost}
use Rattle.bt_ledger.specs.Verdicts.{lost_from}
use Rattle.bt_ledger.specs.Due.{AllSome, Below, LeastDue, times, unanswered}
use Rattle.bt_ledger.specs.Counted.{lefts, nexts, losses, answered_by, lowered, noted, Ready, Waits, Lined, Marked}
use Rattle.bt_steps.specs.Stepped.{stepped}
use Rattle.bt_steps.specs.declared.step.Step.{Step}
use Rattle.bt_ledger.proofs.Counts.{counted_same, counted_ready, counted_settled, counted_answered, due_first, below-at, lowered-length, answered_lowered}
use Rattle.bt_ledger.proofs.Losses.{lost_same, lost_set, noted_if}
use Rattle.bt_ledger.proofs.Answering.{unanswered_set}
use Rattle.bt_ledger.proofs.Seen.{tree_seen, from_seen, part_set, answered_set}
use Rattle.bt_steps.proofs.Steps.{grows_step}

pub tree_here : (rs : List Routed) (k : ℕ) (r : Routed) → k < length rs → r ≡ get_or rs k r → tree r.demand ≡ tree_of (parts_of rs) k
tree_here rs k r h e = ap (λ (x : Routed). tree x.demand) e ∙ tree_seen rs k r h

pub from_here : (rs : List Routed) (k : ℕ) (r : Routed) → k < length rs → r ≡ get_or rs k r → r.from ≡ from_of (parts_of rs) k
from_here rs k r h e = ap (λ (x : Routed). x.from) e ∙ from_seen rs k r h

pub parts_step : (rs : List Routed) (k : ℕ) (r : Routed) (d : Demand) (st : Step) → k < length rs → r ≡ get_or rs k r → tree d ≡ stepped st (tree r.demand)
    → parts_of (set rs k (record { from = r.from; demand = d })) ≡ with_tree (parts_of rs) k (stepped st (tree_of (parts_of rs) k))
parts_step rs k r d st h e w = part_set rs k r (record { from = r.from; demand = d }) (stepped st (tree_of (parts_of rs) k)) h (ap (λ (x : Routed). x.from) e) (w ∙ ap (stepped st) (tree_here rs k r h e))

some_set : (ps : List Part) (k : ℕ) (t : Tree) → AllSome ps → AllSome (set ps k (record { from = from_of ps k; demand = t }))
some_set [] k t h = tt
some_set (p ∷ ps) zero t h = (h.0, h.1)
some_set (p ∷ ps) (suc k) t h = (h.0, some_set ps k t h.1)

not_settled : (a b : Outcome) → Grows a b → (is_open a && not (is_open b)) ≡ false → is_open b ≡ is_open a
not_settled Pending Pending g e = refl
not_settled Pending Met g e = cc
not_settled Pending Lost g e = cc
not_settled Met b g e = ap is_open g
not_settled Lost b g e = ap is_open g

now_settled : (a b : Bool) → (a && not b) ≡ true → (a ≡ true) × (b ≡ false)
now_settled true true e = cc
now_settled true false e = (refl, refl)
now_settled false b e = cc

zero_add : (k : ℕ) → 0 + k ≡ k
zero_add k = omega arith

lost_is : (t : Tree) → is_lost (outcome t) ≡ lost t
lost_is t = outcome-lost t

-- where a step settles nothing, a part is lost or not as before
same_lost : (a b : Outcome) → Grows a b → (is_open a && not (is_open b)) ≡ false → is_lost b ≡ is_lost a
same_lost Pending Pending g e = refl
same_lost Pending Met g e = cc
same_lost Pending Lost g e = cc
same_lost Met b g e = ap is_lost g
same_lost Lost b g e = ap is_lost g

open_not_lost : (a : Outcome) → is_open a ≡ true → is_lost a ≡ false
open_not_lost Pending e = refl
open_not_lost Met e = cc
open_not_lost Lost e = cc

pub marked_same : (ps : List Part) (cs : List Count) (f l n k : ℕ) (st : Step) → Marked ps cs f l n → k < length ps → (is_open (outcome (tree_of ps k)) && not (is_open (outcome (stepped st (tree_of ps k))))) ≡ false
    → Marked (with_tree ps k (stepped st (tree_of ps k))) cs f l n
marked_same ps cs f l n k st m h e =
    let grows = grows_step st (tree_of ps k) in
    let same : lost (stepped st (tree_of ps k)) ≡ lost (tree_of ps k) = sym (lost_is (stepped st (tree_of ps k))) ∙ same_lost _ _ grows e ∙ lost_is (tree_of ps k) in
    record {
      counted = counted_same ps (lefts cs) k (stepped st (tree_of ps k)) m.counted h (not_settled _ _ grows e);
      line = m.line;
      lost = λ i w. m.lost i w ∙ sym (lost_same i 0 ps k (stepped st (tree_of ps k)) same);
      number = m.number;
      some = some_set ps k (stepped st (tree_of ps k)) m.some;
      few = rw (length-set ps k (record { from = from_of ps k; demand = stepped st (tree_of ps k) })) m.few;
    }

pub marked_ready : (ps : List Part) (cs : List Count) (f l n k : ℕ) (st : Step) → Marked ps cs f l n → k < length ps → (is_open (outcome (tree_of ps k)) && not (is_open (outcome (stepped st (tree_of ps k))))) ≡ true
    → Ready (from_of ps k) (lefts cs)
marked_ready ps cs f l n k st m h e = counted_ready ps (lefts cs) k m.counted h (now_settled _ _ e).0

lefts_length : (cs : List Count) → length (lefts cs) ≡ length cs
lefts_length cs = length-map cs (λ (c : Count). c.left)

losses_length : (cs : List Count) → length (losses cs) ≡ length cs
losses_length cs = length-map cs (λ (c : Count). c.lost)

pub marked_settled : (ps : List Part) (cs ds : List Count) (f l n a b k : ℕ) (st : Step) → Marked ps cs f l n → k < length ps → (is_open (outcome (tree_of ps k)) && not (is_open (outcome (stepped st (tree_of ps k))))) ≡ true
    → lefts ds ≡ lowered (from_of ps k) (lefts cs) → losses ds ≡ cond (lost (stepped st (tree_of ps k))) (noted k (from_of ps k) (losses cs)) (losses cs) → Lined (Waits (lefts ds)) (nexts ds) a b
    → Marked (with_tree ps k (stepped st (tree_of ps k))) ds a b n
marked_settled ps cs ds f l n a b k st m h e g o line =
    let s = now_settled _ _ e in
    let was : lost (tree_of ps k) ≡ false = sym (lost_is (tree_of ps k)) ∙ open_not_lost _ s.0 in
    let below : Below (length (losses cs)) (from_of ps k) = (let v = sym (lefts_length cs) in rw (losses_length cs, v) (below-at (length (lefts cs)) ps k h m.counted.below)) in
    let len : length ds ≡ length cs = sym (lefts_length ds) ∙ ap length g ∙ lowered-length (from_of ps k) (lefts cs) ∙ lefts_length cs in
    record {
      counted = rw g (counted_settled ps (lefts cs) k (stepped st (tree_of ps k)) m.counted h s.0 s.1);
      line = line;
      lost = λ i w.
          ap (λ (ls : List (Option ℕ)). get_or ls i None) o
          ∙ noted_if (lost (stepped st (tree_of ps k))) k (from_of ps k) (losses cs) i below
          ∙ ap (λ x. cond (ltb 0 (times i (from_of ps k)) && lost (stepped st (tree_of ps k))) (lesser x (Some k)) x) (m.lost i (omega arith))
          ∙ sym (lost_set i 0 ps k (stepped st (tree_of ps k)) h was ∙ ap (λ j. cond (ltb 0 (times i (from_of ps k)) && lost (stepped st (tree_of ps k))) (lesser (lost_from i 0 ps) (Some j)) (lost_from i 0 ps)) (zero_add k));
      number = m.number ∙ ap unanswered (sym (ap (map (λ n. eqb n 0)) g ∙ answered_lowered (from_of ps k) (lefts cs) (marked_ready ps cs f l n k st m h e)));
      some = some_set ps k (stepped st (tree_of ps k)) m.some;
      few = rw (length-set ps k (record { from = from_of ps k; demand = stepped st (tree_of ps k) })) m.few;
    }

-- what is answered stays so when a part is settled
pub answered_same : (ps : List Part) (cs ds : List Count) (f l n k : ℕ) (st : Step) → Marked ps cs f l n → k < length ps → (is_open (outcome (tree_of ps k)) && not (is_open (outcome (stepped st (tree_of ps k))))) ≡ true
    → lefts ds ≡ lowered (from_of ps k) (lefts cs) → answered_by ds ≡ answered_by cs
answered_same ps cs ds f l n k st m h e g = ap (map (λ n. eqb n 0)) g ∙ answered_lowered (from_of ps k) (lefts cs) (marked_ready ps cs f l n k st m h e)

-- the item that is answered is the first of the line, and one that isn't answered
abbrev open_of : ℕ → ℕ → List Part → List Count → Open
open_of m w ps cs = record { number = m; moment = w; parts = ps; answered = answered_by cs }

pub due_at : (m w : ℕ) (ps : List Part) (cs : List Count) (f l n i : ℕ) → Marked ps cs f l n → LeastDue (open_of m w ps cs) (Some i) → (f ≡ i) × (i < length (lefts cs)) × (1 ≤ n)
due_at m w ps cs f l n i h d =
    let a = due_first (open_of m w ps cs) (lefts cs) (nexts cs) f l i h.counted refl h.line (length-map cs (λ (c : Count). c.next) ∙ sym (lefts_length cs)) d in
    let u = (unanswered_set (answered_by cs) i d.0.0 d.0.1).0 in
    (a.0, a.1, omega (arith, h.number))

pub answered_more : (m w : ℕ) (ps : List Part) (cs ds : List Count) (f l n i : ℕ) → Marked ps cs f l n → LeastDue (open_of m w ps cs) (Some i) → lefts ds ≡ set (lefts cs) f 0 → answered_by ds ≡ set (answered_by cs) i true
answered_more m w ps cs ds f l n i h d e =
    let a = due_at m w ps cs f l n i h d in
    ap (map (λ k. eqb k 0)) (e ∙ ap (λ k. set (lefts cs) k 0) a.0) ∙ answered_set (lefts cs) i

pub marked_answered : (m w : ℕ) (ps : List Part) (cs ds : List Count) (f l n a b i : ℕ) → Marked ps cs f l n → LeastDue (open_of m w ps cs) (Some i) → lefts ds ≡ set (lefts cs) f 0 → losses ds ≡ losses cs → Lined (Waits (lefts ds)) (nexts ds) a b
    → Marked ps ds a b (n - 1)
marked_answered m w ps cs ds f l n a b i h d e o line =
    let q = due_at m w ps cs f l n i h d in
    let left : lefts ds ≡ set (lefts cs) i 0 = e ∙ ap (λ k. set (lefts cs) k 0) q.0 in
    let len : length ds ≡ length cs = sym (lefts_length ds) ∙ ap length left ∙ length-set (lefts cs) i 0 ∙ lefts_length cs in
    let u = (unanswered_set (answered_by cs) i d.0.0 d.0.1).1 in
    let g = ap unanswered (answered_more m w ps cs ds f l n i h d e) in
    record {
      counted = rw left (counted_answered (open_of m w ps cs) (lefts cs) i h.counted refl d);
      line = line;
      lost = λ j v. ap (λ (ls : List (Option ℕ)). get_or ls j None) o ∙ h.lost j (omega arith);
      number = (let z = h.number in omega arith);
      some = h.some;
      few = h.few;
    }
