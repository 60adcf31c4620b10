-- A verdict stays as parts that are open go on.
use Rattle.std.proofs.Common.{◌≡◌, ◌≢◌, ℕ, zero, suc, ◌+◌, ◌<◌, ◌≤◌, Bool, true, false, cond, eqb, ltb, ◌&&◌, List, [], ◌∷◌, length, ◌⊎◌, inl, inr, arith, refl, sym, ap, ◌∙◌, Option, Some, None, get_or-set_same, get_or-set_other}
use Rattle.std.proofs.lemmas.Bool.{eqb-true}
use Rattle.bt_demand.specs.Holding.{is_open}
use Rattle.bt_demand.specs.Outcomes.{outcome, lost}
use Rattle.bt_demand.specs.Parts.{Part}
use Rattle.bt_demand.specs.Reasons.{least, refused_leaves}
use Rattle.bt_demand.specs.Tree.{Tree}
use Rattle.bt_ledger.specs.Due.{times, counts_for, open_parts}
use Rattle.bt_ledger.specs.Open.{Open, tree_of, from_of, part_at, with_tree, no_part}
use Rattle.bt_ledger.specs.Verdicts.{is_lost_from, lost_from, refusal, verdict_by, why_by, why_unless}
use Rattle.bt_ledger.proofs.Counts.{open_parts-set}
use Rattle.bt_ports.specs.declared.parts.AnswerCall.{AnswerCall}
use Rattle.bt_ports.specs.declared.parts.Verdict.{Verdict}
use Rattle.bt_sound.specs.Answers.{Says}

pub open_under : (ps : List Part) (k i : ℕ) → k < length ps → counts_for i (part_at ps k) ≤ open_parts i ps
open_under [] k i h = absurd (omega arith)
open_under (q ∷ ps) zero i h = omega arith
open_under (q ∷ ps) (suc k) i h = let j = open_under ps k i (omega arith) in omega arith

-- an open part doesn't come from an item that has no open part
pub not_from : (ps : List Part) (k i : ℕ) → k < length ps → is_open (outcome (tree_of ps k)) ≡ true → open_parts i ps ≡ 0 → times i (from_of ps k) ≡ 0
not_from ps k i h o e =
    let a = open_under ps k i h in
    let f : counts_for i (part_at ps k) ≡ times i (from_of ps k) = ap {B = ℕ} (λ v. cond v (times i (from_of ps k)) 0) o in
    omega arith

none_lost : (i : ℕ) (q : Part) → times i q.from ≡ 0 → is_lost_from i q ≡ false
none_lost i q e = ap (λ n. ltb 0 n && lost q.demand) e

lost_with : (ps : List Part) (i k p : ℕ) (t : Tree) → p < length ps → times i (from_of ps p) ≡ 0 → lost_from i k (with_tree ps p t) ≡ lost_from i k ps
lost_with [] i k p t h e = absurd (omega arith)
lost_with (q ∷ ps) i k zero t h e =
    let a = none_lost i q e in
    let b = none_lost i (record { from = q.from; demand = t }) e in
    ap (λ v. cond v (Some k) (lost_from i (k + 1) ps)) b ∙ sym (ap (λ v. cond v (Some k) (lost_from i (k + 1) ps)) a)
lost_with (q ∷ ps) i k (suc p) t h e = ap (λ r. cond (is_lost_from i q) (Some k) r) (lost_with ps i (k + 1) p t (omega arith) e)

some_cond : (b : Bool) (k r : ℕ) (o : Option ℕ) → cond b (Some k) o ≡ Some r → ((b ≡ true) × (k ≡ r)) ⊎ ((b ≡ false) × (o ≡ Some r))
some_cond true k r o e = let a : k ≡ r = cc in inl (refl, a)
some_cond false k r o e = inr (refl, e)

lost_above : (ps : List Part) (i k r : ℕ) → lost_from i k ps ≡ Some r → k ≤ r
lost_above [] i k r e = cc
lost_above (q ∷ ps) i k r e = elim (some_cond (is_lost_from i q) k r (lost_from i (k + 1) ps) e) [ inl h ↦ (let j = h.1 in omega arith) | inr h ↦ (let j = lost_above ps i (k + 1) r h.1 in omega arith) ]

lost_other : (ps : List Part) (i k p r : ℕ) → p < length ps → times i (from_of ps p) ≡ 0 → lost_from i k ps ≡ Some r → r ≢ k + p
lost_other [] i k p r h e w = absurd (omega arith)
lost_other (q ∷ ps) i k zero r h e w = elim (some_cond (is_lost_from i q) k r (lost_from i (k + 1) ps) w) [
  | inl j ↦ (let a = none_lost i q e in let b : true ≡ false = sym j.0 ∙ a in cc)
  | inr j ↦ (let a = lost_above ps i (k + 1) r j.1 in λ z. (let y : r ≡ k + 0 = z in absurd (omega arith)))
]
lost_other (q ∷ ps) i k (suc p) r h e w = elim (some_cond (is_lost_from i q) k r (lost_from i (k + 1) ps) w) [
  | inl j ↦ (let a = j.1 in λ z. (let y : r ≡ k + suc p = z in absurd (omega arith)))
  | inr j ↦ (let a = lost_other ps i (k + 1) p r (omega arith) e j.1 in λ z. (let y : r ≡ k + suc p = z in a (omega arith)))
]

verdict_same : (ps qs : List Part) (r : Option ℕ) → ((x : ℕ) → r ≡ Some x → tree_of qs x ≡ tree_of ps x) → verdict_by qs r ≡ verdict_by ps r
verdict_same ps qs None h = refl
verdict_same ps qs (Some x) h = ap (λ t. refusal x (least (refused_leaves t))) (h x refl)

why_same : (ps qs : List Part) (r : Option ℕ) → ((x : ℕ) → r ≡ Some x → tree_of qs x ≡ tree_of ps x) → why_by qs r ≡ why_by ps r
why_same ps qs None h = refl
why_same ps qs (Some x) h = ap (λ t. why_unless t (least (refused_leaves t))) (h x refl)

pub tree_other : (ps : List Part) (p x : ℕ) (t : Tree) → x ≢ p → tree_of (with_tree ps p t) x ≡ tree_of ps x
tree_other ps p x t d = ap (λ (q : Part). q.demand) (get_or-set_other ps p x (record { from = from_of ps p; demand = t }) no_part d)

pub tree_same : (ps : List Part) (p : ℕ) (t : Tree) → p < length ps → tree_of (with_tree ps p t) p ≡ t
tree_same ps p t h = ap (λ (q : Part). q.demand) (get_or-set_same ps p (record { from = from_of ps p; demand = t }) no_part h)

settled_open : (o : Open) (i : ℕ) (v : Verdict) (b : Bool) (w : Verdict) → Some v ≡ cond b (Some w) None → b ≡ true
settled_open o i v true w e = refl
settled_open o i v false w e = cc

pub says_settled : (o : Open) (c : AnswerCall) → Says o c → open_parts c.item o.parts ≡ 0
says_settled o c h = eqb-true (open_parts c.item o.parts) 0 (settled_open o c.item c.verdict (eqb (open_parts c.item o.parts) 0) (verdict_by o.parts (lost_from c.item 0 o.parts)) h.verdict)

cond_zero : (b : Bool) (n : ℕ) → n ≡ 0 → cond b n 0 ≡ 0
cond_zero true n e = e
cond_zero false n e = refl

-- a call says what is so, also after a step in a part that was open
pub says_step : (o : Open) (p : ℕ) (t : Tree) (c : AnswerCall) → p < length o.parts → is_open (outcome (tree_of o.parts p)) ≡ true → Says o c → Says (record o { parts = with_tree o.parts p t }) c
says_step o p t c h e s =
    let i = c.item in
    let z = says_settled o c s in
    let n = not_from o.parts p c.item h e z in
    let same = lost_with o.parts c.item 0 p t h n in
    let trees : (x : ℕ) → lost_from c.item 0 o.parts ≡ Some x → tree_of (with_tree o.parts p t) x ≡ tree_of o.parts x = λ x w. tree_other o.parts p x t (λ y. lost_other o.parts c.item 0 p x h n w (let k : x ≡ p = y in omega arith)) in
    let sum = open_parts-set o.parts p c.item (record { from = from_of o.parts p; demand = t }) h in
    let none : counts_for c.item (record { from = from_of o.parts p; demand = t }) ≡ 0 = cond_zero (is_open (outcome t)) (times c.item (from_of o.parts p)) n in
    let settled : open_parts c.item (with_tree o.parts p t) ≡ 0 = omega arith in
    record {
      answered = s.answered;
      verdict = s.verdict ∙ (ap (λ m. cond (eqb m 0) (Some (verdict_by o.parts (lost_from c.item 0 o.parts))) None) (z ∙ sym settled) ∙ ap (λ (w : Verdict). cond (eqb (open_parts c.item (with_tree o.parts p t)) 0) (Some w) None) (sym (verdict_same o.parts (with_tree o.parts p t) (lost_from c.item 0 o.parts) trees) ∙ ap (verdict_by (with_tree o.parts p t)) (sym same)));
      why = s.why ∙ (sym (why_same o.parts (with_tree o.parts p t) (lost_from c.item 0 o.parts) trees) ∙ ap (why_by (with_tree o.parts p t)) (sym same));
    }
