-- Of an answered item all parts are settled, and stay so.
use Rattle.std.proofs.Common.{◌≡◌, ℕ, zero, suc, ◌+◌, ◌<◌, ◌≤◌, Bool, true, false, cond, List, [], ◌∷◌, length, get_or, set, inl, inr, arith, refl, sym, ap, ◌∙◌, subst, eq-eqb, get_or-set_other}
use Rattle.std.specs.List.{AllByRecursion}
use Rattle.std.specs.Prelude.{replicate}
use Rattle.std.proofs.lemmas.Bool.Decides.{eqb_tells, leb_tells}
use Rattle.bt_leaves.specs.Pursued.{Pursued}
use Rattle.bt_leaves.proofs.Pursued.{settled_pursued}
use Rattle.bt_demand.specs.Holding.{one_if, is_open}
use Rattle.bt_demand.specs.Outcomes.{outcome}
use Rattle.bt_demand.specs.Parts.{Part, PartsFit}
use Rattle.bt_demand.specs.Tree.{Tree, drop as nothing}
use Rattle.bt_ledger.specs.Due.{times, counts_for, open_parts, unanswered, AllSettled}
use Rattle.bt_ledger.specs.Open.{Open, part_at, from_of, tree_of, with_tree}
use Rattle.bt_ledger.proofs.Counts.{open_parts-set}
use Rattle.bt_sound.specs.Answers.{AnsweredSettled}
use Rattle.bt_sound.specs.Transactions.{untried_parts}
use Rattle.bt_sound.proofs.Verdicts.{open_under, not_from}

at_most : (b : Bool) (n : ℕ) → cond b n 0 ≤ n
at_most true n = omega arith
at_most false n = omega arith

-- a step of a part that was open
pub done_step : (o : Open) (p : ℕ) (t : Tree) → p < length o.parts → is_open (outcome (tree_of o.parts p)) ≡ true → AnsweredSettled o → AnsweredSettled (record o { parts = with_tree o.parts p t })
done_step o p t w e h = λ i a.
    let z = h i a in
    let none = not_from o.parts p i w e z in
    let sum = open_parts-set o.parts p i (record { from = from_of o.parts p; demand = t }) w in
    let u = at_most (is_open (outcome t)) (times i (from_of o.parts p)) in
    omega arith

-- an item whose parts are settled is answered
pub done_answer : (o : Open) (i : ℕ) → i < length o.answered → open_parts i o.parts ≡ 0 → AnsweredSettled o → AnsweredSettled (record o { answered = set o.answered i true })
done_answer o i w z h = λ j a. elim (eqb_tells j i) [
  | inl q ↦ ap (λ k. open_parts k o.parts) q.1 ∙ z
  | inr q ↦ h j (sym (get_or-set_other o.answered i j true false q.1) ∙ a)
]

none_true : (n i : ℕ) → get_or (replicate n false) i false ≡ true → ⊥
none_true zero i e = cc
none_true (suc n) zero e = cc
none_true (suc n) (suc i) e = none_true n i e

-- no item is answered yet
pub done_none : (o : Open) (n : ℕ) → o.answered ≡ replicate n false → AnsweredSettled o
done_none o n e = λ i a. absurd (none_true n i (ap (λ bs. get_or bs i false) (sym e) ∙ a))

all_true : (bs : List Bool) (i : ℕ) → unanswered bs ≡ 0 → i < length bs → get_or bs i false ≡ true
all_true [] i h w = absurd (omega arith)
all_true (true ∷ bs) zero h w = refl
all_true (false ∷ bs) zero h w = absurd (omega arith)
all_true (true ∷ bs) (suc i) h w = all_true bs i (omega arith) (omega arith)
all_true (false ∷ bs) (suc i) h w = absurd (omega arith)

-- a part comes from an item
some_item : (xs : List ℕ) (n : ℕ) → 0 < length xs → AllByRecursion (λ i. i < n) xs → (i : ℕ) × ((i < n) × (1 ≤ times i xs))
some_item [] n w h = absurd (omega arith)
some_item (x ∷ xs) n w h = (x, (h.0, (let a = ap one_if (eq-eqb x x refl) in omega arith)))

item_of : (k m n : ℕ) (ps : List Part) (q : ℕ) → q < length ps → PartsFit k m n (untried_parts ps) → (i : ℕ) × ((i < n) × (1 ≤ times i (from_of ps q)))
item_of k m n [] q w f = absurd (omega arith)
item_of k m n (p ∷ ps) zero w f = some_item p.from n f.0.some f.0.known
item_of k m n (p ∷ ps) (suc q) w f = item_of k m n ps q (omega arith) f.1

not_open : (b : Bool) (n : ℕ) → 1 ≤ n → cond b n 0 ≡ 0 → b ≡ false
not_open true n w e = absurd (omega arith)
not_open false n w e = refl

-- where all items are answered, all parts are settled
pub all_done : (k m : ℕ) (o : Open) → PartsFit k m (length o.answered) (untried_parts o.parts) → unanswered o.answered ≡ 0 → AnsweredSettled o → AllSettled o.parts
all_done k m o f u h = λ q w.
    let x = item_of k m (length o.answered) o.parts q w f in
    let z = h x.0 (all_true o.answered x.0 u x.1.0) in
    let a = open_under o.parts q x.0 w in
    not_open (is_open (outcome (tree_of o.parts q))) (times x.0 (from_of o.parts q)) x.1.1 (let e : cond (is_open (outcome (tree_of o.parts q))) (times x.0 (from_of o.parts q)) 0 ≡ counts_for x.0 (part_at o.parts q) = refl in omega arith)

tree_beyond : (ps : List Part) (p : ℕ) → length ps ≤ p → tree_of ps p ≡ nothing
tree_beyond [] p h = refl
tree_beyond (q ∷ ps) zero h = absurd (omega arith)
tree_beyond (q ∷ ps) (suc p) h = tree_beyond ps p (omega arith)

-- and all that is asked of them was done
pub pursued_at : (ps : List Part) (p : ℕ) → AllSettled ps → Pursued (tree_of ps p)
pursued_at ps p h = elim (leb_tells (p + 1) (length ps)) [
  | inl i ↦ settled_pursued (tree_of ps p) (h p (let a = i.1 in omega arith))
  | inr i ↦ subst (λ t. Pursued t) (sym (tree_beyond ps p (let a = i.1 in omega arith))) tt
]
