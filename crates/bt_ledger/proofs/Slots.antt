-- One slot of the table is changed.
use Rattle.std.proofs.Common.{◌≡◌, ℕ, zero, suc, ◌+◌, ◌<◌, ◌≤◌, Bool, true, false, cond, eqb, List, [], ◌∷◌, ◌++◌, length, get_or, set, inl, inr, arith, refl, sym, ap, ◌∙◌, eq-eqb, get_or-set_same, get_or-set_other, IsTrue}
use Rattle.std.proofs.lemmas.Bool.Decides.{eqb_tells}
use Rattle.bt_demand.specs.Tree.{Tree}
use Rattle.bt_demand.specs.Holding.{one_if}
use Rattle.bt_demand.specs.Parts.{Part}
use Rattle.bt_ledger.specs.Open.{tree_of}
use Rattle.bt_ledger.specs.Ledger.{parts_in, is_free, is_given, taken_slots, over_parts, over_slots}
use Rattle.bt_ledger.specs.declared.slot.Slot.{Slot}
use Rattle.bt_ledger.specs.declared.slot.Slot.TheVariants.{Free, Out, Given}
use Rattle.std.proofs.lemmas.List.{get_or_default}
use Rattle.bt_ledger.specs.Due.{times}
use Rattle.bt_ledger.specs.Kept.{Vacant, taken_slot}
use Rattle.bt_ledger.specs.Ledger.{stepped_slot, stepped_slots}
use Rattle.bt_steps.specs.Stepped.{stepped}
use Rattle.bt_steps.specs.declared.step.Step.{Step}
use Rattle.bt_ledger.proofs.Sums.{slots_set, parts_set}

-- the sum over all trees after a step of one
pub step_sum : (f : Tree → ℕ) (ss : List Slot) (s p : ℕ) (st : Step) → s < length ss → p < length (parts_in (get_or ss s Free))
    → over_slots f (stepped_slots st s p ss) + f (tree_of (parts_in (get_or ss s Free)) p) ≡ over_slots f ss + f (stepped st (tree_of (parts_in (get_or ss s Free)) p))
step_sum f ss s p st h w =
    let a = slots_set f ss s (stepped_slot st p (get_or ss s Free)) h in
    let b = parts_set f (parts_in (get_or ss s Free)) p (stepped st (tree_of (parts_in (get_or ss s Free)) p)) w in
    omega arith

part_under : (f : Tree → ℕ) (ps : List Part) (p : ℕ) → p < length ps → f (tree_of ps p) ≤ over_parts f ps
part_under f [] p h = absurd (omega arith)
part_under f (q ∷ ps) zero h = omega arith
part_under f (q ∷ ps) (suc p) h = let a = part_under f ps p (omega arith) in omega arith

slot_under : (f : Tree → ℕ) (ss : List Slot) (s : ℕ) → s < length ss → over_parts f (parts_in (get_or ss s Free)) ≤ over_slots f ss
slot_under f [] s h = absurd (omega arith)
slot_under f (x ∷ ss) zero h = omega arith
slot_under f (x ∷ ss) (suc s) h = let a = slot_under f ss s (omega arith) in omega arith

pub sum_under : (f : Tree → ℕ) (ss : List Slot) (s p : ℕ) → s < length ss → p < length (parts_in (get_or ss s Free)) → f (tree_of (parts_in (get_or ss s Free)) p) ≤ over_slots f ss
sum_under f ss s p h w = let a = part_under f (parts_in (get_or ss s Free)) p w in let b = slot_under f ss s h in omega arith

pub taken_set : (ss : List Slot) (s : ℕ) (x : Slot) → s < length ss → taken_slots (set ss s x) + cond (is_free (get_or ss s Free)) 0 1 ≡ taken_slots ss + cond (is_free x) 0 1
taken_set [] s x h = absurd (omega arith)
taken_set (y ∷ ss) zero x h = omega arith
taken_set (y ∷ ss) (suc s) x h = let a = taken_set ss s x (omega arith) in omega arith

pub vacant_same : (ss : List Slot) (vs : List ℕ) (s : ℕ) (x : Slot) → Vacant ss vs → s < length ss → is_free x ≡ is_free (get_or ss s Free) → Vacant (set ss s x) vs
vacant_same ss vs s x v h e = record {
  each = λ y. elim (eqb_tells y s) [
    | inl i ↦ (let a = get_or-set_same ss s x taken_slot h in
        let d = get_or_default ss s Free taken_slot h in
        v.each y ∙ ap one_if (ap (λ k. is_free (get_or ss k taken_slot)) i.1 ∙ ap is_free (sym d) ∙ sym e ∙ ap is_free (sym a) ∙ ap (λ k. is_free (get_or (set ss s x) k taken_slot)) (sym i.1)))
    | inr i ↦ v.each y ∙ ap one_if (ap is_free (sym (get_or-set_other ss s y x taken_slot i.1)))
  ];
}

times_more : (y s : ℕ) (vs : List ℕ) → times y (vs ++ s ∷ []) ≡ times y vs + one_if (eqb y s)
times_more y s [] = omega arith
times_more y s (v ∷ vs) = let a = times_more y s vs in omega arith

one_free : (b : Bool) → 1 ≤ one_if b → b ≡ true
one_free true h = refl
one_free false h = absurd (omega arith)

taken_beyond : (ss : List Slot) (s : ℕ) → is_free (get_or ss s taken_slot) ≡ true → s < length ss
taken_beyond [] s e = cc
taken_beyond (x ∷ ss) zero e = omega arith
taken_beyond (x ∷ ss) (suc s) e = let a = taken_beyond ss s e in omega arith

free_slot : (x : Slot) → is_free x ≡ true → x ≡ Free
free_slot Free e = refl
free_slot (Out n m i) e = cc
free_slot (Given o) e = cc

-- the last of the list of free slots is one
pub vacant_last : (ss : List Slot) (vs : List ℕ) (s : ℕ) → Vacant ss (vs ++ s ∷ []) → (s < length ss) × (get_or ss s Free ≡ Free)
vacant_last ss vs s v =
    let a = times_more s s vs in
    let o : one_if (eqb s s) ≡ 1 = ap one_if (eq-eqb s s refl) in
    let b = v.each s in
    let f = one_free (is_free (get_or ss s taken_slot)) (omega arith) in
    let h = taken_beyond ss s f in
    (h, get_or_default ss s Free taken_slot h ∙ free_slot (get_or ss s taken_slot) f)

one_le : (b : Bool) → one_if b ≤ 1
one_le true = omega arith
one_le false = omega arith

-- it is taken
pub vacant_pop : (ss : List Slot) (vs : List ℕ) (s : ℕ) (x : Slot) → Vacant ss (vs ++ s ∷ []) → is_free x ≡ false → Vacant (set ss s x) vs
vacant_pop ss vs s x v e =
    let h = (vacant_last ss vs s v).0 in
    record {
      each = λ y. (let a = times_more y s vs in
          let b = v.each y in
          elim (eqb_tells y s) [
            | inl i ↦ (let o : one_if (eqb y s) ≡ 1 = ap one_if i.0 in
                let u : one_if (is_free (get_or ss y taken_slot)) ≤ 1 = one_le (is_free (get_or ss y taken_slot)) in
                let z : one_if (is_free (get_or (set ss s x) y taken_slot)) ≡ 0 = ap (λ k. one_if (is_free (get_or (set ss s x) k taken_slot))) i.1 ∙ ap (λ w. one_if (is_free w)) (get_or-set_same ss s x taken_slot h) ∙ ap one_if e in
                omega arith)
            | inr i ↦ (let o : one_if (eqb y s) ≡ 0 = ap one_if i.0 in
                let z : one_if (is_free (get_or (set ss s x) y taken_slot)) ≡ one_if (is_free (get_or ss y taken_slot)) = ap (λ w. one_if (is_free w)) (get_or-set_other ss s y x taken_slot i.1) in
                omega arith)
          ]);
    }

-- a taken slot becomes free
pub vacant_push : (ss : List Slot) (vs : List ℕ) (s : ℕ) → Vacant ss vs → s < length ss → is_free (get_or ss s Free) ≡ false → Vacant (set ss s Free) (vs ++ s ∷ [])
vacant_push ss vs s v h e = record {
  each = λ y. (let a = times_more y s vs in
      let b = v.each y in
      elim (eqb_tells y s) [
        | inl i ↦ (let o : one_if (eqb y s) ≡ 1 = ap one_if i.0 in
            let d : one_if (is_free (get_or ss y taken_slot)) ≡ 0 = ap (λ k. one_if (is_free (get_or ss k taken_slot))) i.1 ∙ ap (λ w. one_if (is_free w)) (sym (get_or_default ss s Free taken_slot h)) ∙ ap one_if e in
            let z : one_if (is_free (get_or (set ss s Free) y taken_slot)) ≡ 1 = ap (λ k. one_if (is_free (get_or (set ss s Free) k taken_slot))) i.1 ∙ ap (λ w. one_if (is_free w)) (get_or-set_same ss s Free taken_slot h) in
            omega arith)
        | inr i ↦ (let o : one_if (eqb y s) ≡ 0 = ap one_if i.0 in
            let z : one_if (is_free (get_or (set ss s Free) y taken_slot)) ≡ one_if (is_free (get_or ss y taken_slot)) = ap (λ w. one_if (is_free w)) (get_or-set_other ss s y Free taken_slot i.1) in
            omega arith)
      ]);
}

-- some slot is taken
pub taken_some : (ss : List Slot) (s : ℕ) → s < length ss → is_free (get_or ss s Free) ≡ false → 1 ≤ taken_slots ss
taken_some [] s h e = absurd (omega arith)
taken_some (x ∷ ss) zero h e = let a : cond {A = ℕ} (is_free x) 0 1 ≡ 1 = ap {B = ℕ} (λ b. cond b 0 1) e in omega arith
taken_some (x ∷ ss) (suc s) h e = let a = taken_some ss s (omega arith) e in omega arith

pub given_taken : (x : Slot) → IsTrue (is_given x) → is_free x ≡ false
given_taken Free h = cc
given_taken (Out n m i) h = refl
given_taken (Given o) h = refl

pub part_taken : (x : Slot) (p : ℕ) → p < length (parts_in x) → is_free x ≡ false
part_taken Free p h = absurd (omega arith)
part_taken (Out n m i) p h = absurd (omega arith)
part_taken (Given o) p h = refl
