-- A clean demand of which each asked leaf was accepted is met, and asks for what it owes.
use Rattle.std.proofs.Common.{◌≡◌, ℕ, suc, ◌+◌, ◌≤◌, Bool, true, false, cond, ltb, ◌&&◌, ◌||◌, List, [], ◌∷◌, ◌++◌, arith, refl, sym, ap, ◌∙◌, eq-eqb, inl, inr, Option, Some, None}
use Rattle.std.specs.Prelude.{if◌then◌else◌}
use Rattle.std.proofs.lemmas.List.{append-nil, map-append}
use Rattle.bt_account.specs.Delivered.{owed_leaves}
use Rattle.bt_demand.specs.Asked.{asked, asked_in, asked_after_lost, owed, owed_in, owed_of_head, IsClean, AreClean, HeadIsClean, Owed}
use Rattle.bt_demand.specs.Holding.{one_if}
use Rattle.bt_demand.specs.Outcomes.{accepted, is_lost, is_met, lost, met, all_met, met_after_lost, outcome}
use Rattle.bt_demand.specs.Parts.{Part}
use Rattle.bt_demand.specs.Recorded.{recorded, recorded_in}
use Rattle.bt_demand.specs.Tree.{Tree, Trees, leaf, drop as nothing, reject, all, first, hold, none, more}
use Rattle.bt_demand.specs.declared.demand.State.{State}
use Rattle.bt_demand.specs.declared.demand.State.TheVariants.{Good}
use Rattle.bt_demand.specs.declared.outcome.Outcome.{Outcome}
use Rattle.bt_demand.specs.declared.outcome.Outcome.TheVariants.{Open as Pending, Met, Lost}
use Rattle.bt_demand.proofs.Outcomes.{outcome-lost, outcome-met}
use Rattle.bt_leaves.specs.LeafAt.{LeafAt, LeafIn}
use Rattle.bt_ledger.specs.Due.{times}
use Rattle.bt_ledger.specs.Open.{tree_of}
use Rattle.bt_ledger.specs.Verdicts.{lost_from}

times_append : (l : ℕ) (xs ys : List ℕ) → times l (xs ++ ys) ≡ times l xs + times l ys
times_append l [] ys = omega arith
times_append l (x ∷ xs) ys = let a = times_append l xs ys in omega arith

met_only : (o : Outcome) → is_met o ≡ true → is_lost o ≡ false
met_only Pending e = cc
met_only Met e = refl
met_only Lost e = cc

-- what is met isn't lost
pub met_not_lost : (t : Tree) → met t ≡ true → lost t ≡ false
met_not_lost t e = sym (outcome-lost t) ∙ met_only (outcome t) (outcome-met t ∙ e)

module _ (look : ℕ → State) where
  -- each leaf that is asked was accepted
  abbrev AskedGood : List ℕ → Type 0
  AskedGood ls = (l : ℕ) → 1 ≤ times l ls → look l ≡ Good

  good_left : (xs ys : List ℕ) → AskedGood (xs ++ ys) → AskedGood xs
  good_left xs ys h = λ l w. h l (let a = times_append l xs ys in omega arith)

  good_right : (xs ys : List ℕ) → AskedGood (xs ++ ys) → AskedGood ys
  good_right xs ys h = λ l w. h l (let a = times_append l xs ys in omega arith)

  mutual
    pub clean_met : (t : Tree) → IsClean t → AskedGood (asked (recorded look t)) → (met (recorded look t) ≡ true) × (asked (recorded look t) ≡ owed_leaves (owed t))
    clean_met (leaf n k b x) c h = (ap accepted (h n (let a = ap one_if (eq-eqb n n refl) in omega arith)), refl)
    clean_met nothing c h = (refl, refl)
    clean_met (reject w) c h = absurd c
    clean_met (all ts) c h = clean_all ts c h
    clean_met (first ts) c h = clean_first ts c h
    clean_met (hold n e z t g) c h = clean_met t c h

    clean_all : (ts : Trees) → AreClean ts → AskedGood (asked_in (recorded_in look ts)) → (all_met (recorded_in look ts) ≡ true) × (asked_in (recorded_in look ts) ≡ owed_leaves (owed_in ts))
    clean_all none c h = (refl, refl)
    clean_all (more t ts) c h =
        let a = clean_met t c.0 (good_left (asked (recorded look t)) (asked_in (recorded_in look ts)) h) in
        let b = clean_all ts c.1 (good_right (asked (recorded look t)) (asked_in (recorded_in look ts)) h) in (
          ap (λ v. v && all_met (recorded_in look ts)) a.0 ∙ b.0,
          ap (λ xs. xs ++ asked_in (recorded_in look ts)) a.1 ∙ (ap (λ xs. owed_leaves (owed t) ++ xs) b.1 ∙ sym (map-append (λ (o : Owed). o.leaf) (owed t) (owed_in ts))),
        )

    clean_first : (ts : Trees) → HeadIsClean ts → AskedGood (asked_after_lost (recorded_in look ts)) → (met_after_lost (recorded_in look ts) ≡ true) × (asked_after_lost (recorded_in look ts) ≡ owed_leaves (owed_of_head ts))
    clean_first none c h = absurd c
    clean_first (more t ts) c h =
        let a = clean_met t c (good_left (asked (recorded look t)) _ h) in (
          ap (λ v. v || (lost (recorded look t) && met_after_lost (recorded_in look ts))) a.0,
          ap (λ v. asked (recorded look t) ++ (if v then asked_after_lost (recorded_in look ts) else [])) (met_not_lost (recorded look t) a.0) ∙ (append-nil (asked (recorded look t)) ∙ a.1),
        )

-- a leaf stands where it stood
mutual
  pub at_before : (look : ℕ → State) (a : Option ℕ) (l k : ℕ) (b : List ℕ) (o : Option ℕ) (t : Tree) → LeafAt a l k b o (recorded look t) → LeafAt a l k b o t
  at_before look a l k b o (leaf n j c x) h = h
  at_before look a l k b o nothing h = h
  at_before look a l k b o (reject w) h = h
  at_before look a l k b o (all ts) h = in_before look a l k b o ts h
  at_before look a l k b o (first ts) h = in_before look a l k b o ts h
  at_before look a l k b o (hold n e z t g) h = at_before look (Some n) l k b o t h

  in_before : (look : ℕ → State) (a : Option ℕ) (l k : ℕ) (b : List ℕ) (o : Option ℕ) (ts : Trees) → LeafIn a l k b o (recorded_in look ts) → LeafIn a l k b o ts
  in_before look a l k b o none h = h
  in_before look a l k b o (more t ts) (inl h) = inl (at_before look a l k b o t h)
  in_before look a l k b o (more t ts) (inr h) = inr (in_before look a l k b o ts h)

and_false : (a b : Bool) → b ≡ false → (a && b) ≡ false
and_false true b e = e
and_false false b e = refl

-- where no part is lost, none is the least lost one
pub none_lost : (i k : ℕ) (ps : List Part) → ((q : ℕ) → lost (tree_of ps q) ≡ false) → lost_from i k ps ≡ None
none_lost i k [] h = refl
none_lost i k (p ∷ ps) h = ap (λ v. cond v (Some k) (lost_from i (k + 1) ps)) (and_false (ltb 0 (times i p.from)) (lost p.demand) (h 0)) ∙ none_lost i (k + 1) ps (λ q. h (suc q))
