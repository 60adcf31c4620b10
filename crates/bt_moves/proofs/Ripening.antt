-- No move but a wait makes a chain ripe.
use Rattle.std.proofs.Common.{◌≡◌, ℕ, zero, suc, ◌<◌, ◌≤◌, Bool, true, false, cond, ltb, leb, ◌&&◌, List, [], ◌∷◌, ◌++◌, length, get_or, set, inl, inr, arith, refl, sym, ap, ◌∙◌, subst, Option, Some, None, MatchOption, get_or-set_same, get_or-set_other}
use Rattle.std.proofs.lemmas.Bool.Decides.{eqb_tells, leb_tells}
use Rattle.bt_chains.specs.declared.Entry.{Entry}
use Rattle.bt_demand.specs.Holding.{held_by}
use Rattle.bt_demand.specs.Steps.{settle, release, state_for}
use Rattle.bt_demand.specs.declared.routes.HoldPolicy.{HoldPolicy}
use Rattle.bt_steps.specs.Stepped.{stepped}
use Rattle.bt_steps.specs.declared.step.Step.{Step}
use Rattle.bt_steps.specs.declared.step.Step.TheVariants.{Settle, Wait as WaitIn, Release}
use Rattle.bt_steps.proofs.Steps.{held_step}
use Rattle.bt_ledger.specs.Book.{IsFront}
use Rattle.bt_ledger.specs.Calls.{waited, entry_of, Released as ReleasedTo, policy_at, reason_at, is_met, front_moment, last_ends, ends_or}
use Rattle.bt_ledger.specs.Ledger.{Ledger, slot_at, parts_in, part_tree, IsPart, with_slot, with_part, chain_at, with_chain, sizes}
use Rattle.bt_ledger.specs.Open.{tree_of}
use Rattle.bt_ledger.specs.declared.reason.Reason.TheVariants.{Count, Bytes, Check}
use Rattle.bt_ledger.specs.declared.slot.Slot.{Slot}
use Rattle.bt_ledger.specs.declared.slot.Slot.TheVariants.{Free}
use Rattle.bt_ledger.proofs.Room.{part_cases}
use Rattle.bt_moves.specs.Moves.{Answering, RipensNone, RipensBut}
use Rattle.bt_moves.specs.Resting.{Unripe}
use Rattle.bt_moves.proofs.Moves.{front_cases, front_none, answering_tree}

three : (x y z : Bool) → cond x (Some Count) (cond y (Some Bytes) (cond z (Some Check) None)) ≡ None → (x ≡ false) × ((y ≡ false) × (z ≡ false))
three true y z h = cc
three false true z h = cc
three false false true h = cc
three false false false h = (refl, (refl, refl))

-- what no reason holds of
unripe_parts : (p : HoldPolicy) (c b : ℕ) (e : Bool) (f : Option ℕ) → reason_at p c b e f None ≡ None → (is_met p.count c ≡ false) × ((is_met p.byte_size b ≡ false) × (e ≡ false))
unripe_parts p c b e f h = three (is_met p.count c) (is_met p.byte_size b) e h

parts_unripe : (p : HoldPolicy) (c b : ℕ) (e : Bool) (f : Option ℕ) → is_met p.count c ≡ false → is_met p.byte_size b ≡ false → e ≡ false → reason_at p c b e f None ≡ None
parts_unripe p c b e f h i j = rw (h, i, j) refl

and_true : (b : Bool) → b && true ≡ false → b ≡ false
and_true true e = e
and_true false e = refl

and_none : (b : Bool) → b && false ≡ false
and_none true = refl
and_none false = refl

less_met : (n a b : ℕ) → b ≤ a → is_met n a ≡ false → is_met n b ≡ false
less_met n a b w h = elim (leb_tells n b) [
  | inl i ↦ (elim (leb_tells n a) [
    | inl j ↦ (let k : ltb 0 n ≡ false = and_true (ltb 0 n) (sym (ap (λ x. ltb 0 n && x) j.0) ∙ h) in ap (λ x. x && leb n b) k)
    | inr j ↦ (let u = i.1 in let v = j.1 in absurd (omega arith))
  ])
  | inr i ↦ ap (λ x. ltb 0 n && x) i.0 ∙ and_none (ltb 0 n)
]

-- holds that end no batch still end none
abbrev pub EndsFall : Ledger → Ledger → Type 0
EndsFall l m = (s p n : ℕ) → ends_or (held_by n (part_tree l s p)) ≡ false → ends_or (held_by n (part_tree m s p)) ≡ false

last_falls : (l m : Ledger) (es : List Entry) → EndsFall l m → last_ends l es ≡ false → last_ends m es ≡ false
last_falls l m [] f h = refl
last_falls l m (e ∷ []) f h = f e.slot e.part e.node h
last_falls l m (e ∷ (x ∷ es)) f h = last_falls l m (x ∷ es) f h

chain_unripe : (l m : Ledger) (n : ℕ) (es : List Entry) → m.policies ≡ l.policies → EndsFall l m → chain_at m n ≡ es → length es ≤ length (chain_at l n) → sizes es ≤ sizes (chain_at l n) → (last_ends l (chain_at l n) ≡ false → last_ends l es ≡ false) → Unripe l n → Unripe m n
chain_unripe l m n es e f c a b d h =
    let p = unripe_parts (policy_at l n) (length (chain_at l n)) (sizes (chain_at l n)) (last_ends l (chain_at l n)) (front_moment (chain_at l n)) h in
    let same : policy_at m n ≡ policy_at l n = ap (λ ps. get_or ps n (record { count = 0; byte_size = 0; period = 0 })) e in
    let x = parts_unripe (policy_at l n) (length es) (sizes es) (last_ends m es) (front_moment es) (less_met (policy_at l n).count (length (chain_at l n)) (length es) a p.0) (less_met (policy_at l n).byte_size (sizes (chain_at l n)) (sizes es) b p.1.0) (last_falls l m es f (d p.1.1)) in
    subst (λ q. reason_at q (length (chain_at m n)) (sizes (chain_at m n)) (last_ends m (chain_at m n)) (front_moment (chain_at m n)) None ≡ None) (sym same)
    (subst (λ cs. reason_at (policy_at l n) (length cs) (sizes cs) (last_ends m cs) (front_moment cs) None ≡ None) (sym c) x)

pub calms_by : (l m : Ledger) (n : ℕ) → m.policies ≡ l.policies → EndsFall l m → chain_at m n ≡ chain_at l n → Unripe l n → Unripe m n
calms_by l m n e f c h = chain_unripe l m n (chain_at l n) e f c (omega arith) (omega arith) (λ x. x) h

ends_step : (l : Ledger) (s p : ℕ) (st : Step) (cs : List (List Entry)) → IsPart l s p → EndsFall l (record (with_part l s p (stepped st (part_tree l s p))) { chains = cs })
ends_step l s p st cs h = λ a b n e. elim (part_cases l s p (stepped st (part_tree l s p)) a b h) [
  | inl i ↦ subst (λ t. ends_or (held_by n t) ≡ false) (sym i.1) (ap ends_or (held_step n st (part_tree l s p)) ∙ subst (λ x. ends_or (held_by n (part_tree l s x)) ≡ false) i.0.1 (subst (λ x. ends_or (held_by n (part_tree l x b)) ≡ false) i.0.0 e))
  | inr i ↦ subst (λ t. ends_or (held_by n t) ≡ false) (sym i.1) e
]

pub calms_put : (l : Ledger) (s p lf : ℕ) (a : Bool) → IsPart l s p → RipensNone l (with_part l s p (settle lf (state_for a) (part_tree l s p)))
calms_put l s p lf a h = λ n. calms_by l (with_part l s p (settle lf (state_for a) (part_tree l s p))) n refl (ends_step l s p (Settle lf a) l.chains h) refl

pub calms_wait : (l : Ledger) (s p m : ℕ) → IsPart l s p → RipensBut m l (waited l s p m)
calms_wait l s p m h = λ n d. calms_by l (waited l s p m) n refl (ends_step l s p (WaitIn m) (set l.chains m (chain_at l m ++ entry_of l s p m ∷ [])) h) (get_or-set_other l.chains m n (chain_at l m ++ entry_of l s p m ∷ []) [] d)

rest_ends : (l : Ledger) (e : Entry) (es : List Entry) → last_ends l (e ∷ es) ≡ false → last_ends l es ≡ false
rest_ends l e [] h = refl
rest_ends l e (x ∷ es) h = h

set_same_or : (cs : List (List Entry)) (n : ℕ) (es : List Entry) → n < length cs → get_or (set cs n es) n [] ≡ es
set_same_or cs n es h = get_or-set_same cs n es [] h

some_chain : (cs : List (List Entry)) (n : ℕ) (e : Entry) (es : List Entry) → get_or cs n [] ≡ e ∷ es → n < length cs
some_chain [] n e es h = cc
some_chain (c ∷ cs) zero e es h = omega arith
some_chain (c ∷ cs) (suc n) e es h = let a = some_chain cs n e es h in omega arith

pub calms_pop : (l m : Ledger) (k : ℕ) (o : Option Entry) → ReleasedTo l k o m → MatchOption o (chain_at l k ≡ []) (λ e. IsFront l k e) → RipensNone l m
calms_pop l m k None r f = λ n h. subst (λ x. Unripe x n) (sym (front_none (chain_at l k) l k m r)) h
calms_pop l m k (Some e) r f =
    let c = front_cases (chain_at l k) l k e m r in
    let next : Ledger = with_chain (with_part l e.slot e.part (release k (part_tree l e.slot e.part))) k c.0 in
    let falls = ends_step l e.slot e.part (Release k) (set l.chains k c.0) f.part in
    λ n h. subst (λ x. Unripe x n) (sym c.2) (elim (eqb_tells n k) [
      | inl i ↦ (let now : chain_at l n ≡ e ∷ c.0 = ap (chain_at l) i.1 ∙ c.1 in
          let u = ap (λ (x : List Entry). length x) now in
          let v = ap sizes now in
          chain_unripe l (with_chain (with_part l e.slot e.part (release k (part_tree l e.slot e.part))) k c.0) n c.0 refl falls
          (ap (λ j. get_or (set l.chains k c.0) j []) i.1 ∙ set_same_or l.chains k c.0 (some_chain l.chains k e c.0 c.1)) (omega arith) (omega arith) (λ x. rest_ends l e c.0 (ap (last_ends l) (sym now) ∙ x)) h)
      | inr i ↦ calms_by l (with_chain (with_part l e.slot e.part (release k (part_tree l e.slot e.part))) k c.0) n refl falls (get_or-set_other l.chains k n c.0 [] i.1) h
    ])

pub calms_answering : (s : ℕ) (l m : Ledger) → Answering s l m → RipensNone l m
calms_answering s l m a = λ n h. calms_by l m n a.policies (λ x y k e. subst (λ t. ends_or (held_by k t) ≡ false) (sym (answering_tree s l m a x y)) e) (ap (λ (cs : List (List Entry)). get_or cs n []) a.chains) h

pub calms_close : (l : Ledger) (s : ℕ) → s < length l.slots → RipensNone l (with_slot l s Free)
calms_close l s w = λ n h. calms_by l (with_slot l s Free) n refl (λ x y k e. elim (eqb_tells x s) [
  | inl i ↦ subst (λ (z : Slot). ends_or (held_by k (tree_of (parts_in z) y)) ≡ false) (sym (ap (λ j. slot_at (with_slot l s Free) j) i.1 ∙ get_or-set_same l.slots s Free Free w)) refl
  | inr i ↦ subst (λ (z : Slot). ends_or (held_by k (tree_of (parts_in z) y)) ≡ false) (sym (get_or-set_other l.slots s x Free Free i.1)) e
]) refl h

none_met : (n : ℕ) → is_met n 0 ≡ false
none_met zero = refl
none_met (suc n) = elim (leb_tells (suc n) 0) [ inl i ↦ (let a = i.1 in absurd (omega arith)) | inr i ↦ ap (λ x. ltb 0 (suc n) && x) i.0 ∙ and_none (ltb 0 (suc n)) ]

pub empty_unripe : (l : Ledger) (n : ℕ) → chain_at l n ≡ [] → Unripe l n
empty_unripe l n e = subst (λ cs. reason_at (policy_at l n) (length cs) (sizes cs) (last_ends l cs) (front_moment cs) None ≡ None) (sym e) (parts_unripe (policy_at l n) 0 0 false None (none_met (policy_at l n).count) (none_met (policy_at l n).byte_size) refl)

pub calms_but : (k : ℕ) (l m : Ledger) → RipensBut k l m → Unripe m k → RipensNone l m
calms_but k l m f u = λ n h. elim (eqb_tells n k) [ inl i ↦ subst (λ j. Unripe m j) (sym i.1) u | inr i ↦ f n i.1 h ]

-- where all trees and chains stay
pub calms_trees : (l m : Ledger) → m.policies ≡ l.policies → m.chains ≡ l.chains → ((a b : ℕ) → part_tree m a b ≡ part_tree l a b) → RipensNone l m
calms_trees l m e c t = λ n h. calms_by l m n e (λ x y k d. subst (λ u. ends_or (held_by k u) ≡ false) (sym (t x y)) d) (ap (λ (cs : List (List Entry)). get_or cs n []) c) h
