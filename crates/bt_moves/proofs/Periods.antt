-- Which chains waited for their periods, before and after those that did are released.
use Rattle.std.proofs.Common.{◌≡◌, ◌≢◌, ℕ, zero, suc, ◌+◌, ◌<◌, ◌≤◌, Bool, true, false, cond, List, [], ◌∷◌, length, get_or, inl, inr, arith, refl, ap, ◌∙◌, Option, Some, None}
use Rattle.std.specs.Prelude.{is_some}
use Rattle.std.proofs.lemmas.Bool.Decides.{eqb_tells, leb_tells}
use Rattle.bt_chains.specs.declared.Entry.{Entry}
use Rattle.bt_demand.specs.declared.routes.HoldPolicy.{HoldPolicy}
use Rattle.bt_ledger.specs.Calls.{reason, is_met, is_past, policy_at, no_policy, front_moment, last_ends}
use Rattle.bt_ledger.specs.Ledger.{Ledger, chain_at, sizes}
use Rattle.bt_ledger.specs.declared.reason.Reason.{Reason}
use Rattle.bt_ledger.specs.declared.reason.Reason.TheVariants.{Count, Bytes, Check, Period}
use Rattle.bt_moves.specs.Resting.{Unripe, waited_out, NoneWaitedOut, StaysUnlessPast}

past_only : (a b c d : Bool) → cond a (Some Count) (cond b (Some Bytes) (cond c (Some Check) (cond false (Some Period) None))) ≡ None → cond a (Some Count) (cond b (Some Bytes) (cond c (Some Check) (cond d (Some Period) None))) ≡ cond d (Some Period) None
past_only true b c d e = cc
past_only false true c d e = cc
past_only false false true d e = cc
past_only false false false d e = refl

-- a chain that isn't ripe otherwise is released at an admission where it waited for its period, and else not
pub past_reason : (l : Ledger) (n m : ℕ) → Unripe l n → reason l n (Some m) ≡ cond (waited_out l n m) (Some Period) None
past_reason l n m h = past_only (is_met (policy_at l n).count (length (chain_at l n))) (is_met (policy_at l n).byte_size (sizes (chain_at l n))) (last_ends l (chain_at l n)) (is_past (Some m) (policy_at l n).period (front_moment (chain_at l n))) h

some_cond : (b : Bool) → is_some (cond b (Some Period) None) ≡ b
some_cond true = refl
some_cond false = refl

pub past_some : (l : Ledger) (n m : ℕ) (r : Option Reason) {b : Bool} → Unripe l n → r ≡ reason l n (Some m) → b ≡ is_some r → b ≡ waited_out l n m
past_some l n m r h e f = f ∙ (ap is_some (e ∙ past_reason l n m h) ∙ some_cond (waited_out l n m))

pub true_false : (b : Bool) → b ≡ true → b ≡ false → ⊥
true_false b e f = cc

-- an empty chain didn't
pub empty_past : (l : Ledger) (n m : ℕ) → chain_at l n ≡ [] → waited_out l n m ≡ false
empty_past l n m e = ap (λ (es : List Entry). is_past (Some m) (policy_at l n).period (front_moment es)) e

off_past : (m : ℕ) (o : Option ℕ) → is_past (Some m) 0 o ≡ false
off_past m None = refl
off_past m (Some x) = refl

beyond : (ps : List HoldPolicy) (n : ℕ) → length ps ≤ n → get_or ps n no_policy ≡ no_policy
beyond [] n h = refl
beyond (p ∷ ps) zero h = absurd (omega arith)
beyond (p ∷ ps) (suc n) h = beyond ps n (omega arith)

-- nor does one that isn't there
pub none_past : (l : Ledger) (k m : ℕ) → length l.policies ≤ k → ((n : ℕ) → n < k → waited_out l n m ≡ false) → NoneWaitedOut l m
none_past l k m w f = λ n. elim (leb_tells (n + 1) k) [
  | inl i ↦ f n (let a = i.1 in omega arith)
  | inr i ↦ (let a = i.1 in ap (λ (p : HoldPolicy). is_past (Some m) p.period (front_moment (chain_at l n))) (beyond l.policies n (omega arith)) ∙ off_past m (front_moment (chain_at l n)))
]

-- the same chain under the same policies
pub same_past : (l k : Ledger) (n m : ℕ) → k.policies ≡ l.policies → chain_at k n ≡ chain_at l n → waited_out k n m ≡ waited_out l n m
same_past l k n m e f = ap (λ (ps : List HoldPolicy). is_past (Some m) (get_or ps n no_policy).period (front_moment (chain_at k n))) e ∙ ap (λ (es : List Entry). is_past (Some m) (policy_at l n).period (front_moment es)) f

not_same : (n i : ℕ) → n < i + 1 → n ≢ i → n < i
not_same n i w d = elim (leb_tells i n) [ inl h ↦ (let a = h.1 in absurd (d (omega arith))) | inr h ↦ (let a = h.1 in omega arith) ]

-- one more chain was tested
pub one_more_past : (l k : Ledger) (i m : ℕ) → k.policies ≡ l.policies → ((j : ℕ) → j ≤ i → j ≢ i → chain_at k j ≡ chain_at l j) → ((j : ℕ) → j < i → waited_out l j m ≡ false) → waited_out k i m ≡ false → (j : ℕ) → j < i + 1 → waited_out k j m ≡ false
one_more_past l k i m p c h e j w = elim (eqb_tells j i) [
  | inl q ↦ ap (λ x. waited_out k x m) q.1 ∙ e
  | inr q ↦ same_past l k j m p (c j (omega arith) q.1) ∙ h j (not_same j i w q.1)
]

-- and chains before the first that waited for its period stay
pub one_more_stays : (a l k : Ledger) (i m : ℕ) → StaysUnlessPast m a l → (((j : ℕ) → j < i + 1 → waited_out a j m ≡ false) → k ≡ a) → ((j : ℕ) → j ≤ i → j ≢ i → chain_at k j ≡ chain_at l j) → StaysUnlessPast m a k
one_more_stays a l k i m h u c n f = elim (leb_tells (n + 1) i) [
  | inl q ↦ (let v = q.1 in c n (omega arith) (λ e. (let z : n ≡ i = e in absurd (omega arith))) ∙ h n f)
  | inr q ↦ (let v = q.1 in ap (λ x. chain_at x n) (u (λ j w. f j (omega arith))))
]
