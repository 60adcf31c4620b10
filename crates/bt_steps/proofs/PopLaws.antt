-- A hold that is released: what waits falls by one.
use Rattle.std.proofs.Common.{◌≡◌, ◌≢◌, ℕ, ◌+◌, ◌≤◌, Bool, true, false, cond, eqb, ◌&&◌, inl, inr, arith, refl, sym, ◌∙◌}
use Rattle.std.proofs.lemmas.Bool.Decides.{eqb_tells}
use Rattle.bt_demand.specs.Tree.{Tree, Trees, leaf, drop as nothing, reject, all, first, hold, none, more}
use Rattle.bt_demand.specs.Steps.{release, release_each, releases}
use Rattle.bt_demand.specs.Holding.{one_if, is_waiting, count_holds_in, waiting, waits_at}
use Rattle.bt_demand.specs.declared.demand.Stage.{Stage}
use Rattle.bt_demand.specs.declared.demand.Stage.TheVariants.{Untried as Idle, Waiting, Released}

waits_one : (m n : ℕ) (g : Stage) (b : Bool) → one_if (is_waiting (cond b (releases g) g)) + one_if (b && is_waiting g) ≡ one_if (is_waiting g)
waits_one m n Idle true = refl
waits_one m n Idle false = refl
waits_one m n Waiting true = refl
waits_one m n Waiting false = refl
waits_one m n Released true = refl
waits_one m n Released false = refl

mutual
  pub waiting_pop : (n : ℕ) (t : Tree) → waiting (release n t) + waits_at n t ≡ waiting t
  waiting_pop n (leaf l k b x) = omega arith
  waiting_pop n nothing = omega arith
  waiting_pop n (reject w) = omega arith
  waiting_pop n (all ts) = waiting_pop_all n ts
  waiting_pop n (first ts) = waiting_pop_all n ts
  waiting_pop n (hold m e z c g) = let a = waiting_pop n c in let b = waits_one m n g (eqb m n) in omega arith

  pub waiting_pop_all : (n : ℕ) (ts : Trees) → count_holds_in (λ _ g. is_waiting g) (release_each n ts) + count_holds_in (λ m g. eqb m n && is_waiting g) ts ≡ count_holds_in (λ _ g. is_waiting g) ts
  waiting_pop_all n none = omega arith
  waiting_pop_all n (more t ts) = let a = waiting_pop n t in let b = waiting_pop_all n ts in omega arith

own_gone : (g : Stage) (b : Bool) → one_if (b && is_waiting (cond b (releases g) g)) ≡ 0
own_gone Idle true = refl
own_gone Idle false = refl
own_gone Waiting true = refl
own_gone Waiting false = refl
own_gone Released true = refl
own_gone Released false = refl

mutual
  pub waits_gone : (n : ℕ) (t : Tree) → waits_at n (release n t) ≡ 0
  waits_gone n (leaf l k b x) = refl
  waits_gone n nothing = refl
  waits_gone n (reject w) = refl
  waits_gone n (all ts) = waits_gone_all n ts
  waits_gone n (first ts) = waits_gone_all n ts
  waits_gone n (hold m e z c g) = let a = waits_gone n c in let b = own_gone g (eqb m n) in omega arith

  pub waits_gone_all : (n : ℕ) (ts : Trees) → count_holds_in (λ m g. eqb m n && is_waiting g) (release_each n ts) ≡ 0
  waits_gone_all n none = refl
  waits_gone_all n (more t ts) = let a = waits_gone n t in let b = waits_gone_all n ts in omega arith

other_stays : (n k m : ℕ) (g : Stage) → k ≢ n → one_if (eqb m k && is_waiting (cond (eqb m n) (releases g) g)) ≡ one_if (eqb m k && is_waiting g)
other_stays n k m g h = elim (eqb_tells m n) [
  | inl i ↦ elim (eqb_tells m k) [ inl j ↦ absurd (h (sym j.1 ∙ i.1)) | inr j ↦ rw j.0 refl ]
  | inr i ↦ rw i.0 refl
]

mutual
  pub waits_others : (n k : ℕ) (t : Tree) → k ≢ n → waits_at k (release n t) ≡ waits_at k t
  waits_others n k (leaf l j b x) h = refl
  waits_others n k nothing h = refl
  waits_others n k (reject w) h = refl
  waits_others n k (all ts) h = waits_others_all n k ts h
  waits_others n k (first ts) h = waits_others_all n k ts h
  waits_others n k (hold m e z c g) h = let a = waits_others n k c h in let b = other_stays n k m g h in omega arith

  pub waits_others_all : (n k : ℕ) (ts : Trees) → k ≢ n → count_holds_in (λ m g. eqb m k && is_waiting g) (release_each n ts) ≡ count_holds_in (λ m g. eqb m k && is_waiting g) ts
  waits_others_all n k none h = refl
  waits_others_all n k (more t ts) h = let a = waits_others n k t h in let b = waits_others_all n k ts h in omega arith

pub waits_le : (g : Stage) (b : Bool) → one_if (b && is_waiting g) ≤ one_if b
waits_le Idle true = omega arith
waits_le Idle false = omega arith
waits_le Waiting true = omega arith
waits_le Waiting false = omega arith
waits_le Released true = omega arith
waits_le Released false = omega arith
