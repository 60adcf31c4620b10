-- The holds of a tree under each step.
use Rattle.std.proofs.Common.{◌≡◌, ℕ, ◌+◌, ◌≤◌, Bool, true, false, cond, eqb, ◌&&◌, ◌⊎◌, inl, inr, arith, refl, ap}
use Rattle.bt_demand.specs.Tree.{Tree, Trees, leaf, drop as nothing, reject, all, first, hold, none, more}
use Rattle.bt_demand.specs.Steps.{settle, settle_each, wait, wait_each, waits, release, release_each, releases}
use Rattle.bt_demand.specs.Holds.{holds, holds_in}
use Rattle.bt_demand.specs.Outcomes.{outcome, outcome_of_all, outcome_of_first, outcome_of_both, outcome_or_else, outcome_of_hold}
use Rattle.bt_demand.specs.Holding.{one_if, is_waiting, is_active, is_idle, is_open, count_holds, count_holds_in, every_hold, active, waiting, waits_at, holds_at, Tidy, TidyIn, TidyAfter}
use Rattle.bt_demand.specs.declared.demand.State.{State}
use Rattle.bt_demand.specs.declared.demand.Stage.{Stage}
use Rattle.bt_demand.specs.declared.demand.Stage.TheVariants.{Untried as Idle, Waiting, Released}
use Rattle.bt_demand.specs.declared.outcome.Outcome.{Outcome}
use Rattle.bt_demand.specs.declared.outcome.Outcome.TheVariants.{Open as Pending, Met, Lost}

-- a record changes no hold
mutual
  pub count_settle : (p : ℕ → Stage → Bool) (l : ℕ) (s : State) (t : Tree) → count_holds p (settle l s t) ≡ count_holds p t
  count_settle p l s (leaf n k b x) = refl
  count_settle p l s nothing = refl
  count_settle p l s (reject w) = refl
  count_settle p l s (all ts) = count_settle_all p l s ts
  count_settle p l s (first ts) = count_settle_all p l s ts
  count_settle p l s (hold n e z c g) = ap (λ k. one_if (p n g) + k) (count_settle p l s c)

  pub count_settle_all : (p : ℕ → Stage → Bool) (l : ℕ) (s : State) (ts : Trees) → count_holds_in p (settle_each l s ts) ≡ count_holds_in p ts
  count_settle_all p l s none = refl
  count_settle_all p l s (more t ts) = let a = count_settle p l s t in let b = count_settle_all p l s ts in omega arith

-- a step on the stages of one number; tests that the step does not tell apart
mutual
  pub count_wait : (p : ℕ → Stage → Bool) (n : ℕ) (t : Tree) → ((m : ℕ) (g : Stage) → p m (cond (eqb m n) (waits g) g) ≡ p m g) → count_holds p (wait n t) ≡ count_holds p t
  count_wait p n (leaf l k b x) h = refl
  count_wait p n nothing h = refl
  count_wait p n (reject w) h = refl
  count_wait p n (all ts) h = count_wait_all p n ts h
  count_wait p n (first ts) h = count_wait_all p n ts h
  count_wait p n (hold m e z c g) h = let a = count_wait p n c h in let b = ap one_if (h m g) in omega arith

  pub count_wait_all : (p : ℕ → Stage → Bool) (n : ℕ) (ts : Trees) → ((m : ℕ) (g : Stage) → p m (cond (eqb m n) (waits g) g) ≡ p m g) → count_holds_in p (wait_each n ts) ≡ count_holds_in p ts
  count_wait_all p n none h = refl
  count_wait_all p n (more t ts) h = let a = count_wait p n t h in let b = count_wait_all p n ts h in omega arith

-- a hold stays active when it waits
wait_active : (n m : ℕ) (g : Stage) → is_active (cond (eqb m n) (waits g) g) ≡ is_active g
wait_active n m Idle = elim (eqb m n) as (λ b. is_active (cond b (waits Idle) Idle) ≡ is_active Idle) [ true ↦ refl | false ↦ refl ]
wait_active n m Waiting = elim (eqb m n) as (λ b. is_active (cond b (waits Waiting) Waiting) ≡ is_active Waiting) [ true ↦ refl | false ↦ refl ]
wait_active n m Released = elim (eqb m n) as (λ b. is_active (cond b (waits Released) Released) ≡ is_active Released) [ true ↦ refl | false ↦ refl ]

pub active_wait : (n : ℕ) (t : Tree) → active (wait n t) ≡ active t
active_wait n t = count_wait (λ _ g. is_active g) n t (λ m g. wait_active n m g)

pub holds_wait : (n : ℕ) (t : Tree) → every_hold (wait n t) ≡ every_hold t
holds_wait n t = count_wait (λ _ _. true) n t (λ m g. refl)

pub holds_at_wait : (k n : ℕ) (t : Tree) → holds_at k (wait n t) ≡ holds_at k t
holds_at_wait k n t = count_wait (λ m _. eqb m k) n t (λ m g. refl)

-- idle holds of a number
abbrev idle_at : ℕ → Tree → ℕ
idle_at n t = count_holds (λ m g. eqb m n && is_idle g) t

-- pointwise sums and bounds of tests
mutual
  pub count_sum : (p q r : ℕ → Stage → Bool) (t : Tree) → ((m : ℕ) (g : Stage) → one_if (p m g) + one_if (q m g) ≡ one_if (r m g)) → count_holds p t + count_holds q t ≡ count_holds r t
  count_sum p q r (leaf l k b x) h = omega arith
  count_sum p q r nothing h = omega arith
  count_sum p q r (reject w) h = omega arith
  count_sum p q r (all ts) h = count_sum_all p q r ts h
  count_sum p q r (first ts) h = count_sum_all p q r ts h
  count_sum p q r (hold m e z c g) h = let a = count_sum p q r c h in let b = h m g in omega arith

  pub count_sum_all : (p q r : ℕ → Stage → Bool) (ts : Trees) → ((m : ℕ) (g : Stage) → one_if (p m g) + one_if (q m g) ≡ one_if (r m g)) → count_holds_in p ts + count_holds_in q ts ≡ count_holds_in r ts
  count_sum_all p q r none h = omega arith
  count_sum_all p q r (more t ts) h = let a = count_sum p q r t h in let b = count_sum_all p q r ts h in omega arith

mutual
  pub count_le : (p q : ℕ → Stage → Bool) (t : Tree) → ((m : ℕ) (g : Stage) → one_if (p m g) ≤ one_if (q m g)) → count_holds p t ≤ count_holds q t
  count_le p q (leaf l k b x) h = omega arith
  count_le p q nothing h = omega arith
  count_le p q (reject w) h = omega arith
  count_le p q (all ts) h = count_le_all p q ts h
  count_le p q (first ts) h = count_le_all p q ts h
  count_le p q (hold m e z c g) h = let a = count_le p q c h in let b = h m g in omega arith

  pub count_le_all : (p q : ℕ → Stage → Bool) (ts : Trees) → ((m : ℕ) (g : Stage) → one_if (p m g) ≤ one_if (q m g)) → count_holds_in p ts ≤ count_holds_in q ts
  count_le_all p q none h = omega arith
  count_le_all p q (more t ts) h = let a = count_le p q t h in let b = count_le_all p q ts h in omega arith

split_active : (g : Stage) → one_if (is_waiting g) + one_if (is_idle g) ≡ one_if (is_active g)
split_active Idle = refl
split_active Waiting = refl
split_active Released = refl

-- active is waiting and idle
pub active_split : (t : Tree) → waiting t + count_holds (λ _ g. is_idle g) t ≡ active t
active_split t = count_sum (λ _ g. is_waiting g) (λ _ g. is_idle g) (λ _ g. is_active g) t (λ m g. split_active g)

active_true : (g : Stage) → one_if (is_active g) ≤ one_if true
active_true Idle = omega arith
active_true Waiting = omega arith
active_true Released = omega arith

pub active_le : (t : Tree) → active t ≤ every_hold t
active_le t = count_le (λ _ g. is_active g) (λ _ _. true) t (λ m g. active_true g)

-- what waits after a wait: the idle ones of that number too
waits_more : (n k m : ℕ) (g : Stage) (b c : Bool) → eqb m n ≡ b → eqb m k ≡ c → one_if (c && is_waiting (cond b (waits g) g)) ≡ one_if (c && is_waiting g) + one_if (b && (c && is_idle g))
waits_more n k m Idle true true e f = refl
waits_more n k m Idle true false e f = refl
waits_more n k m Idle false true e f = refl
waits_more n k m Idle false false e f = refl
waits_more n k m Waiting true true e f = refl
waits_more n k m Waiting true false e f = refl
waits_more n k m Waiting false true e f = refl
waits_more n k m Waiting false false e f = refl
waits_more n k m Released true true e f = refl
waits_more n k m Released true false e f = refl
waits_more n k m Released false true e f = refl
waits_more n k m Released false false e f = refl

mutual
  pub waits_wait : (n k : ℕ) (t : Tree) → waits_at k (wait n t) ≡ waits_at k t + count_holds (λ m g. eqb m n && (eqb m k && is_idle g)) t
  waits_wait n k (leaf l j b x) = omega arith
  waits_wait n k nothing = omega arith
  waits_wait n k (reject w) = omega arith
  waits_wait n k (all ts) = waits_wait_all n k ts
  waits_wait n k (first ts) = waits_wait_all n k ts
  waits_wait n k (hold m e z c g) = let a = waits_wait n k c in let b = waits_more n k m g (eqb m n) (eqb m k) refl refl in omega arith

  pub waits_wait_all : (n k : ℕ) (ts : Trees) → count_holds_in (λ m g. eqb m k && is_waiting g) (wait_each n ts) ≡ count_holds_in (λ m g. eqb m k && is_waiting g) ts + count_holds_in (λ m g. eqb m n && (eqb m k && is_idle g)) ts
  waits_wait_all n k none = omega arith
  waits_wait_all n k (more t ts) = let a = waits_wait n k t in let b = waits_wait_all n k ts in omega arith

-- what waits is open, in a tidy tree
fate_split : (f : Outcome) → is_open f ≡ false → (f ≡ Met) ⊎ (f ≡ Lost)
fate_split Pending e = cc
fate_split Met e = inl refl
fate_split Lost e = inr refl

all_settled : (a b : Outcome) → is_open (outcome_of_both a b) ≡ false → (is_open a ≡ false) × (is_open b ≡ false)
all_settled Pending b e = cc
all_settled Met Pending e = cc
all_settled Met Met e = (refl, refl)
all_settled Met Lost e = (refl, refl)
all_settled Lost Pending e = cc
all_settled Lost Met e = (refl, refl)
all_settled Lost Lost e = (refl, refl)

first_settled : (a b : Outcome) → is_open (outcome_or_else a b) ≡ false → (is_open a ≡ false) × (a ≡ Lost → is_open b ≡ false)
first_settled Pending b e = cc
first_settled Met b e = (refl, λ h. cc)
first_settled Lost b e = (refl, λ h. e)

hold_settled : (g : Stage) (f : Outcome) → is_open (outcome_of_hold g f) ≡ false → is_waiting g ≡ false
hold_settled Idle f e = refl
hold_settled Waiting f e = cc
hold_settled Released f e = refl

none_of : (g : Stage) → one_if (is_waiting g) ≤ one_if true
none_of Idle = omega arith
none_of Waiting = omega arith
none_of Released = omega arith

pub waiting_le : (t : Tree) → waiting t ≤ every_hold t
waiting_le t = count_le (λ _ g. is_waiting g) (λ _ _. true) t (λ m g. none_of g)

mutual
  pub settled_waits : (t : Tree) → Tidy t → is_open (outcome t) ≡ false → waiting t ≡ 0
  settled_waits (leaf n k b x) h e = refl
  settled_waits nothing h e = refl
  settled_waits (reject w) h e = refl
  settled_waits (all ts) h e = settled_waits_all ts h e
  settled_waits (first ts) h e = settled_waits_first ts h e
  settled_waits (hold n i z c g) h e = let a = ap one_if (hold_settled g (outcome c) e) in let b = waiting_le c in omega (arith, h.1)

  pub settled_waits_all : (ts : Trees) → TidyIn ts → is_open (outcome_of_all ts) ≡ false → count_holds_in (λ _ g. is_waiting g) ts ≡ 0
  settled_waits_all none h e = refl
  settled_waits_all (more t ts) h e =
      let s = all_settled (outcome t) (outcome_of_all ts) e in
      let a = settled_waits t h.0 s.0 in let b = settled_waits_all ts h.1 s.1 in omega arith

  pub settled_waits_first : (ts : Trees) → TidyAfter ts → is_open (outcome_of_first ts) ≡ false → count_holds_in (λ _ g. is_waiting g) ts ≡ 0
  settled_waits_first none h e = refl
  settled_waits_first (more t ts) (h, (inl l, r)) e =
      let s = first_settled (outcome t) (outcome_of_first ts) e in
      let a = settled_waits t h s.0 in let b = settled_waits_first ts r (s.1 l) in omega arith
  settled_waits_first (more t ts) (h, (inr z, r)) e =
      let s = first_settled (outcome t) (outcome_of_first ts) e in
      let a = settled_waits t h s.0 in omega arith

-- the holds that pass every test are all holds
mutual
  pub every_is_holds : (t : Tree) → every_hold t ≡ holds t
  every_is_holds (leaf n k b x) = refl
  every_is_holds nothing = refl
  every_is_holds (reject w) = refl
  every_is_holds (all ts) = every_is_holds_in ts
  every_is_holds (first ts) = every_is_holds_in ts
  every_is_holds (hold n i z c g) = let a = every_is_holds c in omega arith

  pub every_is_holds_in : (ts : Trees) → count_holds_in (λ _ _. true) ts ≡ holds_in ts
  every_is_holds_in none = refl
  every_is_holds_in (more t ts) = let a = every_is_holds t in let b = every_is_holds_in ts in omega arith

-- a release of the stages of one number; tests that it does not tell apart
mutual
  pub count_release : (p : ℕ → Stage → Bool) (n : ℕ) (t : Tree) → ((m : ℕ) (g : Stage) → p m (cond (eqb m n) (releases g) g) ≡ p m g) → count_holds p (release n t) ≡ count_holds p t
  count_release p n (leaf l k b x) h = refl
  count_release p n nothing h = refl
  count_release p n (reject w) h = refl
  count_release p n (all ts) h = count_release_in p n ts h
  count_release p n (first ts) h = count_release_in p n ts h
  count_release p n (hold m e z c g) h = let a = count_release p n c h in let b = ap one_if (h m g) in omega arith

  pub count_release_in : (p : ℕ → Stage → Bool) (n : ℕ) (ts : Trees) → ((m : ℕ) (g : Stage) → p m (cond (eqb m n) (releases g) g) ≡ p m g) → count_holds_in p (release_each n ts) ≡ count_holds_in p ts
  count_release_in p n none h = refl
  count_release_in p n (more t ts) h = let a = count_release p n t h in let b = count_release_in p n ts h in omega arith

active_no_more : (b : Bool) (g : Stage) → one_if (is_active (cond b (releases g) g)) ≤ one_if (is_active g)
active_no_more true Idle = omega arith
active_no_more true Waiting = omega arith
active_no_more true Released = omega arith
active_no_more false g = omega arith

mutual
  pub active_release : (n : ℕ) (t : Tree) → active (release n t) ≤ active t
  active_release n (leaf l k b x) = omega arith
  active_release n nothing = omega arith
  active_release n (reject w) = omega arith
  active_release n (all ts) = active_release_in n ts
  active_release n (first ts) = active_release_in n ts
  active_release n (hold m e z c g) = let a = active_release n c in let b = active_no_more (eqb m n) g in omega arith

  pub active_release_in : (n : ℕ) (ts : Trees) → count_holds_in (λ _ g. is_active g) (release_each n ts) ≤ count_holds_in (λ _ g. is_active g) ts
  active_release_in n none = omega arith
  active_release_in n (more t ts) = let a = active_release n t in let b = active_release_in n ts in omega arith
