-- What a step keeps of a tidy tree, and what waits and is idle in it.
use Rattle.std.proofs.Common.{◌≡◌, ℕ, ◌+◌, ◌≤◌, Bool, true, false, cond, eqb, ◌&&◌, ◌||◌, ◌⊎◌, inl, inr, arith, refl, ap, ◌∙◌, eq-eqb, Option, Some, None}
use Rattle.bt_demand.specs.Tree.{Tree, Trees, leaf, drop as nothing, reject, all, first, hold, none, more}
use Rattle.bt_demand.specs.Steps.{settle, settle_each, release, release_each, releases}
use Rattle.bt_demand.specs.Next.{todo, todo_of_all, todo_of_first, both, fallback, todo_of_leaf, todo_of_hold}
use Rattle.bt_demand.specs.Find.{begun, some_begun, reached}
use Rattle.bt_demand.specs.Outcomes.{outcome}
use Rattle.bt_demand.specs.Recorded.{Grows}
use Rattle.bt_demand.specs.Holding.{one_if, is_waiting, is_idle, is_open, count_holds, count_holds_in, every_hold, active, waiting, holds_at, booked_in, Tidy, TidyIn, TidyAfter, OneEach}
use Rattle.bt_demand.specs.declared.todo.Todo.{Todo}
use Rattle.bt_demand.specs.declared.todo.Todo.TheVariants.{Put, Wait, Settled}
use Rattle.bt_demand.specs.declared.demand.State.{State}
use Rattle.bt_demand.specs.declared.demand.State.TheVariants.{Untried as Fresh, Good, Bad}
use Rattle.bt_demand.specs.declared.demand.Stage.{Stage}
use Rattle.bt_demand.specs.declared.demand.Stage.TheVariants.{Untried as Idle, Waiting, Released}
use Rattle.bt_demand.specs.declared.outcome.Outcome.{Outcome}
use Rattle.bt_demand.specs.declared.outcome.Outcome.TheVariants.{Open as Pending, Met, Lost}
use Rattle.bt_demand.proofs.Flushing.{outcome_grows}
use Rattle.bt_demand.proofs.Moves.{settle_steps, release_steps}
use Rattle.bt_steps.proofs.HoldLaws.{count_settle, count_settle_all, active_split, settled_waits, count_le}

lost_kept : (a b : Outcome) → Grows a b → a ≡ Lost → b ≡ Lost
lost_kept Pending b p e = cc
lost_kept Met b p e = cc
lost_kept Lost b p e = p

-- a record keeps a tree tidy
mutual
  pub tidy_settle : (l : ℕ) (s : State) (t : Tree) → Tidy t → Tidy (settle l s t)
  tidy_settle l s (leaf n k b x) h = tt
  tidy_settle l s nothing h = tt
  tidy_settle l s (reject w) h = tt
  tidy_settle l s (all ts) h = tidy_settle_all l s ts h
  tidy_settle l s (first ts) h = tidy_settle_first l s ts h
  tidy_settle l s (hold n e z c g) h = (tidy_settle l s c h.0, count_settle (λ _ _. true) l s c ∙ h.1)

  pub tidy_settle_all : (l : ℕ) (s : State) (ts : Trees) → TidyIn ts → TidyIn (settle_each l s ts)
  tidy_settle_all l s none h = tt
  tidy_settle_all l s (more t ts) h = (tidy_settle l s t h.0, tidy_settle_all l s ts h.1)

  pub tidy_settle_first : (l : ℕ) (s : State) (ts : Trees) → TidyAfter ts → TidyAfter (settle_each l s ts)
  tidy_settle_first l s none h = tt
  tidy_settle_first l s (more t ts) (h, (inl e, r)) = (tidy_settle l s t h, (inl (lost_kept (outcome t) _ (outcome_grows 0 t _ (settle_steps 0 l s t)) e), tidy_settle_first l s ts r))
  tidy_settle_first l s (more t ts) (h, (inr z, r)) = (tidy_settle l s t h, (inr (count_settle_all (λ _ g. is_waiting g) l s ts ∙ z), tidy_settle_first l s ts r))

-- a release makes what waits no more
released_le : (n m : ℕ) (g : Stage) (b : Bool) → one_if (is_waiting (cond b (releases g) g)) ≤ one_if (is_waiting g)
released_le n m Idle true = omega arith
released_le n m Idle false = omega arith
released_le n m Waiting true = omega arith
released_le n m Waiting false = omega arith
released_le n m Released true = omega arith
released_le n m Released false = omega arith

mutual
  pub waiting_release : (n : ℕ) (t : Tree) → waiting (release n t) ≤ waiting t
  waiting_release n (leaf l k b x) = omega arith
  waiting_release n nothing = omega arith
  waiting_release n (reject w) = omega arith
  waiting_release n (all ts) = waiting_release_all n ts
  waiting_release n (first ts) = waiting_release_all n ts
  waiting_release n (hold m e z c g) = let a = waiting_release n c in let b = released_le n m g (eqb m n) in omega arith

  pub waiting_release_all : (n : ℕ) (ts : Trees) → count_holds_in (λ _ g. is_waiting g) (release_each n ts) ≤ count_holds_in (λ _ g. is_waiting g) ts
  waiting_release_all n none = omega arith
  waiting_release_all n (more t ts) = let a = waiting_release n t in let b = waiting_release_all n ts in omega arith

mutual
  pub holds_release : (n : ℕ) (t : Tree) → every_hold (release n t) ≡ every_hold t
  holds_release n (leaf l k b x) = refl
  holds_release n nothing = refl
  holds_release n (reject w) = refl
  holds_release n (all ts) = holds_release_all n ts
  holds_release n (first ts) = holds_release_all n ts
  holds_release n (hold m e z c g) = ap (λ k. 1 + k) (holds_release n c)

  pub holds_release_all : (n : ℕ) (ts : Trees) → count_holds_in (λ _ _. true) (release_each n ts) ≡ count_holds_in (λ _ _. true) ts
  holds_release_all n none = refl
  holds_release_all n (more t ts) = let a = holds_release n t in let b = holds_release_all n ts in omega arith

mutual
  pub tidy_release : (n : ℕ) (t : Tree) → Tidy t → Tidy (release n t)
  tidy_release n (leaf l k b x) h = tt
  tidy_release n nothing h = tt
  tidy_release n (reject w) h = tt
  tidy_release n (all ts) h = tidy_release_all n ts h
  tidy_release n (first ts) h = tidy_release_first n ts h
  tidy_release n (hold m e z c g) h = (tidy_release n c h.0, holds_release n c ∙ h.1)

  pub tidy_release_all : (n : ℕ) (ts : Trees) → TidyIn ts → TidyIn (release_each n ts)
  tidy_release_all n none h = tt
  tidy_release_all n (more t ts) h = (tidy_release n t h.0, tidy_release_all n ts h.1)

  pub tidy_release_first : (n : ℕ) (ts : Trees) → TidyAfter ts → TidyAfter (release_each n ts)
  tidy_release_first n none h = tt
  tidy_release_first n (more t ts) (h, (inl e, r)) = (tidy_release n t h, (inl (lost_kept (outcome t) _ (outcome_grows 0 t _ (release_steps 0 n t (omega arith))) e), tidy_release_first n ts r))
  tidy_release_first n (more t ts) (h, (inr z, r)) = (tidy_release n t h, (inr (let a = waiting_release_all n ts in omega arith), tidy_release_first n ts r))

-- the hold that is next is idle
pub both_waits : (a b : Option Todo) (l : ℕ) → both a b ≡ Some (Wait l) → (a ≡ Some (Wait l)) ⊎ (b ≡ Some (Wait l))
both_waits (Some (Put m j)) b l e = inl e
both_waits (Some (Wait n)) b l e = inl e
both_waits (Some (Settled m)) (Some (Put n j)) l e = inr e
both_waits (Some (Settled m)) (Some (Wait n)) l e = inr e
both_waits (Some (Settled m)) (Some (Settled n)) l e = cc
both_waits (Some (Settled m)) None l e = cc
both_waits None (Some (Put n j)) l e = inr e
both_waits None (Some (Wait n)) l e = inr e
both_waits None (Some (Settled n)) l e = cc
both_waits None None l e = cc

pub fallback_waits : (a b : Option Todo) (l : ℕ) → fallback a b ≡ Some (Wait l) → (a ≡ Some (Wait l)) ⊎ ((a ≡ Some (Settled false)) × (b ≡ Some (Wait l)))
fallback_waits (Some (Put m j)) b l e = inl e
fallback_waits (Some (Wait n)) b l e = inl e
fallback_waits (Some (Settled true)) b l e = cc
fallback_waits (Some (Settled false)) b l e = inr (refl, e)
fallback_waits None b l e = cc

leaf_never : (n k l : ℕ) (x : State) → todo_of_leaf n k x ≡ Some (Wait l) → ⊥
leaf_never n k l Fresh e = cc
leaf_never n k l Good e = cc
leaf_never n k l Bad e = cc

pub hold_idle : (m n : ℕ) (g : Stage) (r : Option Todo) → todo_of_hold m g r ≡ Some (Wait n) → (((m ≡ n) × (g ≡ Idle)) ⊎ (r ≡ Some (Wait n)))
hold_idle m n Idle r e = inl (cc, refl)
hold_idle m n Waiting r e = cc
hold_idle m n Released r e = inr e

mutual
  pub wait_idle : (n : ℕ) (t : Tree) → todo t ≡ Some (Wait n) → 1 ≤ count_holds (λ m g. eqb m n && is_idle g) t
  wait_idle n (leaf l k b x) e = absurd (leaf_never l k n x e)
  wait_idle n nothing e = cc
  wait_idle n (reject w) e = cc
  wait_idle n (all ts) e = wait_idle_all n ts e
  wait_idle n (first ts) e = wait_idle_first n ts e
  wait_idle n (hold m i z c g) e = elim (hold_idle m n g (todo c) e) [
    | inl h ↦ (let a : one_if (eqb m n && is_idle g) ≡ 1 = rw (h.1, eq-eqb m n h.0) refl in omega arith)
    | inr h ↦ (let a = wait_idle n c h in omega arith)
  ]

  pub wait_idle_all : (n : ℕ) (ts : Trees) → todo_of_all ts ≡ Some (Wait n) → 1 ≤ count_holds_in (λ m g. eqb m n && is_idle g) ts
  wait_idle_all n none e = cc
  wait_idle_all n (more t ts) e = elim (both_waits (todo t) (todo_of_all ts) n e) [
    | inl h ↦ (let a = wait_idle n t h in omega arith)
    | inr h ↦ (let a = wait_idle_all n ts h in omega arith)
  ]

  pub wait_idle_first : (n : ℕ) (ts : Trees) → todo_of_first ts ≡ Some (Wait n) → 1 ≤ count_holds_in (λ m g. eqb m n && is_idle g) ts
  wait_idle_first n none e = cc
  wait_idle_first n (more t ts) e = elim (fallback_waits (todo t) (todo_of_first ts) n e) [
    | inl h ↦ (let a = wait_idle n t h in omega arith)
    | inr h ↦ (let a = wait_idle_first n ts h.1 in omega arith)
  ]

pub idle_one : (m n : ℕ) (g : Stage) (b : Bool) → one_if (b && is_idle g) ≤ one_if b
idle_one m n Idle true = omega arith
idle_one m n Idle false = omega arith
idle_one m n Waiting true = omega arith
idle_one m n Waiting false = omega arith
idle_one m n Released true = omega arith
idle_one m n Released false = omega arith

pub idle_le : (n : ℕ) (t : Tree) → count_holds (λ m g. eqb m n && is_idle g) t ≤ holds_at n t
idle_le n t = count_le (λ m g. eqb m n && is_idle g) (λ m _. eqb m n) t (λ m g. idle_one m n g (eqb m n))

-- exactly one begins to wait
pub idle_exact : (n : ℕ) (t : Tree) → OneEach t → todo t ≡ Some (Wait n) → count_holds (λ m g. eqb m n && is_idle g) t ≡ 1
idle_exact n t o e = let a = wait_idle n t e in let b = idle_le n t in let c = o n in omega arith

-- a tree in which nothing was done has nothing that waits
or_false : (a b : Bool) → (a || b) ≡ false → (a ≡ false) × (b ≡ false)
or_false true b e = cc
or_false false b e = (refl, e)

stage_fresh : (g : Stage) (b : Bool) → (reached g || b) ≡ false → (is_waiting g ≡ false) × (b ≡ false)
stage_fresh Idle b e = (refl, e)
stage_fresh Waiting b e = cc
stage_fresh Released b e = cc

mutual
  pub fresh_waits : (t : Tree) → begun t ≡ false → waiting t ≡ 0
  fresh_waits (leaf n k b x) e = refl
  fresh_waits nothing e = refl
  fresh_waits (reject w) e = refl
  fresh_waits (all ts) e = fresh_waits_all ts e
  fresh_waits (first ts) e = fresh_waits_all ts e
  fresh_waits (hold n i z c g) e = let s = stage_fresh g (begun c) e in let a = ap one_if s.0 in let b = fresh_waits c s.1 in omega arith

  pub fresh_waits_all : (ts : Trees) → some_begun ts ≡ false → count_holds_in (λ _ g. is_waiting g) ts ≡ 0
  fresh_waits_all none e = refl
  fresh_waits_all (more t ts) e = let s = or_false (begun t) (some_begun ts) e in let a = fresh_waits t s.0 in let b = fresh_waits_all ts s.1 in omega arith

booked_cases : (b o : Bool) (a w : ℕ) → (b ≡ false → w ≡ 0) → (o ≡ false → w ≡ 0) → w ≤ a → w ≤ cond (b && o) a 0
booked_cases true true a w f g h = h
booked_cases true false a w f g h = let z = g refl in omega arith
booked_cases false o a w f g h = let z = f refl in omega arith

-- what waits is booked
pub waiting_booked : (t : Tree) → Tidy t → waiting t ≤ booked_in t
waiting_booked t h = booked_cases (begun t) (is_open (outcome t)) (active t) (waiting t) (λ e. fresh_waits t e) (λ e. settled_waits t h e) (let a = active_split t in omega arith)
