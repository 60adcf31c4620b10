-- What a step leaves of a tree.
use Rattle.std.proofs.Common.{◌≡◌, ℕ, zero, suc, ◌+◌, ◌≤◌, Bool, true, false, cond, eqb, ◌&&◌, ◌⊎◌, inl, inr, arith, refl, ap, ◌∙◌, Option, Some, None}
use Rattle.bt_demand.specs.Tree.{Tree, Trees, leaf, drop as nothing, reject, all, first, hold, none, more}
use Rattle.bt_demand.specs.Steps.{settle, settle_each, wait, wait_each, release, release_each, state_for}
use Rattle.bt_demand.specs.Next.{todo}
use Rattle.bt_demand.specs.Find.{begun}
use Rattle.bt_demand.specs.Outcomes.{outcome}
use Rattle.bt_demand.specs.Recorded.{Grows}
use Rattle.bt_demand.specs.Holding.{one_if, is_active, is_open, count_holds_in, every_hold, active, holds_at, booked_in}
use Rattle.bt_demand.specs.declared.todo.Todo.TheVariants.{Wait}
use Rattle.bt_demand.specs.declared.demand.State.{State}
use Rattle.bt_demand.specs.declared.outcome.Outcome.{Outcome}
use Rattle.bt_demand.specs.declared.outcome.Outcome.TheVariants.{Open as Pending, Met, Lost}
use Rattle.bt_demand.proofs.Flushing.{outcome_grows}
use Rattle.bt_demand.proofs.Moves.{settle_steps, wait_steps, release_steps}
use Rattle.bt_demand.specs.Holding.{held_by, held_by_some, held_or_else}
use Rattle.bt_demand.specs.declared.holding.Held.{Held}
use Rattle.bt_steps.specs.Stepped.{stepped}
use Rattle.bt_steps.specs.declared.step.Step.{Step}
use Rattle.bt_steps.specs.declared.step.Step.TheVariants.{Settle, Wait as Waits, Release}
use Rattle.bt_steps.proofs.HoldLaws.{count_settle, count_release, active_wait, active_le, active_release, holds_wait, holds_at_wait}
use Rattle.bt_steps.proofs.BookLaws.{wait_idle, idle_le}

pub every_step : (st : Step) (t : Tree) → every_hold (stepped st t) ≡ every_hold t
every_step (Settle l a) t = count_settle (λ _ _. true) l (state_for a) t
every_step (Waits n) t = holds_wait n t
every_step (Release n) t = count_release (λ _ _. true) n t (λ m g. refl)

pub holds_at_step : (k : ℕ) (st : Step) (t : Tree) → holds_at k (stepped st t) ≡ holds_at k t
holds_at_step k (Settle l a) t = count_settle (λ m _. eqb m k) l (state_for a) t
holds_at_step k (Waits n) t = holds_at_wait k n t
holds_at_step k (Release n) t = count_release (λ m _. eqb m k) n t (λ m g. refl)

pub active_step : (st : Step) (t : Tree) → active (stepped st t) ≤ active t
active_step (Settle l a) t = let e = count_settle (λ _ g. is_active g) l (state_for a) t in omega arith
active_step (Waits n) t = let e = active_wait n t in omega arith
active_step (Release n) t = active_release n t

pub grows_step : (st : Step) (t : Tree) → Grows (outcome t) (outcome (stepped st t))
grows_step (Settle l a) t = outcome_grows 0 t _ (settle_steps 0 l (state_for a) t)
grows_step (Waits n) t = outcome_grows 0 t _ (wait_steps 0 n t)
grows_step (Release n) t = outcome_grows 0 t _ (release_steps 0 n t (omega arith))

mutual
  held_settle : (k l : ℕ) (s : State) (t : Tree) → held_by k (settle l s t) ≡ held_by k t
  held_settle k l s (leaf n j b x) = refl
  held_settle k l s nothing = refl
  held_settle k l s (reject w) = refl
  held_settle k l s (all ts) = held_settle_in k l s ts
  held_settle k l s (first ts) = held_settle_in k l s ts
  held_settle k l s (hold n e z c g) = ap (λ o. cond (eqb n k) (Some (record { ends = e; size = z })) o) (held_settle k l s c)

  held_settle_in : (k l : ℕ) (s : State) (ts : Trees) → held_by_some k (settle_each l s ts) ≡ held_by_some k ts
  held_settle_in k l s none = refl
  held_settle_in k l s (more t ts) = ap (λ o. held_or_else o (held_by_some k (settle_each l s ts))) (held_settle k l s t) ∙ ap (held_or_else (held_by k t)) (held_settle_in k l s ts)

mutual
  held_wait : (k n : ℕ) (t : Tree) → held_by k (wait n t) ≡ held_by k t
  held_wait k n (leaf l j b x) = refl
  held_wait k n nothing = refl
  held_wait k n (reject w) = refl
  held_wait k n (all ts) = held_wait_in k n ts
  held_wait k n (first ts) = held_wait_in k n ts
  held_wait k n (hold m e z c g) = ap (λ o. cond (eqb m k) (Some (record { ends = e; size = z })) o) (held_wait k n c)

  held_wait_in : (k n : ℕ) (ts : Trees) → held_by_some k (wait_each n ts) ≡ held_by_some k ts
  held_wait_in k n none = refl
  held_wait_in k n (more t ts) = ap (λ o. held_or_else o (held_by_some k (wait_each n ts))) (held_wait k n t) ∙ ap (held_or_else (held_by k t)) (held_wait_in k n ts)

mutual
  held_release : (k n : ℕ) (t : Tree) → held_by k (release n t) ≡ held_by k t
  held_release k n (leaf l j b x) = refl
  held_release k n nothing = refl
  held_release k n (reject w) = refl
  held_release k n (all ts) = held_release_in k n ts
  held_release k n (first ts) = held_release_in k n ts
  held_release k n (hold m e z c g) = ap (λ o. cond (eqb m k) (Some (record { ends = e; size = z })) o) (held_release k n c)

  held_release_in : (k n : ℕ) (ts : Trees) → held_by_some k (release_each n ts) ≡ held_by_some k ts
  held_release_in k n none = refl
  held_release_in k n (more t ts) = ap (λ o. held_or_else o (held_by_some k (release_each n ts))) (held_release k n t) ∙ ap (held_or_else (held_by k t)) (held_release_in k n ts)

pub held_step : (k : ℕ) (st : Step) (t : Tree) → held_by k (stepped st t) ≡ held_by k t
held_step k (Settle l a) t = held_settle k l (state_for a) t
held_step k (Waits n) t = held_wait k n t
held_step k (Release n) t = held_release k n t

-- a hold of a number that some hold has says something
abbrev IsHere : Option Held → Type 0
IsHere None = ⊥
IsHere (Some h) = Unit {0}

here_left : (a b : Option Held) → IsHere a → IsHere (held_or_else a b)
here_left None b h = absurd h
here_left (Some x) b h = tt

here_right : (a b : Option Held) → IsHere b → IsHere (held_or_else a b)
here_right None b h = h
here_right (Some x) b h = tt

split_one : (a b : ℕ) → 1 ≤ a + b → (1 ≤ a) ⊎ (1 ≤ b)
split_one zero b h = inr (omega arith)
split_one (suc a) b h = inl (omega arith)

here_cond : (b : Bool) (x : Held) (o : Option Held) (k : ℕ) → 1 ≤ one_if b + k → (1 ≤ k → IsHere o) → IsHere (cond b (Some x) o)
here_cond true x o k h f = tt
here_cond false x o k h f = f (omega arith)

mutual
  pub held_there : (n : ℕ) (t : Tree) → 1 ≤ holds_at n t → IsHere (held_by n t)
  held_there n (leaf l k b x) h = absurd (omega arith)
  held_there n nothing h = absurd (omega arith)
  held_there n (reject w) h = absurd (omega arith)
  held_there n (all ts) h = held_there_in n ts h
  held_there n (first ts) h = held_there_in n ts h
  held_there n (hold m e z c g) h = here_cond (eqb m n) (record { ends = e; size = z }) (held_by n c) (holds_at n c) h (held_there n c)

  held_there_in : (n : ℕ) (ts : Trees) → 1 ≤ count_holds_in (λ m _. eqb m n) ts → IsHere (held_by_some n ts)
  held_there_in n none h = absurd (omega arith)
  held_there_in n (more t ts) h = elim (split_one (holds_at n t) (count_holds_in (λ m _. eqb m n) ts) h) [
    | inl a ↦ here_left (held_by n t) (held_by_some n ts) (held_there n t a)
    | inr b ↦ here_right (held_by n t) (held_by_some n ts) (held_there_in n ts b)
  ]

-- a hold that is next has its number
pub next_at : (n : ℕ) (t : Tree) → todo t ≡ Some (Wait n) → 1 ≤ holds_at n t
next_at n t e = let a = wait_idle n t e in let b = idle_le n t in omega arith

not_here : (o : Option Held) → IsHere o → o ≡ None → ⊥
not_here None h e = h
not_here (Some x) h e = cc

pub next_held : (n : ℕ) (t : Tree) → todo t ≡ Some (Wait n) → held_by n t ≡ None → ⊥
next_held n t e f = not_here (held_by n t) (held_there n t (next_at n t e)) f

booked_le : (b o : Bool) (a : ℕ) → cond (b && o) a 0 ≤ a
booked_le true true a = omega arith
booked_le true false a = omega arith
booked_le false o a = omega arith

pub booked_few : (t : Tree) → every_hold t ≤ 64 → booked_in t ≤ 64
booked_few t h = let a = booked_le (begun t) (is_open (outcome t)) (active t) in let b = active_le t in omega arith

pub settled_stays : (a b : Outcome) → Grows a b → is_open a ≡ false → is_open b ≡ false
settled_stays Pending b g e = cc
settled_stays Met b g e = ap is_open g
settled_stays Lost b g e = ap is_open g
