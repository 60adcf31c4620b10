-- A hold that begins to wait: the tree stays tidy, and one more waits.
use Rattle.std.proofs.Common.{◌≡◌, ℕ, ◌+◌, ◌≤◌, Bool, true, false, cond, eqb, ◌&&◌, inl, inr, arith, refl, ap, ◌∙◌, Some}
use Rattle.bt_demand.specs.Tree.{Tree, Trees, leaf, drop as nothing, reject, all, first, hold, none, more}
use Rattle.bt_demand.specs.Steps.{wait, wait_each, waits}
use Rattle.bt_demand.specs.Next.{todo, todo_of_all, todo_of_first, outcome_after}
use Rattle.bt_demand.specs.Outcomes.{outcome}
use Rattle.bt_demand.specs.Holding.{one_if, is_waiting, is_idle, count_holds, count_holds_in, every_hold, waiting, holds_at, Tidy, TidyIn, TidyAfter, OneEach}
use Rattle.bt_demand.specs.declared.todo.Todo.TheVariants.{Wait, Settled}
use Rattle.bt_demand.specs.declared.demand.Stage.{Stage}
use Rattle.bt_demand.specs.declared.demand.Stage.TheVariants.{Untried as Idle, Waiting, Released}
use Rattle.bt_demand.specs.declared.outcome.Outcome.TheVariants.{Lost}
use Rattle.bt_demand.proofs.NextSettles.{outcome_todo}
use Rattle.bt_steps.proofs.HoldLaws.{count_le, count_le_all}
use Rattle.bt_steps.proofs.BookLaws.{wait_idle, wait_idle_all, wait_idle_first, idle_exact, both_waits, fallback_waits, idle_le, idle_one}
use Rattle.bt_steps.proofs.Outcomes.{outcome_wait}

-- a hold that is not there cannot wait
stay_stage : (b : Bool) (g : Stage) → one_if b ≡ 0 → cond b (waits g) g ≡ g
stay_stage true g e = absurd (omega arith)
stay_stage false g e = refl

mutual
  pub wait_none : (n : ℕ) (t : Tree) → holds_at n t ≡ 0 → wait n t ≡ t
  wait_none n (leaf l k b x) h = refl
  wait_none n nothing h = refl
  wait_none n (reject w) h = refl
  wait_none n (all ts) h = ap all (wait_all_none n ts h)
  wait_none n (first ts) h = ap first (wait_all_none n ts h)
  wait_none n (hold m e z c g) h =
      let a : wait n c ≡ c = wait_none n c (omega arith) in
      let b : cond (eqb m n) (waits g) g ≡ g = stay_stage (eqb m n) g (omega arith) in
      rw (a, b) refl

  pub wait_all_none : (n : ℕ) (ts : Trees) → count_holds_in (λ m _. eqb m n) ts ≡ 0 → wait_each n ts ≡ ts
  wait_all_none n none h = refl
  wait_all_none n (more t ts) h =
      let a : wait n t ≡ t = wait_none n t (omega arith) in
      let b : wait_each n ts ≡ ts = wait_all_none n ts (omega arith) in
      rw (a, b) refl

at_le : (m n : ℕ) → one_if (eqb m n) ≤ one_if true
at_le m n = elim (eqb m n) as (λ b. one_if b ≤ one_if true) [ true ↦ omega arith | false ↦ omega arith ]

at_holds : (n : ℕ) (t : Tree) → holds_at n t ≤ every_hold t
at_holds n t = count_le (λ m _. eqb m n) (λ _ _. true) t (λ m g. at_le m n)

idle_all_le : (n : ℕ) (ts : Trees) → count_holds_in (λ m g. eqb m n && is_idle g) ts ≤ count_holds_in (λ m _. eqb m n) ts
idle_all_le n ts = count_le_all (λ m g. eqb m n && is_idle g) (λ m _. eqb m n) ts (λ m g. idle_one m n g (eqb m n))

lost_next : (t : Tree) → todo t ≡ Some (Settled false) → outcome t ≡ Lost
lost_next t e = outcome_todo t ∙ ap outcome_after e

mutual
  pub tidy_wait : (n : ℕ) (t : Tree) → Tidy t → todo t ≡ Some (Wait n) → holds_at n t ≤ 1 → Tidy (wait n t)
  tidy_wait n (leaf l k b x) h e o = tt
  tidy_wait n nothing h e o = tt
  tidy_wait n (reject w) h e o = tt
  tidy_wait n (all ts) h e o = tidy_wait_all n ts h e o
  tidy_wait n (first ts) h e o = tidy_wait_first n ts h e o
  tidy_wait n (hold m i z c g) h e o =
      let a : wait n c ≡ c = wait_none n c (let b = at_holds n c in omega (arith, h.1)) in
      rw a h

  pub tidy_wait_all : (n : ℕ) (ts : Trees) → TidyIn ts → todo_of_all ts ≡ Some (Wait n) → count_holds_in (λ m _. eqb m n) ts ≤ 1 → TidyIn (wait_each n ts)
  tidy_wait_all n none h e o = tt
  tidy_wait_all n (more t ts) h e o = elim (both_waits (todo t) (todo_of_all ts) n e) [
    | inl w ↦ (let i = wait_idle n t w in let j = idle_le n t in
        let a : wait_each n ts ≡ ts = wait_all_none n ts (omega arith) in
        (tidy_wait n t h.0 w (omega arith), rw a h.1))
    | inr w ↦ (let i = wait_idle_all n ts w in let j = idle_all_le n ts in
        let a : wait n t ≡ t = wait_none n t (omega arith) in
        (rw a h.0, tidy_wait_all n ts h.1 w (omega arith)))
  ]

  pub tidy_wait_first : (n : ℕ) (ts : Trees) → TidyAfter ts → todo_of_first ts ≡ Some (Wait n) → count_holds_in (λ m _. eqb m n) ts ≤ 1 → TidyAfter (wait_each n ts)
  tidy_wait_first n none h e o = tt
  tidy_wait_first n (more t ts) h e o = elim (fallback_waits (todo t) (todo_of_first ts) n e) [
    | inl w ↦ (let i = wait_idle n t w in let j = idle_le n t in
        let a : wait_each n ts ≡ ts = wait_all_none n ts (omega arith) in
        (tidy_wait n t h.0 w (omega arith), rw (a, outcome_wait n t) h.1))
    | inr w ↦ (let i = wait_idle_first n ts w.1 in let j = idle_all_le n ts in
        let a : wait n t ≡ t = wait_none n t (omega arith) in
        rw a (h.0, (inl (lost_next t w.0), tidy_wait_first n ts h.1.1 w.1 (omega arith))))
  ]

-- one more waits
waits_one : (m n : ℕ) (g : Stage) (b : Bool) → one_if (is_waiting (cond b (waits g) g)) ≡ one_if (is_waiting g) + one_if (b && is_idle g)
waits_one m n Idle true = refl
waits_one m n Idle false = refl
waits_one m n Waiting true = refl
waits_one m n Waiting false = refl
waits_one m n Released true = refl
waits_one m n Released false = refl

mutual
  pub waiting_sum : (n : ℕ) (t : Tree) → waiting (wait n t) ≡ waiting t + count_holds (λ m g. eqb m n && is_idle g) t
  waiting_sum n (leaf l k b x) = omega arith
  waiting_sum n nothing = omega arith
  waiting_sum n (reject w) = omega arith
  waiting_sum n (all ts) = waiting_sum_all n ts
  waiting_sum n (first ts) = waiting_sum_all n ts
  waiting_sum n (hold m e z c g) = let a = waiting_sum n c in let b = waits_one m n g (eqb m n) in omega arith

  pub waiting_sum_all : (n : ℕ) (ts : Trees) → count_holds_in (λ _ g. is_waiting g) (wait_each n ts) ≡ count_holds_in (λ _ g. is_waiting g) ts + count_holds_in (λ m g. eqb m n && is_idle g) ts
  waiting_sum_all n none = omega arith
  waiting_sum_all n (more t ts) = let a = waiting_sum n t in let b = waiting_sum_all n ts in omega arith

pub waiting_one : (n : ℕ) (t : Tree) → OneEach t → todo t ≡ Some (Wait n) → waiting (wait n t) ≡ waiting t + 1
waiting_one n t o e = let a = waiting_sum n t in let b = idle_exact n t o e in omega arith
