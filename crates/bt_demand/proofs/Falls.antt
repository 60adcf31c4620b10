-- Each change of a demand leaves less to change.
use Rattle.std.proofs.Common.{◌≡◌, ℕ, ◌+◌, ◌<◌, ◌≤◌, Bool, true, false, cond, eqb, Option, Some, inl, inr, arith, eq-eqb}
use Rattle.bt_demand.specs.Tree.{Tree, Trees, leaf, drop, reject, all, first, hold, none, more}
use Rattle.bt_demand.specs.Steps.{settle, settle_each, wait, wait_each, release, release_each, state_for, settles, waits, releases}
use Rattle.bt_demand.specs.Next.{todo, todo_of_all, todo_of_first, todo_of_leaf, todo_of_hold}
use Rattle.bt_demand.specs.Work.{work, work_all, work_of_state, work_of_stage, Waits, SomeWaits}
use Rattle.bt_demand.proofs.Starts.{both-puts, else-puts, both-waits, else-waits, hold-put, leaf-never-waits}
use Rattle.bt_demand.specs.declared.todo.Todo.{Todo}
use Rattle.bt_demand.specs.declared.todo.Todo.TheVariants.{Put, Wait}
use Rattle.bt_demand.specs.declared.demand.State.{State}
use Rattle.bt_demand.specs.declared.demand.State.TheVariants.{Untried as Fresh, Good, Bad}
use Rattle.bt_demand.specs.declared.demand.Stage.{Stage}
use Rattle.bt_demand.specs.declared.demand.Stage.TheVariants.{Untried as Idle, Waiting, Released}

leaf_no_more : (b a : Bool) (x : State) → work_of_state (cond b (settles (state_for a) x) x) ≤ work_of_state x
leaf_no_more true true Fresh = omega arith
leaf_no_more true false Fresh = omega arith
leaf_no_more true a Good = omega arith
leaf_no_more true a Bad = omega arith
leaf_no_more false a x = omega arith

mutual
  pub settle_no_more : (l : ℕ) (a : Bool) (t : Tree) → work (settle l (state_for a) t) ≤ work t
  settle_no_more l a (leaf n k w x) = leaf_no_more (eqb n l) a x
  settle_no_more l a drop = omega arith
  settle_no_more l a (reject w) = omega arith
  settle_no_more l a (all ts) = settle_all_no_more l a ts
  settle_no_more l a (first ts) = settle_all_no_more l a ts
  settle_no_more l a (hold n e z c g) = let h = settle_no_more l a c in omega arith

  pub settle_all_no_more : (l : ℕ) (a : Bool) (ts : Trees) → work_all (settle_each l (state_for a) ts) ≤ work_all ts
  settle_all_no_more l a none = omega arith
  settle_all_no_more l a (more t ts) = let h = settle_no_more l a t in let k = settle_all_no_more l a ts in omega arith

leaf_less : (n l k m : ℕ) (x : State) (a : Bool) → todo_of_leaf n k x ≡ Some (Put l m) → work_of_state (cond (eqb n l) (settles (state_for a) x) x) < work_of_state x
leaf_less n l k m Fresh true e = let s : n ≡ l = cc in rw (eq-eqb n l s) (omega arith)
leaf_less n l k m Fresh false e = let s : n ≡ l = cc in rw (eq-eqb n l s) (omega arith)
leaf_less n l k m Good a e = cc
leaf_less n l k m Bad a e = cc

mutual
  pub settle_less : (l k : ℕ) (a : Bool) (t : Tree) → todo t ≡ Some (Put l k) → work (settle l (state_for a) t) < work t
  settle_less l k a (leaf n j w x) e = leaf_less n l j k x a e
  settle_less l k a drop e = cc
  settle_less l k a (reject w) e = cc
  settle_less l k a (all ts) e = settle_all_less l k a ts e
  settle_less l k a (first ts) e = settle_first_less l k a ts e
  settle_less l k a (hold n e z c g) h = let i = settle_less l k a c (hold-put n g (todo c) l k h).1 in omega arith

  pub settle_all_less : (l k : ℕ) (a : Bool) (ts : Trees) → todo_of_all ts ≡ Some (Put l k) → work_all (settle_each l (state_for a) ts) < work_all ts
  settle_all_less l k a none e = cc
  settle_all_less l k a (more t ts) e =
      let p = settle_no_more l a t in let q = settle_all_no_more l a ts in
      elim (both-puts (todo t) (todo_of_all ts) l k e) [
        | inl h ↦ (let i = settle_less l k a t h in omega arith)
        | inr h ↦ (let i = settle_all_less l k a ts h in omega arith)
      ]

  pub settle_first_less : (l k : ℕ) (a : Bool) (ts : Trees) → todo_of_first ts ≡ Some (Put l k) → work_all (settle_each l (state_for a) ts) < work_all ts
  settle_first_less l k a none e = cc
  settle_first_less l k a (more t ts) e =
      let p = settle_no_more l a t in let q = settle_all_no_more l a ts in
      elim (else-puts (todo t) (todo_of_first ts) l k e) [
        | inl h ↦ (let i = settle_less l k a t h in omega arith)
        | inr h ↦ (let i = settle_first_less l k a ts h.1 in omega arith)
      ]

hold_no_more : (b : Bool) (w : ℕ) (g : Stage) → w + work_of_stage (cond b (waits g) g) ≤ w + work_of_stage g
hold_no_more true w Idle = omega arith
hold_no_more true w Waiting = omega arith
hold_no_more true w Released = omega arith
hold_no_more false w g = omega arith

release_no_more_hold : (b : Bool) (w : ℕ) (g : Stage) → w + work_of_stage (cond b (releases g) g) ≤ w + work_of_stage g
release_no_more_hold true w Idle = omega arith
release_no_more_hold true w Waiting = omega arith
release_no_more_hold true w Released = omega arith
release_no_more_hold false w g = omega arith

mutual
  pub release_no_more : (l : ℕ) (t : Tree) → work (release l t) ≤ work t
  release_no_more l (leaf n k w x) = omega arith
  release_no_more l drop = omega arith
  release_no_more l (reject w) = omega arith
  release_no_more l (all ts) = release_all_no_more l ts
  release_no_more l (first ts) = release_all_no_more l ts
  release_no_more l (hold n e z c g) = let h = release_no_more l c in let k = release_no_more_hold (eqb n l) (work (release l c)) g in omega arith

  pub release_all_no_more : (l : ℕ) (ts : Trees) → work_all (release_each l ts) ≤ work_all ts
  release_all_no_more l none = omega arith
  release_all_no_more l (more t ts) = let h = release_no_more l t in let k = release_all_no_more l ts in omega arith

mutual
  pub wait_no_more : (l : ℕ) (t : Tree) → work (wait l t) ≤ work t
  wait_no_more l (leaf n k w x) = omega arith
  wait_no_more l drop = omega arith
  wait_no_more l (reject w) = omega arith
  wait_no_more l (all ts) = wait_all_no_more l ts
  wait_no_more l (first ts) = wait_all_no_more l ts
  wait_no_more l (hold n e z c g) = let h = wait_no_more l c in let k = hold_no_more (eqb n l) (work (wait l c)) g in omega arith

  pub wait_all_no_more : (l : ℕ) (ts : Trees) → work_all (wait_each l ts) ≤ work_all ts
  wait_all_no_more l none = omega arith
  wait_all_no_more l (more t ts) = let h = wait_no_more l t in let k = wait_all_no_more l ts in omega arith

hold_less : (n l u v : ℕ) (g : Stage) (r : Option Todo) → todo_of_hold n g r ≡ Some (Wait l) → u ≤ v → (r ≡ Some (Wait l) → u < v) → u + work_of_stage (cond (eqb n l) (waits g) g) < v + work_of_stage g
hold_less n l u v Idle r e h f = let s : n ≡ l = cc in rw (eq-eqb n l s) (omega arith)
hold_less n l u v Waiting r e h f = cc
hold_less n l u v Released r e h f = let i : u < v = f e in let k = hold_no_more (eqb n l) u Released in omega arith

mutual
  pub wait_less : (l : ℕ) (t : Tree) → todo t ≡ Some (Wait l) → work (wait l t) < work t
  wait_less l (leaf n j w x) e = absurd (leaf-never-waits n j l x e)
  wait_less l drop e = cc
  wait_less l (reject w) e = cc
  wait_less l (all ts) e = wait_all_less l ts e
  wait_less l (first ts) e = wait_first_less l ts e
  wait_less l (hold n e z c g) h = hold_less n l _ _ g (todo c) h (wait_no_more l c) (λ k. wait_less l c k)

  pub wait_all_less : (l : ℕ) (ts : Trees) → todo_of_all ts ≡ Some (Wait l) → work_all (wait_each l ts) < work_all ts
  wait_all_less l none e = cc
  wait_all_less l (more t ts) e =
      let p = wait_no_more l t in let q = wait_all_no_more l ts in
      elim (both-waits (todo t) (todo_of_all ts) l e) [
        | inl h ↦ (let i = wait_less l t h in omega arith)
        | inr h ↦ (let i = wait_all_less l ts h in omega arith)
      ]

  pub wait_first_less : (l : ℕ) (ts : Trees) → todo_of_first ts ≡ Some (Wait l) → work_all (wait_each l ts) < work_all ts
  wait_first_less l none e = cc
  wait_first_less l (more t ts) e =
      let p = wait_no_more l t in let q = wait_all_no_more l ts in
      elim (else-waits (todo t) (todo_of_first ts) l e) [
        | inl h ↦ (let i = wait_less l t h in omega arith)
        | inr h ↦ (let i = wait_first_less l ts h.1 in omega arith)
      ]

release_stage : (n m u v : ℕ) (g : Stage) → (n ≡ m) × (g ≡ Waiting) → u ≤ v → u + work_of_stage (cond (eqb n m) (releases g) g) < v + work_of_stage g
release_stage n m u v Idle (s, q) h = cc
release_stage n m u v Waiting (s, q) h = rw (eq-eqb n m s) (omega arith)
release_stage n m u v Released (s, q) h = cc

mutual
  pub release_less : (m : ℕ) (t : Tree) → Waits m t → work (release m t) < work t
  release_less m (leaf n k b x) w = absurd w
  release_less m drop w = absurd w
  release_less m (reject r) w = absurd w
  release_less m (all ts) w = release_all_less m ts w
  release_less m (first ts) w = release_all_less m ts w
  release_less m (hold n e z c g) (inl p) = release_stage n m _ _ g p (release_no_more m c)
  release_less m (hold n e z c g) (inr w) =
      let i = release_less m c w in let k = release_no_more_hold (eqb n m) (work (release m c)) g in omega arith

  pub release_all_less : (m : ℕ) (ts : Trees) → SomeWaits m ts → work_all (release_each m ts) < work_all ts
  release_all_less m none w = absurd w
  release_all_less m (more t ts) (inl w) = let i = release_less m t w in let j = release_all_no_more m ts in omega arith
  release_all_less m (more t ts) (inr w) = let i = release_no_more m t in let j = release_all_less m ts w in omega arith
