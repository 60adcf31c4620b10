-- What is next has begun once it is done.
use Rattle.std.proofs.Common.{◌≡◌, ℕ, Bool, true, false, cond, eqb, ◌||◌, inl, inr, refl, eq-eqb, Option, Some}
use Rattle.bt_demand.specs.Find.{begun, some_begun, tried, reached}
use Rattle.bt_demand.specs.Next.{todo, todo_of_all, todo_of_first, todo_of_leaf, todo_of_hold}
use Rattle.bt_demand.specs.Steps.{settle, settle_each, settles, wait, wait_each, waits, state_for}
use Rattle.bt_demand.specs.Tree.{Tree, Trees, leaf, drop as nothing, reject, all, first, hold, none, more}
use Rattle.bt_demand.specs.declared.demand.Stage.{Stage}
use Rattle.bt_demand.specs.declared.demand.Stage.TheVariants.{Untried as Idle, Waiting, Released}
use Rattle.bt_demand.specs.declared.demand.State.{State}
use Rattle.bt_demand.specs.declared.demand.State.TheVariants.{Untried as Fresh, Good, Bad}
use Rattle.bt_demand.specs.declared.todo.Todo.{Todo}
use Rattle.bt_demand.specs.declared.todo.Todo.TheVariants.{Put, Wait}
use Rattle.bt_demand.proofs.Starts.{both-puts, else-puts, both-waits, else-waits, hold-put, leaf-never-waits}

or_left : (a b : Bool) → a ≡ true → (a || b) ≡ true
or_left a b e = rw e refl

or_right : (a b : Bool) → b ≡ true → (a || b) ≡ true
or_right true b e = refl
or_right false b e = e

leaf_begins : (n k l j : ℕ) (x : State) (a : Bool) → todo_of_leaf n k x ≡ Some (Put l j) → tried (cond (eqb n l) (settles (state_for a) x) x) ≡ true
leaf_begins n k l j Fresh true e = let s : n ≡ l = cc in rw (eq-eqb n l s) refl
leaf_begins n k l j Fresh false e = let s : n ≡ l = cc in rw (eq-eqb n l s) refl
leaf_begins n k l j Good a e = cc
leaf_begins n k l j Bad a e = cc

mutual
  pub put_begins : (l k : ℕ) (a : Bool) (t : Tree) → todo t ≡ Some (Put l k) → begun (settle l (state_for a) t) ≡ true
  put_begins l k a (leaf n j b x) e = leaf_begins n j l k x a e
  put_begins l k a nothing e = cc
  put_begins l k a (reject w) e = cc
  put_begins l k a (all ts) e = put_begins_in l k a ts e
  put_begins l k a (first ts) e = put_begins_first l k a ts e
  put_begins l k a (hold n i z c g) e = or_right (reached g) (begun (settle l (state_for a) c)) (put_begins l k a c (hold-put n g (todo c) l k e).1)

  put_begins_in : (l k : ℕ) (a : Bool) (ts : Trees) → todo_of_all ts ≡ Some (Put l k) → some_begun (settle_each l (state_for a) ts) ≡ true
  put_begins_in l k a none e = cc
  put_begins_in l k a (more t ts) e = elim (both-puts (todo t) (todo_of_all ts) l k e) [
    | inl h ↦ or_left (begun (settle l (state_for a) t)) (some_begun (settle_each l (state_for a) ts)) (put_begins l k a t h)
    | inr h ↦ or_right (begun (settle l (state_for a) t)) (some_begun (settle_each l (state_for a) ts)) (put_begins_in l k a ts h)
  ]

  put_begins_first : (l k : ℕ) (a : Bool) (ts : Trees) → todo_of_first ts ≡ Some (Put l k) → some_begun (settle_each l (state_for a) ts) ≡ true
  put_begins_first l k a none e = cc
  put_begins_first l k a (more t ts) e = elim (else-puts (todo t) (todo_of_first ts) l k e) [
    | inl h ↦ or_left (begun (settle l (state_for a) t)) (some_begun (settle_each l (state_for a) ts)) (put_begins l k a t h)
    | inr h ↦ or_right (begun (settle l (state_for a) t)) (some_begun (settle_each l (state_for a) ts)) (put_begins_first l k a ts h.1)
  ]

hold_begins : (n l : ℕ) (g : Stage) (r : Option Todo) (b : Bool) → todo_of_hold n g r ≡ Some (Wait l) → (r ≡ Some (Wait l) → b ≡ true) → (reached (cond (eqb n l) (waits g) g) || b) ≡ true
hold_begins n l Idle r b e f = let s : n ≡ l = cc in rw (eq-eqb n l s) refl
hold_begins n l Waiting r b e f = cc
hold_begins n l Released r b e f = or_right (reached (cond (eqb n l) (waits Released) Released)) b (f e)

mutual
  pub wait_begins : (l : ℕ) (t : Tree) → todo t ≡ Some (Wait l) → begun (wait l t) ≡ true
  wait_begins l (leaf n j b x) e = absurd (leaf-never-waits n j l x e)
  wait_begins l nothing e = cc
  wait_begins l (reject w) e = cc
  wait_begins l (all ts) e = wait_begins_in l ts e
  wait_begins l (first ts) e = wait_begins_first l ts e
  wait_begins l (hold n i z c g) e = hold_begins n l g (todo c) (begun (wait l c)) e (wait_begins l c)

  wait_begins_in : (l : ℕ) (ts : Trees) → todo_of_all ts ≡ Some (Wait l) → some_begun (wait_each l ts) ≡ true
  wait_begins_in l none e = cc
  wait_begins_in l (more t ts) e = elim (both-waits (todo t) (todo_of_all ts) l e) [
    | inl h ↦ or_left (begun (wait l t)) (some_begun (wait_each l ts)) (wait_begins l t h)
    | inr h ↦ or_right (begun (wait l t)) (some_begun (wait_each l ts)) (wait_begins_in l ts h)
  ]

  wait_begins_first : (l : ℕ) (ts : Trees) → todo_of_first ts ≡ Some (Wait l) → some_begun (wait_each l ts) ≡ true
  wait_begins_first l none e = cc
  wait_begins_first l (more t ts) e = elim (else-waits (todo t) (todo_of_first ts) l e) [
    | inl h ↦ or_left (begun (wait l t)) (some_begun (wait_each l ts)) (wait_begins l t h)
    | inr h ↦ or_right (begun (wait l t)) (some_begun (wait_each l ts)) (wait_begins_first l ts h.1)
  ]
