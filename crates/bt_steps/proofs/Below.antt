-- A hold of a number is there where some hold has that number, and the leaf that is next is there.
use Rattle.std.proofs.Common.{◌≡◌, ℕ, zero, suc, ◌+◌, ◌≤◌, Bool, true, false, cond, eqb, eq-eqb, ◌⊎◌, inl, inr, arith, refl, ap, Option, Some, None, IsSome, List}
use Rattle.bt_demand.specs.Find.{below, below_each, tree_or_else, bytes_of, bytes_in, or_else}
use Rattle.bt_demand.specs.Holding.{one_if, count_holds_in, holds_at}
use Rattle.bt_demand.specs.Next.{todo, todo_of_all, todo_of_first, todo_of_leaf}
use Rattle.bt_demand.specs.Tree.{Tree, Trees, leaf, drop as nothing, reject, all, first, hold, none, more}
use Rattle.bt_demand.specs.declared.demand.State.{State}
use Rattle.bt_demand.specs.declared.demand.State.TheVariants.{Untried as Fresh, Good, Bad}
use Rattle.bt_demand.specs.declared.todo.Todo.TheVariants.{Put}
use Rattle.bt_demand.proofs.Starts.{both-puts, else-puts, hold-put}

some_left : (a b : Option Tree) → IsSome a → IsSome (tree_or_else a b)
some_left None b h = cc
some_left (Some x) b h = refl

some_right : (a b : Option Tree) → IsSome b → IsSome (tree_or_else a b)
some_right None b h = h
some_right (Some x) b h = refl

split_one : (a b : ℕ) → 1 ≤ a + b → (1 ≤ a) ⊎ (1 ≤ b)
split_one zero b h = inr (omega arith)
split_one (suc a) b h = inl (omega arith)

some_cond : (b : Bool) (c : Tree) (o : Option Tree) (k : ℕ) → 1 ≤ one_if b + k → (1 ≤ k → IsSome o) → IsSome (cond b (Some c) o)
some_cond true c o k h f = refl
some_cond false c o k h f = f (omega arith)

mutual
  pub below_there : (n : ℕ) (t : Tree) → 1 ≤ holds_at n t → IsSome (below n t)
  below_there n (leaf l k b x) h = absurd (omega arith)
  below_there n nothing h = absurd (omega arith)
  below_there n (reject w) h = absurd (omega arith)
  below_there n (all ts) h = below_there_in n ts h
  below_there n (first ts) h = below_there_in n ts h
  below_there n (hold m e z c g) h = some_cond (eqb m n) c (below n c) (holds_at n c) h (below_there n c)

  below_there_in : (n : ℕ) (ts : Trees) → 1 ≤ count_holds_in (λ m _. eqb m n) ts → IsSome (below_each n ts)
  below_there_in n none h = absurd (omega arith)
  below_there_in n (more t ts) h = elim (split_one (holds_at n t) (count_holds_in (λ m _. eqb m n) ts) h) [
    | inl a ↦ some_left (below n t) (below_each n ts) (below_there n t a)
    | inr b ↦ some_right (below n t) (below_each n ts) (below_there_in n ts b)
  ]

bytes_left : (a b : Option (List ℕ)) → IsSome a → IsSome (or_else a b)
bytes_left None b h = cc
bytes_left (Some x) b h = refl

bytes_right : (a b : Option (List ℕ)) → IsSome b → IsSome (or_else a b)
bytes_right None b h = h
bytes_right (Some x) b h = refl

leaf_there : (n k l j : ℕ) (b : List ℕ) (x : State) → todo_of_leaf n k x ≡ Some (Put l j) → IsSome (bytes_of l (leaf n k b x))
leaf_there n k l j b Fresh e = let q : n ≡ l = cc in let o : cond (eqb n l) (Some b) None ≡ Some b = ap (λ y. cond y (Some b) None) (eq-eqb n l q) in rw o refl
leaf_there n k l j b Good e = cc
leaf_there n k l j b Bad e = cc

-- the leaf that is next has its bytes
mutual
  pub next_bytes : (l k : ℕ) (t : Tree) → todo t ≡ Some (Put l k) → IsSome (bytes_of l t)
  next_bytes l k (leaf n j b x) e = leaf_there n j l k b x e
  next_bytes l k nothing e = cc
  next_bytes l k (reject w) e = cc
  next_bytes l k (all ts) e = next_bytes_all l k ts e
  next_bytes l k (first ts) e = next_bytes_first l k ts e
  next_bytes l k (hold n f z c g) e = next_bytes l k c (hold-put n g (todo c) l k e).1

  next_bytes_all : (l k : ℕ) (ts : Trees) → todo_of_all ts ≡ Some (Put l k) → IsSome (bytes_in l ts)
  next_bytes_all l k none e = cc
  next_bytes_all l k (more t ts) e = elim (both-puts (todo t) (todo_of_all ts) l k e) [
    | inl h ↦ bytes_left (bytes_of l t) (bytes_in l ts) (next_bytes l k t h)
    | inr h ↦ bytes_right (bytes_of l t) (bytes_in l ts) (next_bytes_all l k ts h)
  ]

  next_bytes_first : (l k : ℕ) (ts : Trees) → todo_of_first ts ≡ Some (Put l k) → IsSome (bytes_in l ts)
  next_bytes_first l k none e = cc
  next_bytes_first l k (more t ts) e = elim (else-puts (todo t) (todo_of_first ts) l k e) [
    | inl h ↦ bytes_left (bytes_of l t) (bytes_in l ts) (next_bytes l k t h)
    | inr h ↦ bytes_right (bytes_of l t) (bytes_in l ts) (next_bytes_first l k ts h.1)
  ]
