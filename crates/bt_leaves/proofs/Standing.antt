-- Where the leaf stands that is to be put: outside the holds, or below the one that was released.
use Rattle.std.proofs.Common.{◌≡◌, ℕ, Bool, true, false, cond, eqb, List, [], ◌∷◌, ◌++◌, ◌⊎◌, inl, inr, refl, sym, ap, ◌∙◌, subst, eq-eqb, Option, Some, None}
use Rattle.std.proofs.lemmas.Bool.Decides.{eqb_tells}
use Rattle.bt_demand.specs.Find.{below, below_each, bytes_of, bytes_in, or_else, tree_or_else}
use Rattle.bt_demand.specs.Holding.{is_open}
use Rattle.bt_demand.specs.Next.{todo, todo_of_all, todo_of_first, todo_of_leaf, outcome_after}
use Rattle.bt_demand.specs.Outcomes.{outcome}
use Rattle.bt_demand.specs.Recorded.{untried, untried_in}
use Rattle.bt_demand.specs.Reached.{NextIn}
use Rattle.bt_demand.specs.Tree.{Tree, Trees, leaf, drop as nothing, reject, all, first, hold, none, more}
use Rattle.bt_demand.specs.WellFormed.{leaves, leaves_in, nodes, nodes_in, Differ, IsFlat, AreFlat}
use Rattle.bt_demand.specs.declared.demand.State.{State}
use Rattle.bt_demand.specs.declared.demand.State.TheVariants.{Untried as Fresh, Good, Bad}
use Rattle.bt_demand.specs.declared.todo.Todo.{Todo}
use Rattle.bt_demand.specs.declared.todo.Todo.TheVariants.{Put}
use Rattle.bt_demand.proofs.Lists.{InList, in-left, in-right, distinct-left, distinct-right, apart}
use Rattle.bt_demand.proofs.NextSettles.{outcome_todo}
use Rattle.bt_demand.proofs.Starts.{both-puts, else-puts, hold-put}
use Rattle.bt_leaves.specs.LeafAt.{LeafAt, LeafIn}
use Rattle.bt_leaves.specs.Released.{SettledOf, SettledOfEach, ReleasedSettled}

-- what no step changes
mutual
  pub at_untried : (a : Option ℕ) (l k : ℕ) (b : List ℕ) (o : Option ℕ) (t : Tree) → LeafAt a l k b o t → LeafAt a l k b o (untried t)
  at_untried a l k b o (leaf m j c x) h = h
  at_untried a l k b o nothing h = absurd h
  at_untried a l k b o (reject w) h = absurd h
  at_untried a l k b o (all ts) h = at_untried_in a l k b o ts h
  at_untried a l k b o (first ts) h = at_untried_in a l k b o ts h
  at_untried a l k b o (hold m e z c g) h = at_untried (Some m) l k b o c h

  at_untried_in : (a : Option ℕ) (l k : ℕ) (b : List ℕ) (o : Option ℕ) (ts : Trees) → LeafIn a l k b o ts → LeafIn a l k b o (untried_in ts)
  at_untried_in a l k b o none h = absurd h
  at_untried_in a l k b o (more t ts) (inl h) = inl (at_untried a l k b o t h)
  at_untried_in a l k b o (more t ts) (inr h) = inr (at_untried_in a l k b o ts h)

leaf_of : (n k l j : ℕ) (x : State) → todo_of_leaf n k x ≡ Some (Put l j) → (n ≡ l) × (k ≡ j)
leaf_of n k l j Fresh e = let a : n ≡ l = cc in let b : k ≡ j = cc in (a, b)
leaf_of n k l j Good e = cc
leaf_of n k l j Bad e = cc

put_open : (o : Option Todo) (l k : ℕ) → o ≡ Some (Put l k) → is_open (outcome_after o) ≡ true
put_open o l k e = rw e refl

yes_no : (b : Bool) → b ≡ true → b ≡ false → ⊥
yes_no b e f = cc

-- Where the children of all released holds are settled, the leaf that is next stands outside the holds.
mutual
  pub next_outside : (a : Option ℕ) (l k : ℕ) (t : Tree) → ReleasedSettled t → todo t ≡ Some (Put l k) → (b : List ℕ) × LeafAt a l k b a t
  next_outside a l k (leaf m j c x) h e = let i = leaf_of m j l k x e in (c, (i.0, (i.1, (refl, refl))))
  next_outside a l k nothing h e = cc
  next_outside a l k (reject w) h e = cc
  next_outside a l k (all ts) h e = next_outside_all a l k ts h e
  next_outside a l k (first ts) h e = next_outside_first a l k ts h e
  next_outside a l k (hold m f z c g) h e =
      let i = hold-put m g (todo c) l k e in
      absurd (yes_no (is_open (outcome c)) (ap is_open (outcome_todo c) ∙ put_open (todo c) l k i.1) (h.0 i.0 tt))

  next_outside_all : (a : Option ℕ) (l k : ℕ) (ts : Trees) → SettledOfEach (λ m. Unit {0}) ts → todo_of_all ts ≡ Some (Put l k) → (b : List ℕ) × LeafIn a l k b a ts
  next_outside_all a l k none h e = cc
  next_outside_all a l k (more t ts) h e = elim (both-puts (todo t) (todo_of_all ts) l k e) [
    | inl i ↦ (let w = next_outside a l k t h.0 i in (w.0, inl w.1))
    | inr i ↦ (let w = next_outside_all a l k ts h.1 i in (w.0, inr w.1))
  ]

  next_outside_first : (a : Option ℕ) (l k : ℕ) (ts : Trees) → SettledOfEach (λ m. Unit {0}) ts → todo_of_first ts ≡ Some (Put l k) → (b : List ℕ) × LeafIn a l k b a ts
  next_outside_first a l k none h e = cc
  next_outside_first a l k (more t ts) h e = elim (else-puts (todo t) (todo_of_first ts) l k e) [
    | inl i ↦ (let w = next_outside a l k t h.0 i in (w.0, inl w.1))
    | inr i ↦ (let w = next_outside_first a l k ts h.1 i.1 in (w.0, inr w.1))
  ]

nil_left : (xs ys : List ℕ) → xs ++ ys ≡ [] → xs ≡ []
nil_left [] ys e = refl
nil_left (x ∷ xs) ys e = cc

nil_right : (xs ys : List ℕ) → xs ++ ys ≡ [] → ys ≡ []
nil_right [] ys e = e
nil_right (x ∷ xs) ys e = cc

-- a demand without holds has no released one
mutual
  without_holds : (Q : ℕ → Type 0) (t : Tree) → nodes t ≡ [] → SettledOf Q t
  without_holds Q (leaf m j c x) e = tt
  without_holds Q nothing e = tt
  without_holds Q (reject w) e = tt
  without_holds Q (all ts) e = without_holds_in Q ts e
  without_holds Q (first ts) e = without_holds_in Q ts e
  without_holds Q (hold m f z c g) e = cc

  without_holds_in : (Q : ℕ → Type 0) (ts : Trees) → nodes_in ts ≡ [] → SettledOfEach Q ts
  without_holds_in Q none e = tt
  without_holds_in Q (more t ts) e = (without_holds Q t (nil_left (nodes t) (nodes_in ts) e), without_holds_in Q ts (nil_right (nodes t) (nodes_in ts) e))

cond_child : (b : Bool) (c d : Tree) (r : Option Tree) → cond b (Some c) r ≡ Some d → ((b ≡ true) × (c ≡ d)) ⊎ (r ≡ Some d)
cond_child true c d r e = let a : c ≡ d = cc in inl (refl, a)
cond_child false c d r e = inr e

or_child : (a b : Option Tree) (c : Tree) → tree_or_else a b ≡ Some c → (a ≡ Some c) ⊎ (b ≡ Some c)
or_child None b c e = inr e
or_child (Some x) b c e = inl e

by_true : (m n : ℕ) → eqb m n ≡ true → m ≡ n
by_true m n e = elim (eqb_tells m n) [ inl i ↦ i.1 | inr i ↦ absurd (yes_no (eqb m n) e i.0) ]

mutual
  nodes_none : (n : ℕ) (c t : Tree) → nodes t ≡ [] → below n t ≡ Some c → ⊥
  nodes_none n c (leaf m j b x) o e = cc
  nodes_none n c nothing o e = cc
  nodes_none n c (reject w) o e = cc
  nodes_none n c (all ts) o e = nodes_none_in n c ts o e
  nodes_none n c (first ts) o e = nodes_none_in n c ts o e
  nodes_none n c (hold m f z d g) o e = cc

  nodes_none_in : (n : ℕ) (c : Tree) (ts : Trees) → nodes_in ts ≡ [] → below_each n ts ≡ Some c → ⊥
  nodes_none_in n c none o e = cc
  nodes_none_in n c (more t ts) o e = elim (or_child (below n t) (below_each n ts) c e) [ inl i ↦ nodes_none n c t (nil_left (nodes t) (nodes_in ts) o) i | inr i ↦ nodes_none_in n c ts (nil_right (nodes t) (nodes_in ts) o) i ]

-- what stands in the child of a hold stands below it
mutual
  pub below_at : (a : Option ℕ) (n l k : ℕ) (t c : Tree) → IsFlat t → below n t ≡ Some c → todo c ≡ Some (Put l k) → (b : List ℕ) × LeafAt a l k b (Some n) t
  below_at a n l k (leaf m j b x) c f e h = cc
  below_at a n l k nothing c f e h = cc
  below_at a n l k (reject w) c f e h = cc
  below_at a n l k (all ts) c f e h = below_at_in a n l k ts c f e h
  below_at a n l k (first ts) c f e h = below_at_in a n l k ts c f e h
  below_at a n l k (hold m u z d g) c f e h = elim (cond_child (eqb m n) d c (below n d) e) [
    | inl i ↦ subst (λ q. (b : List ℕ) × LeafAt (Some q) l k b (Some n) d) (sym (by_true m n i.0)) (next_outside (Some n) l k d (without_holds (λ j. Unit {0}) d f) (ap todo i.1 ∙ h))
    | inr i ↦ absurd (nodes_none n c d f i)
  ]

  below_at_in : (a : Option ℕ) (n l k : ℕ) (ts : Trees) (c : Tree) → AreFlat ts → below_each n ts ≡ Some c → todo c ≡ Some (Put l k) → (b : List ℕ) × LeafIn a l k b (Some n) ts
  below_at_in a n l k none c f e h = cc
  below_at_in a n l k (more t ts) c f e h = elim (or_child (below n t) (below_each n ts) c e) [
    | inl i ↦ (let w = below_at a n l k t c f.0 i h in (w.0, inl w.1))
    | inr i ↦ (let w = below_at_in a n l k ts c f.1 i h in (w.0, inr w.1))
  ]

below_some : (a : Option ℕ) (n l k : ℕ) (t : Tree) (o : Option Tree) → below n t ≡ o → IsFlat t → NextIn l k o → (b : List ℕ) × LeafAt a l k b (Some n) t
below_some a n l k t None e f h = absurd h
below_some a n l k t (Some c) e f h = below_at a n l k t c f e h

-- the leaf that is next below a hold stands below it
pub next_below_at : (a : Option ℕ) (n l k : ℕ) (t : Tree) → IsFlat t → NextIn l k (below n t) → (b : List ℕ) × LeafAt a l k b (Some n) t
next_below_at a n l k t f h = below_some a n l k t (below n t) refl f h

-- a leaf's number stands among the numbers of the leaves
mutual
  at_number : (a : Option ℕ) (l k : ℕ) (b : List ℕ) (o : Option ℕ) (t : Tree) → LeafAt a l k b o t → InList l (leaves t)
  at_number a l k b o (leaf m j c x) h = inl (sym h.0)
  at_number a l k b o nothing h = absurd h
  at_number a l k b o (reject w) h = absurd h
  at_number a l k b o (all ts) h = at_number_in a l k b o ts h
  at_number a l k b o (first ts) h = at_number_in a l k b o ts h
  at_number a l k b o (hold m e z c g) h = at_number (Some m) l k b o c h

  at_number_in : (a : Option ℕ) (l k : ℕ) (b : List ℕ) (o : Option ℕ) (ts : Trees) → LeafIn a l k b o ts → InList l (leaves_in ts)
  at_number_in a l k b o none h = absurd h
  at_number_in a l k b o (more t ts) (inl h) = in-left l (leaves t) (leaves_in ts) (at_number a l k b o t h)
  at_number_in a l k b o (more t ts) (inr h) = in-right l (leaves t) (leaves_in ts) (at_number_in a l k b o ts h)

some_cond : (b : Bool) (x : List ℕ) → b ≡ true → cond b (Some x) None ≡ Some x
some_cond b x e = rw e refl

mutual
  no_bytes : (l : ℕ) (t : Tree) → (InList l (leaves t) → ⊥) → bytes_of l t ≡ None
  no_bytes l (leaf m j c x) h = elim (eqb_tells m l) [ inl i ↦ absurd (h (inl (sym i.1))) | inr i ↦ ap (λ q. cond q (Some c) None) i.0 ]
  no_bytes l nothing h = refl
  no_bytes l (reject w) h = refl
  no_bytes l (all ts) h = no_bytes_in l ts h
  no_bytes l (first ts) h = no_bytes_in l ts h
  no_bytes l (hold m e z c g) h = no_bytes l c h

  no_bytes_in : (l : ℕ) (ts : Trees) → (InList l (leaves_in ts) → ⊥) → bytes_in l ts ≡ None
  no_bytes_in l none h = refl
  no_bytes_in l (more t ts) h = ap (λ q. or_else q (bytes_in l ts)) (no_bytes l t (λ w. h (in-left l (leaves t) (leaves_in ts) w))) ∙ no_bytes_in l ts (λ w. h (in-right l (leaves t) (leaves_in ts) w))

-- where the numbers differ, its bytes are those of that number
mutual
  pub at_bytes : (a : Option ℕ) (l k : ℕ) (b : List ℕ) (o : Option ℕ) (t : Tree) → Differ (leaves t) → LeafAt a l k b o t → bytes_of l t ≡ Some b
  at_bytes a l k b o (leaf m j c x) d h = some_cond (eqb m l) c (eq-eqb m l h.0) ∙ ap Some h.1.1.0
  at_bytes a l k b o nothing d h = absurd h
  at_bytes a l k b o (reject w) d h = absurd h
  at_bytes a l k b o (all ts) d h = at_bytes_in a l k b o ts d h
  at_bytes a l k b o (first ts) d h = at_bytes_in a l k b o ts d h
  at_bytes a l k b o (hold m e z c g) d h = at_bytes (Some m) l k b o c d h

  at_bytes_in : (a : Option ℕ) (l k : ℕ) (b : List ℕ) (o : Option ℕ) (ts : Trees) → Differ (leaves_in ts) → LeafIn a l k b o ts → bytes_in l ts ≡ Some b
  at_bytes_in a l k b o none d h = absurd h
  at_bytes_in a l k b o (more t ts) d (inl h) = ap (λ q. or_else q (bytes_in l ts)) (at_bytes a l k b o t (distinct-left (leaves t) (leaves_in ts) d) h)
  at_bytes_in a l k b o (more t ts) d (inr h) =
      ap (λ q. or_else q (bytes_in l ts)) (no_bytes l t (λ w. apart l (leaves t) (leaves_in ts) d w (at_number_in a l k b o ts h))) ∙ at_bytes_in a l k b o ts (distinct-right (leaves t) (leaves_in ts) d) h
