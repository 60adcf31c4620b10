-- The leaf that is next, in a demand or below a hold of it that is asked and released: it stands there, untried.
use Rattle.std.proofs.Common.{◌≡◌, ℕ, ◌<◌, Bool, true, false, cond, eqb, List, ◌⊎◌, inl, inr, arith, refl, sym, ap, ◌∙◌, subst, eq-eqb, Option, Some, None, IsSome}
use Rattle.std.specs.List.{AllByRecursion}
use Rattle.std.proofs.lemmas.List.Elements.{recursion_from_All}
use Rattle.bt_demand.specs.Find.{below, below_each, tree_or_else, bytes_of, bytes_in, or_else}
use Rattle.bt_demand.specs.Next.{todo, todo_of_all, todo_of_first, todo_of_leaf, outcome_after}
use Rattle.bt_demand.specs.Outcomes.{outcome, outcome_of_all, outcome_of_first, outcome_of_both, outcome_or_else, outcome_of_hold}
use Rattle.bt_demand.specs.Reached.{Reach, ReachAll, ReachFirst, NextIn, IsNext}
use Rattle.bt_demand.specs.Recorded.{untried}
use Rattle.bt_demand.specs.Steps.{settle, settle_each, state_for}
use Rattle.bt_demand.specs.Tree.{Tree, Trees, leaf, drop as nothing, reject, all, first, hold, none, more}
use Rattle.bt_demand.specs.WellFormed.{WellFormed, leaves, leaves_in, sinks, sinks_in, Differ}
use Rattle.bt_demand.specs.Work.{work, work_all}
use Rattle.bt_demand.specs.declared.demand.Stage.{Stage}
use Rattle.bt_demand.specs.declared.demand.State.{State}
use Rattle.bt_demand.specs.declared.demand.State.TheVariants.{Untried as Fresh, Good, Bad}
use Rattle.bt_demand.specs.declared.outcome.Outcome.{Outcome}
use Rattle.bt_demand.specs.declared.outcome.Outcome.TheVariants.{Open as Pending, Met, Lost}
use Rattle.bt_demand.specs.declared.todo.Todo.TheVariants.{Put}
use Rattle.bt_demand.proofs.Falls.{settle_less, settle_no_more, settle_all_no_more}
use Rattle.bt_demand.proofs.Lists.{InList, in-left, in-right, all-left, all-right, distinct-left, distinct-right, apart}
use Rattle.bt_demand.proofs.NextSettles.{outcome_todo}
use Rattle.bt_demand.proofs.Reached.{reach-there}
use Rattle.bt_demand.proofs.Starts.{both-puts, else-puts, hold-put}
use Rattle.bt_leaves.specs.EachLeaf.{EachLeaf, EachLeafIn}
use Rattle.bt_leaves.proofs.Kept.{sinks_untried}
use Rattle.bt_steps.proofs.Below.{next_bytes}

abbrev mutual
  -- the leaves of this number have this sink
  pub SinkIs : ℕ → ℕ → Tree → Type 0
  SinkIs l k (leaf m j b x) = m ≡ l → j ≡ k
  SinkIs l k nothing = Unit {0}
  SinkIs l k (reject w) = Unit {0}
  SinkIs l k (all ts) = SinksAre l k ts
  SinkIs l k (first ts) = SinksAre l k ts
  SinkIs l k (hold m e z c g) = SinkIs l k c

  pub SinksAre : ℕ → ℕ → Trees → Type 0
  SinksAre l k none = Unit {0}
  SinksAre l k (more t ts) = SinkIs l k t × SinksAre l k ts

leaf_by : (T : ℕ → ℕ → State → Type 0) (n k l j : ℕ) (x : State) → T k n x → todo_of_leaf n k x ≡ Some (Put l j) → T j l Fresh
leaf_by T n k l j Fresh h e = let a : n ≡ l = cc in let b : k ≡ j = cc in rw (← a, ← b) h
leaf_by T n k l j Good h e = cc
leaf_by T n k l j Bad h e = cc

-- the leaf that is next is untried
mutual
  pub next_by : (T : ℕ → ℕ → State → Type 0) (l k : ℕ) (t : Tree) → EachLeaf T t → todo t ≡ Some (Put l k) → T k l Fresh
  next_by T l k (leaf n j b x) h e = leaf_by T n j l k x h e
  next_by T l k nothing h e = cc
  next_by T l k (reject w) h e = cc
  next_by T l k (all ts) h e = next_by_all T l k ts h e
  next_by T l k (first ts) h e = next_by_first T l k ts h e
  next_by T l k (hold n e z c g) h i = next_by T l k c h (hold-put n g (todo c) l k i).1

  next_by_all : (T : ℕ → ℕ → State → Type 0) (l k : ℕ) (ts : Trees) → EachLeafIn T ts → todo_of_all ts ≡ Some (Put l k) → T k l Fresh
  next_by_all T l k none h e = cc
  next_by_all T l k (more t ts) h e = elim (both-puts (todo t) (todo_of_all ts) l k e) [ inl i ↦ next_by T l k t h.0 i | inr i ↦ next_by_all T l k ts h.1 i ]

  next_by_first : (T : ℕ → ℕ → State → Type 0) (l k : ℕ) (ts : Trees) → EachLeafIn T ts → todo_of_first ts ≡ Some (Put l k) → T k l Fresh
  next_by_first T l k none h e = cc
  next_by_first T l k (more t ts) h e = elim (else-puts (todo t) (todo_of_first ts) l k e) [ inl i ↦ next_by T l k t h.0 i | inr i ↦ next_by_first T l k ts h.1 i.1 ]

leaf_sink : (n k l j : ℕ) (x : State) → todo_of_leaf n k x ≡ Some (Put l j) → (l ≡ n) × (k ≡ j)
leaf_sink n k l j Fresh e = let a : l ≡ n = cc in let b : k ≡ j = cc in (a, b)
leaf_sink n k l j Good e = cc
leaf_sink n k l j Bad e = cc

mutual
  -- a leaf that isn't there
  no_leaf : (l k : ℕ) (t : Tree) → (InList l (leaves t) → ⊥) → SinkIs l k t
  no_leaf l k (leaf n j b x) h = λ e. absurd (h (inl (sym e)))
  no_leaf l k nothing h = tt
  no_leaf l k (reject w) h = tt
  no_leaf l k (all ts) h = no_leaf_in l k ts h
  no_leaf l k (first ts) h = no_leaf_in l k ts h
  no_leaf l k (hold n e z c g) h = no_leaf l k c h

  no_leaf_in : (l k : ℕ) (ts : Trees) → (InList l (leaves_in ts) → ⊥) → SinksAre l k ts
  no_leaf_in l k none h = tt
  no_leaf_in l k (more t ts) h = (no_leaf l k t (λ w. h (in-left l (leaves t) (leaves_in ts) w)), no_leaf_in l k ts (λ w. h (in-right l (leaves t) (leaves_in ts) w)))

-- where that leaf stands: in the tree, with that sink
mutual
  pub data Stands (l k : ℕ) : Tree → Type 0 where
    stands_leaf : (b : List ℕ) (x : State) → Stands l k (leaf l k b x)
    stands_all : (ts : Trees) (p : StandsIn l k ts) → Stands l k (all ts)
    stands_first : (ts : Trees) (p : StandsIn l k ts) → Stands l k (first ts)
    stands_hold : (m : ℕ) (e : Bool) (z : ℕ) (c : Tree) (g : Stage) (p : Stands l k c) → Stands l k (hold m e z c g)

  pub data StandsIn (l k : ℕ) : Trees → Type 0 where
    stands_here : (t : Tree) (ts : Trees) (p : Stands l k t) → StandsIn l k (more t ts)
    stands_later : (t : Tree) (ts : Trees) (p : StandsIn l k ts) → StandsIn l k (more t ts)

mutual
  stands_number : (l k : ℕ) (t : Tree) → Stands l k t → InList l (leaves t)
  stands_number l k t (stands_leaf b x) = inl refl
  stands_number l k t (stands_all ts p) = stands_number_in l k ts p
  stands_number l k t (stands_first ts p) = stands_number_in l k ts p
  stands_number l k t (stands_hold m e z c g p) = stands_number l k c p

  stands_number_in : (l k : ℕ) (ts : Trees) → StandsIn l k ts → InList l (leaves_in ts)
  stands_number_in l k _ (stands_here t ts p) = in-left l (leaves t) (leaves_in ts) (stands_number l k t p)
  stands_number_in l k _ (stands_later t ts p) = in-right l (leaves t) (leaves_in ts) (stands_number_in l k ts p)

mutual
  pub stands_sink : (l k : ℕ) (t : Tree) → Stands l k t → Differ (leaves t) → SinkIs l k t
  stands_sink l k t (stands_leaf b x) d = λ e. refl
  stands_sink l k t (stands_all ts p) d = stands_sink_in l k ts p d
  stands_sink l k t (stands_first ts p) d = stands_sink_in l k ts p d
  stands_sink l k t (stands_hold m e z c g p) d = stands_sink l k c p d

  stands_sink_in : (l k : ℕ) (ts : Trees) → StandsIn l k ts → Differ (leaves_in ts) → SinksAre l k ts
  stands_sink_in l k _ (stands_here t ts p) d =
      (stands_sink l k t p (distinct-left (leaves t) (leaves_in ts) d), no_leaf_in l k ts (λ w. apart l (leaves t) (leaves_in ts) d (stands_number l k t p) w))
  stands_sink_in l k _ (stands_later t ts p) d =
      (no_leaf l k t (λ w. apart l (leaves t) (leaves_in ts) d w (stands_number_in l k ts p)), stands_sink_in l k ts p (distinct-right (leaves t) (leaves_in ts) d))

leaf_stands : (n k l j : ℕ) (b : List ℕ) (x : State) → todo_of_leaf n k x ≡ Some (Put l j) → Stands l j (leaf n k b x)
leaf_stands n k l j b x e = let h = leaf_sink n k l j x e in subst (λ m. Stands l j (leaf m k b x)) h.0 (subst (λ m. Stands l j (leaf l m b x)) (sym h.1) (stands_leaf b x))

mutual
  pub next_stands : (l k : ℕ) (t : Tree) → todo t ≡ Some (Put l k) → Stands l k t
  next_stands l k (leaf n j b x) e = leaf_stands n j l k b x e
  next_stands l k nothing e = cc
  next_stands l k (reject w) e = cc
  next_stands l k (all ts) e = stands_all ts (next_stands_all l k ts e)
  next_stands l k (first ts) e = stands_first ts (next_stands_first l k ts e)
  next_stands l k (hold n e z c g) i = stands_hold n e z c g (next_stands l k c (hold-put n g (todo c) l k i).1)

  next_stands_all : (l k : ℕ) (ts : Trees) → todo_of_all ts ≡ Some (Put l k) → StandsIn l k ts
  next_stands_all l k none e = cc
  next_stands_all l k (more t ts) e = elim (both-puts (todo t) (todo_of_all ts) l k e) [ inl i ↦ stands_here t ts (next_stands l k t i) | inr i ↦ stands_later t ts (next_stands_all l k ts i) ]

  next_stands_first : (l k : ℕ) (ts : Trees) → todo_of_first ts ≡ Some (Put l k) → StandsIn l k ts
  next_stands_first l k none e = cc
  next_stands_first l k (more t ts) e = elim (else-puts (todo t) (todo_of_first ts) l k e) [ inl i ↦ stands_here t ts (next_stands l k t i) | inr i ↦ stands_later t ts (next_stands_first l k ts i.1) ]

-- of two trees that may be there the one that is
or_cases : (a b : Option Tree) (c : Tree) → tree_or_else a b ≡ Some c → (a ≡ Some c) ⊎ ((a ≡ None) × (b ≡ Some c))
or_cases None b c e = inr (refl, e)
or_cases (Some x) b c e = inl e

hold_below : (b : Bool) (c d : Tree) (r : Option Tree) → cond b (Some c) r ≡ Some d → (c ≡ d) ⊎ (r ≡ Some d)
hold_below true c d r e = let a : c ≡ d = cc in inl a
hold_below false c d r e = inr e

mutual
  pub below_by : (T : ℕ → ℕ → State → Type 0) (n : ℕ) (t c : Tree) → below n t ≡ Some c → EachLeaf T t → EachLeaf T c
  below_by T n (leaf l k b x) c e h = cc
  below_by T n nothing c e h = cc
  below_by T n (reject w) c e h = cc
  below_by T n (all ts) c e h = below_by_in T n ts c e h
  below_by T n (first ts) c e h = below_by_in T n ts c e h
  below_by T n (hold m f z d g) c e h = elim (hold_below (eqb m n) d c (below n d) e) [ inl i ↦ subst (λ u. EachLeaf T u) i h | inr i ↦ below_by T n d c i h ]

  below_by_in : (T : ℕ → ℕ → State → Type 0) (n : ℕ) (ts : Trees) (c : Tree) → below_each n ts ≡ Some c → EachLeafIn T ts → EachLeaf T c
  below_by_in T n none c e h = cc
  below_by_in T n (more t ts) c e h = elim (or_cases (below n t) (below_each n ts) c e) [ inl i ↦ below_by T n t c i h.0 | inr i ↦ below_by_in T n ts c i.1 h.1 ]

mutual
  below_stands : (l k n : ℕ) (t c : Tree) → below n t ≡ Some c → Stands l k c → Stands l k t
  below_stands l k n (leaf m j b x) c e h = cc
  below_stands l k n nothing c e h = cc
  below_stands l k n (reject w) c e h = cc
  below_stands l k n (all ts) c e h = stands_all ts (below_stands_in l k n ts c e h)
  below_stands l k n (first ts) c e h = stands_first ts (below_stands_in l k n ts c e h)
  below_stands l k n (hold m f z d g) c e h = elim (hold_below (eqb m n) d c (below n d) e) [ inl i ↦ stands_hold m f z d g (subst (λ u. Stands l k u) (sym i) h) | inr i ↦ stands_hold m f z d g (below_stands l k n d c i h) ]

  below_stands_in : (l k n : ℕ) (ts : Trees) (c : Tree) → below_each n ts ≡ Some c → Stands l k c → StandsIn l k ts
  below_stands_in l k n none c e h = cc
  below_stands_in l k n (more t ts) c e h = elim (or_cases (below n t) (below_each n ts) c e) [ inl i ↦ stands_here t ts (below_stands l k n t c i h) | inr i ↦ stands_later t ts (below_stands_in l k n ts c i.1 h) ]

some_next : (l k : ℕ) (o : Option Tree) → NextIn l k o → (c : Tree) × ((o ≡ Some c) × (todo c ≡ Some (Put l k)))
some_next l k None h = absurd h
some_next l k (Some c) h = (c, (refl, h))

-- the leaf to put is there, untried
pub to_put_by : (T : ℕ → ℕ → State → Type 0) (l k : ℕ) (t : Tree) → IsNext l k t → EachLeaf T t → T k l Fresh
to_put_by T l k t (inl e) h = next_by T l k t h e
to_put_by T l k t (inr w) h = let s = some_next l k (below w.0 t) w.1.1 in next_by T l k s.0 (below_by T w.0 t s.0 s.1.0 h) s.1.1

pub to_put_stands : (l k : ℕ) (t : Tree) → IsNext l k t → Stands l k t
to_put_stands l k t (inl e) = next_stands l k t e
to_put_stands l k t (inr w) = let s = some_next l k (below w.0 t) w.1.1 in below_stands l k w.0 t s.0 s.1.0 (next_stands l k s.0 s.1.1)

-- an open tree below a hold that is asked and released makes the whole open
open_right : (a : Outcome) → outcome_of_both a Pending ≡ Pending
open_right Pending = refl
open_right Met = refl
open_right Lost = refl

none_some : (a : Option Tree) (c : Tree) → a ≡ None → a ≡ Some c → ⊥
none_some a c e f = cc

mutual
  pub reach_open : (n : ℕ) (t c : Tree) → Reach n t → below n t ≡ Some c → outcome c ≡ Pending → outcome t ≡ Pending
  reach_open n (leaf l k b x) c r e o = absurd r
  reach_open n nothing c r e o = absurd r
  reach_open n (reject w) c r e o = absurd r
  reach_open n (all ts) c r e o = reach_open_all n ts c r e o
  reach_open n (first ts) c r e o = reach_open_first n ts c r e o
  reach_open n (hold m f z d g) c r e o = let i : d ≡ c = (let q : eqb m n ≡ true = eq-eqb m n r.0 in let p : cond (eqb m n) (Some d) (below n d) ≡ Some d = ap (λ u. cond u (Some d) (below n d)) q in cc) in
      ap (λ h. outcome_of_hold h (outcome d)) r.1 ∙ ap outcome i ∙ o

  reach_open_all : (n : ℕ) (ts : Trees) (c : Tree) → ReachAll n ts → below_each n ts ≡ Some c → outcome c ≡ Pending → outcome_of_all ts ≡ Pending
  reach_open_all n none c r e o = absurd r
  reach_open_all n (more t ts) c (inl r) e o = elim (or_cases (below n t) (below_each n ts) c e) [
    | inl i ↦ ap (λ a. outcome_of_both a (outcome_of_all ts)) (reach_open n t c r i o)
    | inr i ↦ absurd (reach-there n t r i.0)
  ]
  reach_open_all n (more t ts) c (inr r) e o = elim (or_cases (below n t) (below_each n ts) c e) [
    | inl i ↦ absurd (none_some (below n t) c r.0 i)
    | inr i ↦ ap (λ b. outcome_of_both (outcome t) b) (reach_open_all n ts c r.1 i.1 o) ∙ open_right (outcome t)
  ]

  reach_open_first : (n : ℕ) (ts : Trees) (c : Tree) → ReachFirst n ts → below_each n ts ≡ Some c → outcome c ≡ Pending → outcome_of_first ts ≡ Pending
  reach_open_first n none c r e o = absurd r
  reach_open_first n (more t ts) c (inl r) e o = elim (or_cases (below n t) (below_each n ts) c e) [
    | inl i ↦ ap (λ a. outcome_or_else a (outcome_of_first ts)) (reach_open n t c r i o)
    | inr i ↦ absurd (reach-there n t r i.0)
  ]
  reach_open_first n (more t ts) c (inr r) e o = elim (or_cases (below n t) (below_each n ts) c e) [
    | inl i ↦ absurd (none_some (below n t) c r.0 i)
    | inr i ↦ ap (λ a. outcome_or_else a (outcome_of_first ts)) r.1.0 ∙ reach_open_first n ts c r.1.1 i.1 o
  ]

pub next_open : (l k : ℕ) (t : Tree) → IsNext l k t → outcome t ≡ Pending
next_open l k t (inl e) = outcome_todo t ∙ ap outcome_after e
next_open l k t (inr w) = let s = some_next l k (below w.0 t) w.1.1 in reach_open w.0 t s.0 w.1.0 s.1.0 (outcome_todo s.0 ∙ ap outcome_after s.1.1)

-- a leaf that is next has bytes
abbrev HasBytes : Option (List ℕ) → Type 0
HasBytes None = ⊥
HasBytes (Some b) = Unit {0}

bytes_left : (a b : Option (List ℕ)) → HasBytes a → HasBytes (or_else a b)
bytes_left None b h = absurd h
bytes_left (Some x) b h = tt

bytes_right : (a b : Option (List ℕ)) → HasBytes b → HasBytes (or_else a b)
bytes_right None b h = h
bytes_right (Some x) b h = tt

by_some : (o : Option (List ℕ)) → IsSome o → HasBytes o
by_some None h = cc
by_some (Some b) h = tt

-- of a leaf that is next below a hold
next_split : (l k : ℕ) (a b : Option Tree) → NextIn l k (tree_or_else a b) → NextIn l k a ⊎ NextIn l k b
next_split l k None b h = inr h
next_split l k (Some t) b h = inl h

next_cond : (l k : ℕ) (v : Bool) (c : Tree) (o : Option Tree) → NextIn l k (cond v (Some c) o) → (todo c ≡ Some (Put l k)) ⊎ NextIn l k o
next_cond l k true c o h = inl h
next_cond l k false c o h = inr h

mutual
  below_has : (n l k : ℕ) (t : Tree) → NextIn l k (below n t) → HasBytes (bytes_of l t)
  below_has n l k (leaf m j b x) h = absurd h
  below_has n l k nothing h = absurd h
  below_has n l k (reject w) h = absurd h
  below_has n l k (all ts) h = below_has_in n l k ts h
  below_has n l k (first ts) h = below_has_in n l k ts h
  below_has n l k (hold m i z c g) h = elim (next_cond l k (eqb m n) c (below n c) h) [
    | inl e ↦ by_some (bytes_of l c) (next_bytes l k c e)
    | inr e ↦ below_has n l k c e
  ]

  below_has_in : (n l k : ℕ) (ts : Trees) → NextIn l k (below_each n ts) → HasBytes (bytes_in l ts)
  below_has_in n l k none h = absurd h
  below_has_in n l k (more t ts) h = elim (next_split l k (below n t) (below_each n ts) h) [
    | inl e ↦ bytes_left (bytes_of l t) (bytes_in l ts) (below_has n l k t e)
    | inr e ↦ bytes_right (bytes_of l t) (bytes_in l ts) (below_has_in n l k ts e)
  ]

mutual
  pub below_less : (n l k : ℕ) (a : Bool) (t : Tree) → NextIn l k (below n t) → work (settle l (state_for a) t) < work t
  below_less n l k a (leaf m j b x) h = absurd h
  below_less n l k a nothing h = absurd h
  below_less n l k a (reject w) h = absurd h
  below_less n l k a (all ts) h = below_less_in n l k a ts h
  below_less n l k a (first ts) h = below_less_in n l k a ts h
  below_less n l k a (hold m i z c g) h = elim (next_cond l k (eqb m n) c (below n c) h) [
    | inl e ↦ (let x = settle_less l k a c e in omega arith)
    | inr e ↦ (let x = below_less n l k a c e in omega arith)
  ]

  below_less_in : (n l k : ℕ) (a : Bool) (ts : Trees) → NextIn l k (below_each n ts) → work_all (settle_each l (state_for a) ts) < work_all ts
  below_less_in n l k a none h = absurd h
  below_less_in n l k a (more t ts) h =
      let p = settle_no_more l a t in let q = settle_all_no_more l a ts in
      elim (next_split l k (below n t) (below_each n ts) h) [
        | inl e ↦ (let x = below_less n l k a t e in omega arith)
        | inr e ↦ (let x = below_less_in n l k a ts e in omega arith)
      ]

some_by : (o : Option (List ℕ)) → HasBytes o → IsSome o
some_by None h = absurd h
some_by (Some b) h = refl

pub below_bytes : (n l k : ℕ) (t : Tree) → NextIn l k (below n t) → IsSome (bytes_of l t)
below_bytes n l k t h = some_by (bytes_of l t) (below_has n l k t h)

pub to_put_bytes : (l k : ℕ) (t : Tree) → IsNext l k t → IsSome (bytes_of l t)
to_put_bytes l k t (inl e) = next_bytes l k t e
to_put_bytes l k t (inr w) = below_bytes w.0 l k t w.1.1

-- the sink of a leaf that stands there
mutual
  pub stands_in_sinks : (P : ℕ → Type 0) (l k : ℕ) (t : Tree) → Stands l k t → AllByRecursion P (sinks t) → P k
  stands_in_sinks P l k t (stands_leaf b x) h = h.0
  stands_in_sinks P l k t (stands_all ts p) h = stands_in_sinks_in P l k ts p h
  stands_in_sinks P l k t (stands_first ts p) h = stands_in_sinks_in P l k ts p h
  stands_in_sinks P l k t (stands_hold m e z c g p) h = stands_in_sinks P l k c p h

  stands_in_sinks_in : (P : ℕ → Type 0) (l k : ℕ) (ts : Trees) → StandsIn l k ts → AllByRecursion P (sinks_in ts) → P k
  stands_in_sinks_in P l k _ (stands_here t ts p) h = stands_in_sinks P l k t p (all-left P (sinks t) (sinks_in ts) h)
  stands_in_sinks_in P l k _ (stands_later t ts p) h = stands_in_sinks_in P l k ts p (all-right P (sinks t) (sinks_in ts) h)

pub put_in_range : (l k m h : ℕ) (t : Tree) → IsNext l k t → WellFormed m h (untried t) → k < m
put_in_range l k m h t n w = stands_in_sinks (λ j. j < m) l k t (to_put_stands l k t n) (subst (λ ks. AllByRecursion (λ j. j < m) ks) (sinks_untried t) (recursion_from_All (λ j. j < m) (sinks (untried t)) w.sinks_known))
