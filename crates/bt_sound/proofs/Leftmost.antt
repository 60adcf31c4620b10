-- In a demand without holds the leaf that is next stands before all that may be put after it.
use Rattle.std.proofs.Common.{◌≡◌, ℕ, ◌+◌, ◌≤◌, Bool, true, false, cond, eqb, List, [], ◌∷◌, ◌++◌, ◌⊎◌, inl, inr, arith, refl, sym, ap, ◌∙◌, subst, eq-eqb, Option, Some, None}
use Rattle.bt_demand.specs.Holding.{one_if, is_open}
use Rattle.bt_demand.specs.Next.{todo, todo_of_all, todo_of_first, todo_of_leaf, outcome_after, both, fallback}
use Rattle.bt_demand.specs.Outcomes.{outcome, outcome_of_all, outcome_of_first, outcome_of_both, outcome_or_else}
use Rattle.bt_demand.specs.Recorded.{Grows, untried, untried_in}
use Rattle.bt_demand.specs.Steps.{settle, settle_each, settles, state_for}
use Rattle.bt_demand.specs.Tree.{Tree, Trees, leaf, drop as nothing, reject, all, first, hold, none, more}
use Rattle.bt_demand.specs.WellFormed.{leaves, leaves_in, nodes, nodes_in}
use Rattle.bt_demand.specs.declared.demand.State.{State}
use Rattle.bt_demand.specs.declared.demand.State.TheVariants.{Untried as Fresh, Good, Bad}
use Rattle.bt_demand.specs.declared.outcome.Outcome.{Outcome}
use Rattle.bt_demand.specs.declared.outcome.Outcome.TheVariants.{Open as Pending, Met, Lost}
use Rattle.bt_demand.specs.declared.todo.Todo.{Todo}
use Rattle.bt_demand.specs.declared.todo.Todo.TheVariants.{Put, Wait, Settled}
use Rattle.bt_demand.proofs.Flushing.{outcome_grows}
use Rattle.bt_demand.proofs.Lists.{InList, in-left, in-right}
use Rattle.bt_demand.proofs.Moves.{settle_steps}
use Rattle.bt_demand.proofs.NextSettles.{outcome_todo}
use Rattle.bt_demand.proofs.Starts.{both-puts, else-puts}
use Rattle.bt_ledger.specs.Due.{times}
use Rattle.bt_sound.specs.Turns.{StandsBefore}

-- numbers in a list, and one before another
pub in_either : (m : ℕ) (xs ys : List ℕ) → InList m (xs ++ ys) → InList m xs ⊎ InList m ys
in_either m [] ys h = inr h
in_either m (x ∷ xs) ys (inl e) = inl (inl e)
in_either m (x ∷ xs) ys (inr h) = elim (in_either m xs ys h) [ inl i ↦ inl (inr i) | inr i ↦ inr i ]

times_there : (m : ℕ) (xs : List ℕ) → InList m xs → 1 ≤ times m xs
times_there m [] h = absurd h
times_there m (x ∷ xs) (inl e) = let a = ap one_if (eq-eqb m x e) in omega arith
times_there m (x ∷ xs) (inr h) = let a = times_there m xs h in omega arith

times_left : (m : ℕ) (xs ys : List ℕ) → times m xs ≤ times m (xs ++ ys)
times_left m [] ys = omega arith
times_left m (x ∷ xs) ys = let a = times_left m xs ys in omega arith

times_right : (m : ℕ) (xs ys : List ℕ) → times m ys ≤ times m (xs ++ ys)
times_right m [] ys = omega arith
times_right m (x ∷ xs) ys = let a = times_right m xs ys in omega arith

before_left : (m n : ℕ) (xs ys : List ℕ) → StandsBefore m n xs → StandsBefore m n (xs ++ ys)
before_left m n [] ys h = absurd h
before_left m n (x ∷ xs) ys (inl h) = inl (h.0, (let a = h.1 in let b = times_left n xs ys in omega arith))
before_left m n (x ∷ xs) ys (inr h) = inr (before_left m n xs ys h)

before_right : (m n : ℕ) (xs ys : List ℕ) → StandsBefore m n ys → StandsBefore m n (xs ++ ys)
before_right m n [] ys h = h
before_right m n (x ∷ xs) ys h = inr (before_right m n xs ys h)

before_across : (m n : ℕ) (xs ys : List ℕ) → InList m xs → InList n ys → StandsBefore m n (xs ++ ys)
before_across m n [] ys h k = absurd h
before_across m n (x ∷ xs) ys (inl e) k = inl (e, (let a = times_there n ys k in let b = times_right n xs ys in omega arith))
before_across m n (x ∷ xs) ys (inr h) k = inr (before_across m n xs ys h k)

-- the leaf, where it is untried
abbrev live_leaf : ℕ → State → List ℕ
live_leaf n Fresh = n ∷ []
live_leaf n Good = []
live_leaf n Bad = []

-- what stands after a child of a First
abbrev unless_met : Outcome → List ℕ → List ℕ
unless_met Pending xs = xs
unless_met Met xs = []
unless_met Lost xs = xs

-- the untried leaves of a demand without holds that are asked or may still be, in order
abbrev mutual
  pub live : Tree → List ℕ
  live (leaf n k b x) = live_leaf n x
  live nothing = []
  live (reject w) = []
  live (all ts) = live_all ts
  live (first ts) = live_first ts
  live (hold n e z c g) = []

  live_all : Trees → List ℕ
  live_all none = []
  live_all (more t ts) = live t ++ live_all ts

  live_first : Trees → List ℕ
  live_first none = []
  live_first (more t ts) = live t ++ unless_met (outcome t) (live_first ts)

leaf_there : (y n : ℕ) (x : State) → InList y (live_leaf n x) → InList y (n ∷ [])
leaf_there y n Fresh h = h
leaf_there y n Good h = absurd h
leaf_there y n Bad h = absurd h

unless_there : (y : ℕ) (o : Outcome) (xs : List ℕ) → InList y (unless_met o xs) → InList y xs
unless_there y Pending xs h = h
unless_there y Met xs h = absurd h
unless_there y Lost xs h = h

mutual
  pub live_there : (y : ℕ) (t : Tree) → InList y (live t) → InList y (leaves t)
  live_there y (leaf n k b x) h = leaf_there y n x h
  live_there y nothing h = absurd h
  live_there y (reject w) h = absurd h
  live_there y (all ts) h = live_there_all y ts h
  live_there y (first ts) h = live_there_first y ts h
  live_there y (hold n e z c g) h = absurd h

  live_there_all : (y : ℕ) (ts : Trees) → InList y (live_all ts) → InList y (leaves_in ts)
  live_there_all y none h = absurd h
  live_there_all y (more t ts) h = elim (in_either y (live t) (live_all ts) h) [ inl i ↦ in-left y (leaves t) (leaves_in ts) (live_there y t i) | inr i ↦ in-right y (leaves t) (leaves_in ts) (live_there_all y ts i) ]

  live_there_first : (y : ℕ) (ts : Trees) → InList y (live_first ts) → InList y (leaves_in ts)
  live_there_first y none h = absurd h
  live_there_first y (more t ts) h = elim (in_either y (live t) (unless_met (outcome t) (live_first ts)) h) [
    | inl i ↦ in-left y (leaves t) (leaves_in ts) (live_there y t i)
    | inr i ↦ in-right y (leaves t) (leaves_in ts) (live_there_first y ts (unless_there y (outcome t) (live_first ts) i))
  ]

leaf_dead : (y n k : ℕ) (b : List ℕ) (x : State) → is_open (outcome (leaf n k b x)) ≡ false → InList y (live_leaf n x) → ⊥
leaf_dead y n k b Fresh e h = cc
leaf_dead y n k b Good e h = h
leaf_dead y n k b Bad e h = h

both_settled : (a b : Outcome) → is_open (outcome_of_both a b) ≡ false → (is_open a ≡ false) × (is_open b ≡ false)
both_settled Pending b e = cc
both_settled Met b e = (refl, e)
both_settled Lost Pending e = cc
both_settled Lost Met e = (refl, refl)
both_settled Lost Lost e = (refl, refl)

else_settled : (a b : Outcome) → is_open (outcome_or_else a b) ≡ false → (a ≡ Met) ⊎ ((a ≡ Lost) × (is_open b ≡ false))
else_settled Pending b e = cc
else_settled Met b e = inl refl
else_settled Lost b e = inr (refl, e)

-- a settled demand has none
mutual
  pub settled_dead : (y : ℕ) (t : Tree) → is_open (outcome t) ≡ false → InList y (live t) → ⊥
  settled_dead y (leaf n k b x) e h = leaf_dead y n k b x e h
  settled_dead y nothing e h = h
  settled_dead y (reject w) e h = h
  settled_dead y (all ts) e h = settled_dead_all y ts e h
  settled_dead y (first ts) e h = settled_dead_first y ts e h
  settled_dead y (hold n e z c g) o h = h

  settled_dead_all : (y : ℕ) (ts : Trees) → is_open (outcome_of_all ts) ≡ false → InList y (live_all ts) → ⊥
  settled_dead_all y none e h = h
  settled_dead_all y (more t ts) e h =
      let b = both_settled (outcome t) (outcome_of_all ts) e in
      elim (in_either y (live t) (live_all ts) h) [ inl i ↦ settled_dead y t b.0 i | inr i ↦ settled_dead_all y ts b.1 i ]

  settled_dead_first : (y : ℕ) (ts : Trees) → is_open (outcome_of_first ts) ≡ false → InList y (live_first ts) → ⊥
  settled_dead_first y none e h = h
  settled_dead_first y (more t ts) e h = elim (in_either y (live t) (unless_met (outcome t) (live_first ts)) h) [
    | inl i ↦ elim (else_settled (outcome t) (outcome_of_first ts) e) [ inl a ↦ settled_dead y t (ap is_open a) i | inr a ↦ settled_dead y t (ap is_open a.0) i ]
    | inr i ↦ elim (else_settled (outcome t) (outcome_of_first ts) e) [
      | inl a ↦ subst (λ o. InList y (unless_met o (live_first ts))) a i
      | inr a ↦ settled_dead_first y ts a.1 (unless_there y (outcome t) (live_first ts) i)
    ]
  ]

leaf_stays : (y n : ℕ) (a b : Bool) (x : State) → InList y (live_leaf n (cond b (settles (state_for a) x) x)) → InList y (live_leaf n x)
leaf_stays y n true true Fresh h = absurd h
leaf_stays y n false true Fresh h = absurd h
leaf_stays y n a false Fresh h = h
leaf_stays y n a true Good h = h
leaf_stays y n a false Good h = h
leaf_stays y n a true Bad h = h
leaf_stays y n a false Bad h = h

unless_stays : (y : ℕ) (a b : Outcome) (xs ys : List ℕ) → Grows a b → (InList y ys → InList y xs) → InList y (unless_met b ys) → InList y (unless_met a xs)
unless_stays y Pending b xs ys g f h = f (unless_there y b ys h)
unless_stays y Met b xs ys g f h = subst (λ o. InList y (unless_met o ys)) g h
unless_stays y Lost b xs ys g f h = f (unless_there y b ys h)

-- what may be put after a leaf was settled might before
mutual
  pub live_stays : (y l : ℕ) (a : Bool) (t : Tree) → InList y (live (settle l (state_for a) t)) → InList y (live t)
  live_stays y l a (leaf n k b x) h = leaf_stays y n a (eqb n l) x h
  live_stays y l a nothing h = h
  live_stays y l a (reject w) h = h
  live_stays y l a (all ts) h = live_stays_all y l a ts h
  live_stays y l a (first ts) h = live_stays_first y l a ts h
  live_stays y l a (hold n e z c g) h = h

  live_stays_all : (y l : ℕ) (a : Bool) (ts : Trees) → InList y (live_all (settle_each l (state_for a) ts)) → InList y (live_all ts)
  live_stays_all y l a none h = h
  live_stays_all y l a (more t ts) h = elim (in_either y (live (settle l (state_for a) t)) (live_all (settle_each l (state_for a) ts)) h) [
    | inl i ↦ in-left y (live t) (live_all ts) (live_stays y l a t i)
    | inr i ↦ in-right y (live t) (live_all ts) (live_stays_all y l a ts i)
  ]

  live_stays_first : (y l : ℕ) (a : Bool) (ts : Trees) → InList y (live_first (settle_each l (state_for a) ts)) → InList y (live_first ts)
  live_stays_first y l a none h = h
  live_stays_first y l a (more t ts) h = elim (in_either y (live (settle l (state_for a) t)) (unless_met (outcome (settle l (state_for a) t)) (live_first (settle_each l (state_for a) ts))) h) [
    | inl i ↦ in-left y (live t) (unless_met (outcome t) (live_first ts)) (live_stays y l a t i)
    | inr i ↦ in-right y (live t) (unless_met (outcome t) (live_first ts))
        (unless_stays y (outcome t) (outcome (settle l (state_for a) t)) (live_first ts) (live_first (settle_each l (state_for a) ts)) (outcome_grows 0 t _ (settle_steps 0 l (state_for a) t)) (λ j. live_stays_first y l a ts j) i)
  ]

append_none : (xs ys : List ℕ) → xs ++ ys ≡ [] → (xs ≡ []) × (ys ≡ [])
append_none [] ys e = (refl, e)
append_none (x ∷ xs) ys e = cc

after_settled : (o : Option Todo) (m : Bool) → o ≡ Some (Settled m) → is_open (outcome_after o) ≡ false
after_settled o true e = ap (λ q. is_open (outcome_after q)) e
after_settled o false e = ap (λ q. is_open (outcome_after q)) e

lost_after : (t : Tree) → todo t ≡ Some (Settled false) → outcome t ≡ Lost
lost_after t e = outcome_todo t ∙ ap outcome_after e

none_of_both : (a b : Option Todo) → both a b ≡ None → (a ≡ None) ⊎ (b ≡ None)
none_of_both (Some (Put l k)) b e = cc
none_of_both (Some (Wait n)) b e = cc
none_of_both (Some (Settled m)) (Some (Settled n)) e = cc
none_of_both (Some (Settled m)) None e = inr refl
none_of_both (Some (Settled m)) (Some (Put l k)) e = cc
none_of_both (Some (Settled m)) (Some (Wait n)) e = cc
none_of_both None b e = inl refl

none_of_else : (a b : Option Todo) → fallback a b ≡ None → (a ≡ None) ⊎ (b ≡ None)
none_of_else (Some (Settled false)) b e = inr e
none_of_else (Some (Settled true)) b e = cc
none_of_else (Some (Put l k)) b e = cc
none_of_else (Some (Wait n)) b e = cc
none_of_else None b e = inl refl

leaf_next : (n k : ℕ) (x : State) → todo_of_leaf n k x ≡ None → ⊥
leaf_next n k Fresh e = cc
leaf_next n k Good e = cc
leaf_next n k Bad e = cc

-- something is always next where there are no holds
mutual
  never_stuck : (t : Tree) → nodes (untried t) ≡ [] → todo t ≡ None → ⊥
  never_stuck (leaf n k b x) p e = leaf_next n k x e
  never_stuck nothing p e = cc
  never_stuck (reject w) p e = cc
  never_stuck (all ts) p e = never_stuck_all ts p e
  never_stuck (first ts) p e = never_stuck_first ts p e
  never_stuck (hold n e z c g) p o = cc

  never_stuck_all : (ts : Trees) → nodes_in (untried_in ts) ≡ [] → todo_of_all ts ≡ None → ⊥
  never_stuck_all none p e = cc
  never_stuck_all (more t ts) p e =
      let q = append_none (nodes (untried t)) (nodes_in (untried_in ts)) p in
      elim (none_of_both (todo t) (todo_of_all ts) e) [ inl i ↦ never_stuck t q.0 i | inr i ↦ never_stuck_all ts q.1 i ]

  never_stuck_first : (ts : Trees) → nodes_in (untried_in ts) ≡ [] → todo_of_first ts ≡ None → ⊥
  never_stuck_first none p e = cc
  never_stuck_first (more t ts) p e =
      let q = append_none (nodes (untried t)) (nodes_in (untried_in ts)) p in
      elim (none_of_else (todo t) (todo_of_first ts) e) [ inl i ↦ never_stuck t q.0 i | inr i ↦ never_stuck_first ts q.1 i ]

leaf_live : (n k l j : ℕ) (x : State) → todo_of_leaf n k x ≡ Some (Put l j) → InList l (live_leaf n x)
leaf_live n k l j Fresh e = let a : l ≡ n = cc in inl a
leaf_live n k l j Good e = cc
leaf_live n k l j Bad e = cc

-- the leaf that is next is one of them
mutual
  pub next_live : (l k : ℕ) (t : Tree) → nodes (untried t) ≡ [] → todo t ≡ Some (Put l k) → InList l (live t)
  next_live l k (leaf n j b x) p e = leaf_live n j l k x e
  next_live l k nothing p e = cc
  next_live l k (reject w) p e = cc
  next_live l k (all ts) p e = next_live_all l k ts p e
  next_live l k (first ts) p e = next_live_first l k ts p e
  next_live l k (hold n e z c g) p o = cc

  next_live_all : (l k : ℕ) (ts : Trees) → nodes_in (untried_in ts) ≡ [] → todo_of_all ts ≡ Some (Put l k) → InList l (live_all ts)
  next_live_all l k none p e = cc
  next_live_all l k (more t ts) p e =
      let q = append_none (nodes (untried t)) (nodes_in (untried_in ts)) p in
      elim (both-puts (todo t) (todo_of_all ts) l k e) [ inl i ↦ in-left l (live t) (live_all ts) (next_live l k t q.0 i) | inr i ↦ in-right l (live t) (live_all ts) (next_live_all l k ts q.1 i) ]

  next_live_first : (l k : ℕ) (ts : Trees) → nodes_in (untried_in ts) ≡ [] → todo_of_first ts ≡ Some (Put l k) → InList l (live_first ts)
  next_live_first l k none p e = cc
  next_live_first l k (more t ts) p e =
      let q = append_none (nodes (untried t)) (nodes_in (untried_in ts)) p in
      elim (else-puts (todo t) (todo_of_first ts) l k e) [
        | inl i ↦ in-left l (live t) (unless_met (outcome t) (live_first ts)) (next_live l k t q.0 i)
        | inr i ↦ in-right l (live t) (unless_met (outcome t) (live_first ts)) (subst (λ o. InList l (unless_met o (live_first ts))) (sym (lost_after t i.0)) (next_live_first l k ts q.1 i.1))
      ]

leaf_gone : (y n k l j : ℕ) (a : Bool) (x : State) → todo_of_leaf n k x ≡ Some (Put l j) → InList y (live_leaf n (cond (eqb n l) (settles (state_for a) x) x)) → ⊥
leaf_gone y n k l j true Fresh e h = let m : n ≡ l = cc in subst (λ b. InList y (live_leaf n (cond b Good Fresh))) (eq-eqb n l m) h
leaf_gone y n k l j false Fresh e h = let m : n ≡ l = cc in subst (λ b. InList y (live_leaf n (cond b Bad Fresh))) (eq-eqb n l m) h
leaf_gone y n k l j a Good e h = cc
leaf_gone y n k l j a Bad e h = cc

-- what both of a settled child and of what stands after it may still be put stands after it
not_stuck : (t : Tree) → nodes (untried t) ≡ [] → (o : Option Todo) → o ≡ todo t → (l k : ℕ) (r : Option Todo) → both o r ≡ Some (Put l k) → (o ≡ Some (Put l k)) ⊎ ((is_open (outcome t) ≡ false) × (r ≡ Some (Put l k)))
not_stuck t p (Some (Put m j)) f l k r e = inl e
not_stuck t p (Some (Wait n)) f l k r e = inl e
not_stuck t p (Some (Settled true)) f l k r e = elim (both-puts (Some (Settled true)) r l k e) [ inl i ↦ inl i | inr i ↦ inr (ap is_open (outcome_todo t ∙ ap outcome_after (sym f)), i) ]
not_stuck t p (Some (Settled false)) f l k r e = elim (both-puts (Some (Settled false)) r l k e) [ inl i ↦ inl i | inr i ↦ inr (ap is_open (outcome_todo t ∙ ap outcome_after (sym f)), i) ]
not_stuck t p None f l k r e = absurd (never_stuck t p (sym f))

-- once the next leaf is settled, all that may still be put stands after it
mutual
  pub next_before : (y l k : ℕ) (a : Bool) (t : Tree) → nodes (untried t) ≡ [] → todo t ≡ Some (Put l k) → InList y (live (settle l (state_for a) t)) → StandsBefore l y (leaves t)
  next_before y l k a (leaf n j b x) p e h = absurd (leaf_gone y n j l k a x e h)
  next_before y l k a nothing p e h = cc
  next_before y l k a (reject w) p e h = cc
  next_before y l k a (all ts) p e h = next_before_all y l k a ts p e h
  next_before y l k a (first ts) p e h = next_before_first y l k a ts p e h
  next_before y l k a (hold n e z c g) p o h = cc

  next_before_all : (y l k : ℕ) (a : Bool) (ts : Trees) → nodes_in (untried_in ts) ≡ [] → todo_of_all ts ≡ Some (Put l k) → InList y (live_all (settle_each l (state_for a) ts)) → StandsBefore l y (leaves_in ts)
  next_before_all y l k a none p e h = cc
  next_before_all y l k a (more t ts) p e h =
      let q = append_none (nodes (untried t)) (nodes_in (untried_in ts)) p in
      let w = in_either y (live (settle l (state_for a) t)) (live_all (settle_each l (state_for a) ts)) h in
      elim (not_stuck t q.0 (todo t) refl l k (todo_of_all ts) e) [
        | inl i ↦ elim w [
          | inl u ↦ before_left l y (leaves t) (leaves_in ts) (next_before y l k a t q.0 i u)
          | inr u ↦ before_across l y (leaves t) (leaves_in ts) (live_there l t (next_live l k t q.0 i)) (live_there_all y ts (live_stays_all y l a ts u))
        ]
        | inr i ↦ elim w [
          | inl u ↦ absurd (settled_dead y t i.0 (live_stays y l a t u))
          | inr u ↦ before_right l y (leaves t) (leaves_in ts) (next_before_all y l k a ts q.1 i.1 u)
        ]
      ]

  next_before_first : (y l k : ℕ) (a : Bool) (ts : Trees) → nodes_in (untried_in ts) ≡ [] → todo_of_first ts ≡ Some (Put l k) → InList y (live_first (settle_each l (state_for a) ts)) → StandsBefore l y (leaves_in ts)
  next_before_first y l k a none p e h = cc
  next_before_first y l k a (more t ts) p e h =
      let q = append_none (nodes (untried t)) (nodes_in (untried_in ts)) p in
      let w = in_either y (live (settle l (state_for a) t)) (unless_met (outcome (settle l (state_for a) t)) (live_first (settle_each l (state_for a) ts))) h in
      elim (else-puts (todo t) (todo_of_first ts) l k e) [
        | inl i ↦ elim w [
          | inl u ↦ before_left l y (leaves t) (leaves_in ts) (next_before y l k a t q.0 i u)
          | inr u ↦ before_across l y (leaves t) (leaves_in ts) (live_there l t (next_live l k t q.0 i)) (live_there_first y ts (live_stays_first y l a ts (unless_there y (outcome (settle l (state_for a) t)) (live_first (settle_each l (state_for a) ts)) u)))
        ]
        | inr i ↦ elim w [
          | inl u ↦ absurd (settled_dead y t (ap is_open (lost_after t i.0)) (live_stays y l a t u))
          | inr u ↦ before_right l y (leaves t) (leaves_in ts) (next_before_first y l k a ts q.1 i.1 (unless_there y (outcome (settle l (state_for a) t)) (live_first (settle_each l (state_for a) ts)) u))
        ]
      ]
