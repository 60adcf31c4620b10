-- The children of released holds are settled, apart from the one that is being settled.
use Rattle.std.proofs.Common.{◌≡◌, ◌≢◌, ℕ, ◌≤◌, Bool, true, false, cond, eqb, ◌||◌, ◌⊎◌, inl, inr, arith, refl, sym, ap, ◌∙◌, subst, Option, Some, None}
use Rattle.std.proofs.lemmas.Bool.Decides.{eqb_tells}
use Rattle.bt_demand.specs.Find.{below, below_each, tree_or_else, begun, some_begun, reached}
use Rattle.bt_demand.specs.Flushing.{Still}
use Rattle.bt_demand.specs.Holding.{one_if, is_open, is_waiting, count_holds_in, holds_at, every_hold, waiting, Tidy, TidyIn, TidyAfter}
use Rattle.bt_demand.specs.Next.{todo, todo_of_all, todo_of_first}
use Rattle.bt_demand.specs.Outcomes.{outcome}
use Rattle.bt_demand.specs.Recorded.{Grows}
use Rattle.bt_demand.specs.Steps.{settle, settle_each, wait, wait_each, waits, release, release_each, releases}
use Rattle.bt_demand.specs.Tree.{Tree, Trees, leaf, drop as nothing, reject, all, first, hold, none, more}
use Rattle.bt_demand.specs.declared.demand.Stage.{Stage}
use Rattle.bt_demand.specs.declared.demand.Stage.TheVariants.{Untried as Idle, Waiting, Released}
use Rattle.bt_demand.specs.declared.demand.State.{State}
use Rattle.bt_demand.specs.declared.outcome.Outcome.{Outcome}
use Rattle.bt_demand.specs.declared.outcome.Outcome.TheVariants.{Open, Met, Lost}
use Rattle.bt_demand.specs.declared.todo.Todo.{Todo}
use Rattle.bt_demand.specs.declared.todo.Todo.TheVariants.{Put, Wait, Settled}
use Rattle.bt_demand.proofs.Flushing.{outcome_grows}
use Rattle.bt_demand.proofs.Moves.{settle_steps, wait_steps, release_steps}
use Rattle.bt_demand.proofs.Shapes.{still-settled}
use Rattle.bt_demand.proofs.Starts.{both-waits, else-waits, leaf-never-waits}
use Rattle.bt_leaves.specs.Released.{SettledOf, SettledOfEach, ReleasedSettled, ReleasedSettledBut}

settled_stays : (a b : Outcome) → Grows a b → is_open a ≡ false → is_open b ≡ false
settled_stays Open b p e = cc
settled_stays Met b p e = ap is_open p
settled_stays Lost b p e = ap is_open p

-- a leaf that is settled leaves what is settled so
mutual
  pub settled_settle : (Q : ℕ → Type 0) (l : ℕ) (x : State) (t : Tree) → SettledOf Q t → SettledOf Q (settle l x t)
  settled_settle Q l x (leaf m k b y) h = tt
  settled_settle Q l x nothing h = tt
  settled_settle Q l x (reject w) h = tt
  settled_settle Q l x (all ts) h = settled_settle_in Q l x ts h
  settled_settle Q l x (first ts) h = settled_settle_in Q l x ts h
  settled_settle Q l x (hold m e z c g) h = ((λ r q. settled_stays (outcome c) (outcome (settle l x c)) (outcome_grows 0 c (settle l x c) (settle_steps 0 l x c)) (h.0 r q)), settled_settle Q l x c h.1)

  settled_settle_in : (Q : ℕ → Type 0) (l : ℕ) (x : State) (ts : Trees) → SettledOfEach Q ts → SettledOfEach Q (settle_each l x ts)
  settled_settle_in Q l x none h = tt
  settled_settle_in Q l x (more t ts) h = (settled_settle Q l x t h.0, settled_settle_in Q l x ts h.1)

waits_released : (b : Bool) (g : Stage) → cond b (waits g) g ≡ Released → g ≡ Released
waits_released true Idle e = cc
waits_released true Waiting e = cc
waits_released true Released e = refl
waits_released false g e = e

-- so does a hold that begins to wait
mutual
  pub settled_wait : (Q : ℕ → Type 0) (n : ℕ) (t : Tree) → SettledOf Q t → SettledOf Q (wait n t)
  settled_wait Q n (leaf m k b y) h = tt
  settled_wait Q n nothing h = tt
  settled_wait Q n (reject w) h = tt
  settled_wait Q n (all ts) h = settled_wait_in Q n ts h
  settled_wait Q n (first ts) h = settled_wait_in Q n ts h
  settled_wait Q n (hold m e z c g) h = ((λ r q. settled_stays (outcome c) (outcome (wait n c)) (outcome_grows 0 c (wait n c) (wait_steps 0 n c)) (h.0 (waits_released (eqb m n) g r) q)), settled_wait Q n c h.1)

  settled_wait_in : (Q : ℕ → Type 0) (n : ℕ) (ts : Trees) → SettledOfEach Q ts → SettledOfEach Q (wait_each n ts)
  settled_wait_in Q n none h = tt
  settled_wait_in Q n (more t ts) h = (settled_wait Q n t h.0, settled_wait_in Q n ts h.1)

-- and a hold that is released, apart from its own child
mutual
  pub settled_release : (n : ℕ) (t : Tree) → ReleasedSettled t → ReleasedSettledBut n (release n t)
  settled_release n (leaf m k b y) h = tt
  settled_release n nothing h = tt
  settled_release n (reject w) h = tt
  settled_release n (all ts) h = settled_release_in n ts h
  settled_release n (first ts) h = settled_release_in n ts h
  settled_release n (hold m e z c g) h = (
    (λ r d. elim (eqb_tells m n) [
      | inl i ↦ absurd (d i.1)
      | inr i ↦ (let s : g ≡ Released = ap (λ b. cond b (releases g) g) (sym i.0) ∙ r in
          settled_stays (outcome c) (outcome (release n c)) (outcome_grows 0 c (release n c) (release_steps 0 n c (omega arith))) (h.0 s tt))
    ]),
    settled_release n c h.1,
  )

  settled_release_in : (n : ℕ) (ts : Trees) → SettledOfEach (λ m. Unit {0}) ts → SettledOfEach (λ m. m ≢ n) (release_each n ts)
  settled_release_in n none h = tt
  settled_release_in n (more t ts) h = (settled_release n t h.0, settled_release_in n ts h.1)

-- a demand without a hold of that number
mutual
  settled_without : (n : ℕ) (t : Tree) → holds_at n t ≡ 0 → ReleasedSettledBut n t → ReleasedSettled t
  settled_without n (leaf m k b y) o h = tt
  settled_without n nothing o h = tt
  settled_without n (reject w) o h = tt
  settled_without n (all ts) o h = settled_without_in n ts o h
  settled_without n (first ts) o h = settled_without_in n ts o h
  settled_without n (hold m e z c g) o h = elim (eqb_tells m n) [
    | inl i ↦ (let a = ap one_if i.0 in absurd (omega arith))
    | inr i ↦ ((λ r q. h.0 r i.1), settled_without n c (omega arith) h.1)
  ]

  settled_without_in : (n : ℕ) (ts : Trees) → count_holds_in (λ m _. eqb m n) ts ≡ 0 → SettledOfEach (λ m. m ≢ n) ts → SettledOfEach (λ m. Unit {0}) ts
  settled_without_in n none o h = tt
  settled_without_in n (more t ts) o h = (settled_without n t (omega arith) h.0, settled_without_in n ts (omega arith) h.1)

cond_some : (b : Bool) (c d : Tree) (r : Option Tree) → cond b (Some c) r ≡ Some d → ((b ≡ true) × (c ≡ d)) ⊎ ((b ≡ false) × (r ≡ Some d))
cond_some true c d r e = let a : c ≡ d = cc in inl (refl, a)
cond_some false c d r e = inr (refl, e)

or_some : (a b : Option Tree) (c : Tree) → tree_or_else a b ≡ Some c → (a ≡ Some c) ⊎ ((a ≡ None) × (b ≡ Some c))
or_some None b c e = inr (refl, e)
or_some (Some x) b c e = inl e

-- the hold whose child that is
mutual
  below_counts : (n : ℕ) (t c : Tree) → below n t ≡ Some c → 1 ≤ holds_at n t
  below_counts n (leaf m k b y) c e = cc
  below_counts n nothing c e = cc
  below_counts n (reject w) c e = cc
  below_counts n (all ts) c e = below_counts_in n ts c e
  below_counts n (first ts) c e = below_counts_in n ts c e
  below_counts n (hold m f z d g) c e = elim (cond_some (eqb m n) d c (below n d) e) [
    | inl i ↦ (let a = ap one_if i.0 in omega arith)
    | inr i ↦ (let a = below_counts n d c i.1 in omega arith)
  ]

  below_counts_in : (n : ℕ) (ts : Trees) (c : Tree) → below_each n ts ≡ Some c → 1 ≤ count_holds_in (λ m _. eqb m n) ts
  below_counts_in n none c e = cc
  below_counts_in n (more t ts) c e = elim (or_some (below n t) (below_each n ts) c e) [
    | inl i ↦ (let a = below_counts n t c i in omega arith)
    | inr i ↦ (let a = below_counts_in n ts c i.1 in omega arith)
  ]

none_parts : (a b : Option Tree) → tree_or_else a b ≡ None → (a ≡ None) × (b ≡ None)
none_parts None b e = (refl, e)
none_parts (Some x) b e = cc

cond_none : (b : Bool) (c : Tree) (r : Option Tree) → cond b (Some c) r ≡ None → (b ≡ false) × (r ≡ None)
cond_none true c r e = cc
cond_none false c r e = (refl, e)

mutual
  none_counts : (n : ℕ) (t : Tree) → below n t ≡ None → holds_at n t ≡ 0
  none_counts n (leaf m k b y) e = refl
  none_counts n nothing e = refl
  none_counts n (reject w) e = refl
  none_counts n (all ts) e = none_counts_in n ts e
  none_counts n (first ts) e = none_counts_in n ts e
  none_counts n (hold m f z d g) e = let h = cond_none (eqb m n) d (below n d) e in let a = ap one_if h.0 in let b = none_counts n d h.1 in omega arith

  none_counts_in : (n : ℕ) (ts : Trees) → below_each n ts ≡ None → count_holds_in (λ m _. eqb m n) ts ≡ 0
  none_counts_in n none e = refl
  none_counts_in n (more t ts) e = let h = none_parts (below n t) (below_each n ts) e in let a = none_counts n t h.0 in let b = none_counts_in n ts h.1 in omega arith

-- once the child of the one that was left is settled, that of each is
mutual
  pub settled_at_last : (n : ℕ) (t c : Tree) → holds_at n t ≤ 1 → below n t ≡ Some c → is_open (outcome c) ≡ false → ReleasedSettledBut n t → ReleasedSettled t
  settled_at_last n (leaf m k b y) c o e s h = tt
  settled_at_last n nothing c o e s h = tt
  settled_at_last n (reject w) c o e s h = tt
  settled_at_last n (all ts) c o e s h = settled_at_last_in n ts c o e s h
  settled_at_last n (first ts) c o e s h = settled_at_last_in n ts c o e s h
  settled_at_last n (hold m f z d g) c o e s h = elim (cond_some (eqb m n) d c (below n d) e) [
    | inl i ↦ (let a = ap one_if i.0 in ((λ r q. subst (λ u. is_open (outcome u) ≡ false) (sym i.1) s), settled_without n d (omega arith) h.1))
    | inr i ↦ elim (eqb_tells m n) [
      | inl j ↦ (let z : true ≡ false = sym j.0 ∙ i.0 in cc)
      | inr j ↦ ((λ r q. h.0 r j.1), settled_at_last n d c (omega arith) i.1 s h.1)
    ]
  ]

  settled_at_last_in : (n : ℕ) (ts : Trees) (c : Tree) → count_holds_in (λ m _. eqb m n) ts ≤ 1 → below_each n ts ≡ Some c → is_open (outcome c) ≡ false → SettledOfEach (λ m. m ≢ n) ts → SettledOfEach (λ m. Unit {0}) ts
  settled_at_last_in n none c o e s h = tt
  settled_at_last_in n (more t ts) c o e s h = elim (or_some (below n t) (below_each n ts) c e) [
    | inl i ↦ (let a = below_counts n t c i in (settled_at_last n t c (omega arith) i s h.0, settled_without_in n ts (omega arith) h.1))
    | inr i ↦ (let a = none_counts n t i.0 in (settled_without n t a h.0, settled_at_last_in n ts c (omega arith) i.1 s h.1))
  ]

-- in a demand without holds nothing can begin to wait
mutual
  never_waits : (m : ℕ) (t : Tree) → every_hold t ≡ 0 → todo t ≡ Some (Wait m) → ⊥
  never_waits m (leaf l k b x) o e = leaf-never-waits l k m x e
  never_waits m nothing o e = cc
  never_waits m (reject w) o e = cc
  never_waits m (all ts) o e = never_waits_all m ts o e
  never_waits m (first ts) o e = never_waits_first m ts o e
  never_waits m (hold n f z c g) o e = absurd (omega arith)

  never_waits_all : (m : ℕ) (ts : Trees) → count_holds_in (λ _ _. true) ts ≡ 0 → todo_of_all ts ≡ Some (Wait m) → ⊥
  never_waits_all m none o e = cc
  never_waits_all m (more t ts) o e = elim (both-waits (todo t) (todo_of_all ts) m e) [ inl i ↦ never_waits m t (omega arith) i | inr i ↦ never_waits_all m ts (omega arith) i ]

  never_waits_first : (m : ℕ) (ts : Trees) → count_holds_in (λ _ _. true) ts ≡ 0 → todo_of_first ts ≡ Some (Wait m) → ⊥
  never_waits_first m none o e = cc
  never_waits_first m (more t ts) o e = elim (else-waits (todo t) (todo_of_first ts) m e) [ inl i ↦ never_waits m t (omega arith) i | inr i ↦ never_waits_first m ts (omega arith) i.1 ]

still_unless : (o : Option Todo) → ((l k : ℕ) → o ≡ Some (Put l k) → ⊥) → ((m : ℕ) → o ≡ Some (Wait m) → ⊥) → Still o
still_unless (Some (Put l k)) p w = absurd (p l k refl)
still_unless (Some (Wait m)) p w = absurd (w m refl)
still_unless (Some (Settled b)) p w = tt
still_unless None p w = tt

one_most : (b : Bool) → one_if b ≤ one_if true
one_most true = omega arith
one_most false = omega arith

mutual
  waiting_every : (t : Tree) → waiting t ≤ every_hold t
  waiting_every (leaf l k b x) = omega arith
  waiting_every nothing = omega arith
  waiting_every (reject w) = omega arith
  waiting_every (all ts) = waiting_every_in ts
  waiting_every (first ts) = waiting_every_in ts
  waiting_every (hold m f z c g) = let a = one_most (is_waiting g) in let b = waiting_every c in omega arith

  waiting_every_in : (ts : Trees) → count_holds_in (λ _ g. is_waiting g) ts ≤ count_holds_in (λ _ _. true) ts
  waiting_every_in none = omega arith
  waiting_every_in (more t ts) = let a = waiting_every t in let b = waiting_every_in ts in omega arith

-- a demand without holds, in which no leaf is to be put, is settled
pub settled_without_holds : (t : Tree) → every_hold t ≡ 0 → ((l k : ℕ) → todo t ≡ Some (Put l k) → ⊥) → is_open (outcome t) ≡ false
settled_without_holds t o p = still-settled t (still_unless (todo t) p (λ m e. never_waits m t o e)) (let a = waiting_every t in omega arith)

-- the child of a hold has none
mutual
  pub tidy_below : (n : ℕ) (t c : Tree) → Tidy t → below n t ≡ Some c → every_hold c ≡ 0
  tidy_below n (leaf m k b y) c h e = cc
  tidy_below n nothing c h e = cc
  tidy_below n (reject w) c h e = cc
  tidy_below n (all ts) c h e = tidy_below_in n ts c h e
  tidy_below n (first ts) c h e = tidy_below_after n ts c h e
  tidy_below n (hold m f z d g) c h e = elim (cond_some (eqb m n) d c (below n d) e) [
    | inl i ↦ subst (λ u. every_hold u ≡ 0) i.1 h.1
    | inr i ↦ tidy_below n d c h.0 i.1
  ]

  tidy_below_in : (n : ℕ) (ts : Trees) (c : Tree) → TidyIn ts → below_each n ts ≡ Some c → every_hold c ≡ 0
  tidy_below_in n none c h e = cc
  tidy_below_in n (more t ts) c h e = elim (or_some (below n t) (below_each n ts) c e) [ inl i ↦ tidy_below n t c h.0 i | inr i ↦ tidy_below_in n ts c h.1 i.1 ]

  tidy_below_after : (n : ℕ) (ts : Trees) (c : Tree) → TidyAfter ts → below_each n ts ≡ Some c → every_hold c ≡ 0
  tidy_below_after n none c h e = cc
  tidy_below_after n (more t ts) c h e = elim (or_some (below n t) (below_each n ts) c e) [ inl i ↦ tidy_below n t c h.0 i | inr i ↦ tidy_below_after n ts c h.1.1 i.1 ]

reached_none : (g : Stage) → reached g ≡ false → g ≡ Released → ⊥
reached_none Idle e f = cc
reached_none Waiting e f = cc
reached_none Released e f = cc

none_of : (a b : Bool) → (a || b) ≡ false → (a ≡ false) × (b ≡ false)
none_of true b e = cc
none_of false b e = (refl, e)

-- of a demand of which nothing was tried no hold was released
mutual
  pub settled_fresh : (Q : ℕ → Type 0) (t : Tree) → begun t ≡ false → SettledOf Q t
  settled_fresh Q (leaf l k b x) e = tt
  settled_fresh Q nothing e = tt
  settled_fresh Q (reject w) e = tt
  settled_fresh Q (all ts) e = settled_fresh_in Q ts e
  settled_fresh Q (first ts) e = settled_fresh_in Q ts e
  settled_fresh Q (hold m f z c g) e = let h = none_of (reached g) (begun c) e in ((λ r q. absurd (reached_none g h.0 r)), settled_fresh Q c h.1)

  settled_fresh_in : (Q : ℕ → Type 0) (ts : Trees) → some_begun ts ≡ false → SettledOfEach Q ts
  settled_fresh_in Q none e = tt
  settled_fresh_in Q (more t ts) e = let h = none_of (begun t) (some_begun ts) e in (settled_fresh Q t h.0, settled_fresh_in Q ts h.1)
