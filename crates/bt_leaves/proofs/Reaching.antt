-- Which holds are asked and released after a step.
use Rattle.std.proofs.Common.{◌≡◌, ℕ, zero, suc, ◌+◌, ◌≤◌, Bool, true, false, cond, eqb, ◌&&◌, ◌⊎◌, inl, inr, arith, refl, ap, ◌∙◌, Option, Some, None, IsSome}
use Rattle.std.proofs.lemmas.Bool.Decides.{eqb_tells}
use Rattle.bt_demand.specs.Find.{below, below_each, tree_or_else}
use Rattle.bt_demand.specs.Holding.{one_if, is_waiting, count_holds, count_holds_in, waits_at, holds_at, Tidy, TidyIn, TidyAfter}
use Rattle.bt_demand.specs.Outcomes.{outcome}
use Rattle.bt_demand.specs.Next.{todo}
use Rattle.bt_demand.specs.Reached.{Reach, ReachAll, ReachFirst, NextIn}
use Rattle.bt_demand.specs.declared.todo.Todo.TheVariants.{Put}
use Rattle.bt_demand.proofs.Reached.{reach-there}
use Rattle.std.specs.Prelude.{option_map}
use Rattle.bt_demand.specs.Steps.{settle, settle_each, release, release_each, releases}
use Rattle.bt_demand.specs.Tree.{Tree, Trees, leaf, drop as nothing, reject, all, first, hold, none, more}
use Rattle.bt_demand.specs.Work.{Waits, SomeWaits}
use Rattle.bt_demand.specs.declared.demand.Stage.{Stage}
use Rattle.bt_demand.specs.declared.demand.Stage.TheVariants.{Untried as Idle, Waiting, Released}
use Rattle.bt_demand.specs.declared.demand.State.{State}
use Rattle.bt_demand.proofs.Flushing.{outcome_grows, lost_stays}
use Rattle.bt_demand.proofs.Moves.{settle_steps, release_steps}

none_else : (a b : Option Tree) → a ≡ None → b ≡ None → tree_or_else a b ≡ None
none_else a b e f = ap (λ x. tree_or_else x b) e ∙ f

none_both : (a b : Option Tree) → tree_or_else a b ≡ None → (a ≡ None) × (b ≡ None)
none_both None b e = (refl, e)
none_both (Some x) b e = cc

cond_none : (b : Bool) (c : Tree) (r : Option Tree) → cond b (Some c) r ≡ None → (b ≡ false) × (r ≡ None)
cond_none true c r e = cc
cond_none false c r e = (refl, e)

mutual
  none_settle : (n l : ℕ) (x : State) (t : Tree) → below n t ≡ None → below n (settle l x t) ≡ None
  none_settle n l x (leaf m k b y) e = refl
  none_settle n l x nothing e = refl
  none_settle n l x (reject w) e = refl
  none_settle n l x (all ts) e = none_settle_in n l x ts e
  none_settle n l x (first ts) e = none_settle_in n l x ts e
  none_settle n l x (hold m f z c g) e = let h = cond_none (eqb m n) c (below n c) e in ap (λ b. cond b (Some (settle l x c)) (below n (settle l x c))) h.0 ∙ none_settle n l x c h.1

  none_settle_in : (n l : ℕ) (x : State) (ts : Trees) → below_each n ts ≡ None → below_each n (settle_each l x ts) ≡ None
  none_settle_in n l x none e = refl
  none_settle_in n l x (more t ts) e = let h = none_both (below n t) (below_each n ts) e in none_else (below n (settle l x t)) (below_each n (settle_each l x ts)) (none_settle n l x t h.0) (none_settle_in n l x ts h.1)

mutual
  pub reach_settle : (n l : ℕ) (x : State) (t : Tree) → Reach n t → Reach n (settle l x t)
  reach_settle n l x (leaf m k b y) h = absurd h
  reach_settle n l x nothing h = absurd h
  reach_settle n l x (reject w) h = absurd h
  reach_settle n l x (all ts) h = reach_settle_all n l x ts h
  reach_settle n l x (first ts) h = reach_settle_first n l x ts h
  reach_settle n l x (hold m f z c g) h = h

  reach_settle_all : (n l : ℕ) (x : State) (ts : Trees) → ReachAll n ts → ReachAll n (settle_each l x ts)
  reach_settle_all n l x none h = absurd h
  reach_settle_all n l x (more t ts) (inl h) = inl (reach_settle n l x t h)
  reach_settle_all n l x (more t ts) (inr h) = inr (none_settle n l x t h.0, reach_settle_all n l x ts h.1)

  reach_settle_first : (n l : ℕ) (x : State) (ts : Trees) → ReachFirst n ts → ReachFirst n (settle_each l x ts)
  reach_settle_first n l x none h = absurd h
  reach_settle_first n l x (more t ts) (inl h) = inl (reach_settle n l x t h)
  reach_settle_first n l x (more t ts) (inr h) = inr (none_settle n l x t h.0, (lost_stays (outcome t) (outcome (settle l x t)) (outcome_grows 0 t (settle l x t) (settle_steps 0 l x t)) h.1.0, reach_settle_first n l x ts h.1.1))

mutual
  none_there : (n : ℕ) (t : Tree) → holds_at n t ≡ 0 → below n (release n t) ≡ None
  none_there n (leaf m k b y) e = refl
  none_there n nothing e = refl
  none_there n (reject w) e = refl
  none_there n (all ts) e = none_there_in n ts e
  none_there n (first ts) e = none_there_in n ts e
  none_there n (hold m f z c g) e = elim (eqb_tells m n) [
    | inl i ↦ (let a = ap one_if i.0 in absurd (omega arith))
    | inr i ↦ ap (λ b. cond b (Some (release n c)) (below n (release n c))) i.0 ∙ none_there n c (omega arith)
  ]

  none_there_in : (n : ℕ) (ts : Trees) → count_holds_in (λ m _. eqb m n) ts ≡ 0 → below_each n (release_each n ts) ≡ None
  none_there_in n none e = refl
  none_there_in n (more t ts) e = none_else (below n (release n t)) (below_each n (release_each n ts)) (none_there n t (omega arith)) (none_there_in n ts (omega arith))

and_le : (a b : Bool) → one_if (a && b) ≤ one_if a
and_le true true = omega arith
and_le true false = omega arith
and_le false b = omega arith

one_most : (b : Bool) → one_if b ≤ one_if true
one_most true = omega arith
one_most false = omega arith

waiting_is : (g : Stage) → 1 ≤ one_if (is_waiting g) → g ≡ Waiting
waiting_is Idle h = absurd (omega arith)
waiting_is Waiting h = refl
waiting_is Released h = absurd (omega arith)

and_right : (a b : Bool) → one_if (a && b) ≤ one_if b
and_right true b = omega arith
and_right false b = omega arith

mutual
  waits_holds : (n : ℕ) (t : Tree) → waits_at n t ≤ holds_at n t
  waits_holds n (leaf m k b y) = omega arith
  waits_holds n nothing = omega arith
  waits_holds n (reject w) = omega arith
  waits_holds n (all ts) = waits_holds_in n ts
  waits_holds n (first ts) = waits_holds_in n ts
  waits_holds n (hold m f z c g) = let a = and_le (eqb m n) (is_waiting g) in let b = waits_holds n c in omega arith

  waits_holds_in : (n : ℕ) (ts : Trees) → count_holds_in (λ m g. eqb m n && is_waiting g) ts ≤ count_holds_in (λ m _. eqb m n) ts
  waits_holds_in n none = omega arith
  waits_holds_in n (more t ts) = let a = waits_holds n t in let b = waits_holds_in n ts in omega arith

mutual
  pub waits_waiting : (n : ℕ) (t : Tree) → waits_at n t ≤ count_holds (λ _ g. is_waiting g) t
  waits_waiting n (leaf m k b y) = omega arith
  waits_waiting n nothing = omega arith
  waits_waiting n (reject w) = omega arith
  waits_waiting n (all ts) = waits_waiting_in n ts
  waits_waiting n (first ts) = waits_waiting_in n ts
  waits_waiting n (hold m f z c g) = let a = and_right (eqb m n) (is_waiting g) in let b = waits_waiting n c in omega arith

  waits_waiting_in : (n : ℕ) (ts : Trees) → count_holds_in (λ m g. eqb m n && is_waiting g) ts ≤ count_holds_in (λ _ g. is_waiting g) ts
  waits_waiting_in n none = omega arith
  waits_waiting_in n (more t ts) = let a = waits_waiting n t in let b = waits_waiting_in n ts in omega arith

mutual
  holds_every : (n : ℕ) (t : Tree) → holds_at n t ≤ count_holds (λ _ _. true) t
  holds_every n (leaf m k b y) = omega arith
  holds_every n nothing = omega arith
  holds_every n (reject w) = omega arith
  holds_every n (all ts) = holds_every_in n ts
  holds_every n (first ts) = holds_every_in n ts
  holds_every n (hold m f z c g) = let a = one_most (eqb m n) in let b = holds_every n c in omega arith

  holds_every_in : (n : ℕ) (ts : Trees) → count_holds_in (λ m _. eqb m n) ts ≤ count_holds_in (λ _ _. true) ts
  holds_every_in n none = omega arith
  holds_every_in n (more t ts) = let a = holds_every n t in let b = holds_every_in n ts in omega arith

nat_zero : (a : ℕ) → (a ≡ 0) ⊎ (1 ≤ a)
nat_zero zero = inl refl
nat_zero (suc a) = inr (omega arith)

held_here : (m n : ℕ) (g : Stage) → 1 ≤ one_if (eqb m n && is_waiting g) → (m ≡ n) × ((eqb m n ≡ true) × (g ≡ Waiting))
held_here m n g h = elim (eqb_tells m n) [
  | inl i ↦ (i.1, (i.0, waiting_is g (let a = ap (λ b. one_if (b && is_waiting g)) i.0 in omega arith)))
  | inr i ↦ (let a = ap (λ b. one_if (b && is_waiting g)) i.0 in absurd (omega arith))
]

mutual
  pub reach_release : (n : ℕ) (t : Tree) → Tidy t → holds_at n t ≤ 1 → 1 ≤ waits_at n t → Reach n (release n t)
  reach_release n (leaf m k b y) d o w = absurd (omega arith)
  reach_release n nothing d o w = absurd (omega arith)
  reach_release n (reject v) d o w = absurd (omega arith)
  reach_release n (all ts) d o w = reach_release_all n ts d o w
  reach_release n (first ts) d o w = reach_release_first n ts d o w
  reach_release n (hold m f z c g) d o w =
      let a = waits_holds n c in let b = holds_every n c in let e = d.1 in
      let h = held_here m n g (omega arith) in
      (h.0, ap (λ q. cond q (releases g) g) h.1.0 ∙ ap releases h.1.1)

  reach_release_all : (n : ℕ) (ts : Trees) → TidyIn ts → count_holds_in (λ m _. eqb m n) ts ≤ 1 → 1 ≤ count_holds_in (λ m g. eqb m n && is_waiting g) ts → ReachAll n (release_each n ts)
  reach_release_all n none d o w = absurd (omega arith)
  reach_release_all n (more t ts) d o w = elim (nat_zero (waits_at n t)) [
    | inl e ↦ (let a = waits_holds_in n ts in inr (none_there n t (omega arith), reach_release_all n ts d.1 (omega arith) (omega arith)))
    | inr e ↦ inl (reach_release n t d.0 (omega arith) e)
  ]

  reach_release_first : (n : ℕ) (ts : Trees) → TidyAfter ts → count_holds_in (λ m _. eqb m n) ts ≤ 1 → 1 ≤ count_holds_in (λ m g. eqb m n && is_waiting g) ts → ReachFirst n (release_each n ts)
  reach_release_first n none d o w = absurd (omega arith)
  reach_release_first n (more t ts) d o w = elim (nat_zero (waits_at n t)) [
    | inl e ↦ (let a = waits_holds_in n ts in let b = waits_waiting_in n ts in
        inr (none_there n t (omega arith), (elim d.1.0 [ inl i ↦ lost_stays (outcome t) (outcome (release n t)) (outcome_grows 0 t (release n t) (release_steps 0 n t (omega arith))) i | inr i ↦ absurd (omega arith) ], reach_release_first n ts d.1.1 (omega arith) (omega arith))))
    | inr e ↦ inl (reach_release n t d.0 (omega arith) e)
  ]

some_one : (a b : ℕ) → 1 ≤ a + b → (1 ≤ a) ⊎ (1 ≤ b)
some_one zero b h = inr (omega arith)
some_one (suc a) b h = inl (omega arith)

waits_stage : (n m : ℕ) (g : Stage) (k : ℕ) (W : Type 0) → m ≡ n → 1 ≤ one_if (is_waiting g) + k → (1 ≤ k → W) → ((m ≡ n) × (g ≡ Waiting)) ⊎ W
waits_stage n m Idle k W i h f = inr (f (omega arith))
waits_stage n m Waiting k W i h f = inl (i, refl)
waits_stage n m Released k W i h f = inr (f (omega arith))

waits_hold : (n m : ℕ) (g : Stage) (k : ℕ) (W : Type 0) → 1 ≤ one_if (eqb m n && is_waiting g) + k → (1 ≤ k → W) → ((m ≡ n) × (g ≡ Waiting)) ⊎ W
waits_hold n m g k W h f = elim (eqb_tells m n) [
  | inl i ↦ waits_stage n m g k W i.1 (rw i.0 at h) f
  | inr i ↦ inr (f (let a : one_if (eqb m n && is_waiting g) ≡ 0 = rw i.0 refl in omega arith))
]

mutual
  pub waits_is : (n : ℕ) (t : Tree) → 1 ≤ waits_at n t → Waits n t
  waits_is n (leaf l k b x) h = absurd (omega arith)
  waits_is n nothing h = absurd (omega arith)
  waits_is n (reject w) h = absurd (omega arith)
  waits_is n (all ts) h = waits_is_in n ts h
  waits_is n (first ts) h = waits_is_in n ts h
  waits_is n (hold m e z c g) h = waits_hold n m g (waits_at n c) (Waits n c) h (waits_is n c)

  waits_is_in : (n : ℕ) (ts : Trees) → 1 ≤ count_holds_in (λ m g. eqb m n && is_waiting g) ts → SomeWaits n ts
  waits_is_in n none h = absurd (omega arith)
  waits_is_in n (more t ts) h = elim (some_one (waits_at n t) (count_holds_in (λ m g. eqb m n && is_waiting g) ts) h) [
    | inl a ↦ inl (waits_is n t a)
    | inr b ↦ inr (waits_is_in n ts b)
  ]

some_of : (o : Option Tree) → (o ≡ None → ⊥) → IsSome o
some_of None h = absurd (h refl)
some_of (Some t) h = refl

-- a hold that is asked and released is there
pub reached_there : (n : ℕ) (t : Tree) → Reach n t → IsSome (below n t)
reached_there n t r = some_of (below n t) (reach-there n t r)

-- the leaf that is next below a hold, by what is next there
pub next_in : (l k : ℕ) (o : Option Tree) → Some (Some (Put l k)) ≡ option_map todo o → NextIn l k o
next_in l k None e = cc
next_in l k (Some t) e = let a : todo t ≡ Some (Put l k) = cc in a
