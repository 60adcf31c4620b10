-- What no step changes of a demand, and what is said of its leaves beside its steps.
use Rattle.std.proofs.Common.{◌≡◌, ℕ, Bool, true, false, ◌||◌, ◌∷◌, arith, refl, sym, ap, ◌∙◌, subst}
use Rattle.std.specs.List.{AllByRecursion}
use Rattle.bt_demand.specs.Find.{begun, some_begun, tried, reached}
use Rattle.bt_demand.specs.Flushing.{InOrder}
use Rattle.bt_demand.specs.Recorded.{untried, untried_in}
use Rattle.bt_demand.specs.Steps.{settle, wait, wait_each, release, release_each, state_for}
use Rattle.bt_demand.specs.Tree.{Tree, Trees, leaf, drop as nothing, reject, all, first, hold, none, more}
use Rattle.bt_demand.specs.WellFormed.{WellFormed, leaves, leaves_in, nodes, nodes_in, sinks, sinks_in, IsFlat, AreFlat, Rises}
use Rattle.bt_demand.specs.declared.demand.Stage.{Stage}
use Rattle.bt_demand.specs.declared.demand.Stage.TheVariants.{Untried as Idle, Waiting, Released}
use Rattle.bt_demand.specs.declared.demand.State.{State}
use Rattle.bt_demand.specs.declared.demand.State.TheVariants.{Untried as Fresh, Good, Bad}
use Rattle.bt_demand.proofs.Lists.{all-left, all-right}
use Rattle.bt_demand.proofs.Moves.{settle_steps, wait_steps, release_steps}
use Rattle.bt_demand.proofs.Order.{in-order}
use Rattle.bt_demand.proofs.Shapes.{moves-untried, moves-begun}
use Rattle.bt_leaves.specs.EachLeaf.{EachLeaf, EachLeafIn}
use Rattle.bt_steps.specs.Stepped.{stepped}
use Rattle.bt_steps.specs.declared.step.Step.{Step}
use Rattle.bt_steps.specs.declared.step.Step.TheVariants.{Settle, Wait as WaitIn, Release}

-- each step keeps the demand as it was before anything was tried
pub untried_settle : (l : ℕ) (s : State) (t : Tree) → untried (settle l s t) ≡ untried t
untried_settle l s t = moves-untried 0 t (settle l s t) (settle_steps 0 l s t)

pub untried_wait : (n : ℕ) (t : Tree) → untried (wait n t) ≡ untried t
untried_wait n t = moves-untried 0 t (wait n t) (wait_steps 0 n t)

pub untried_release : (n : ℕ) (t : Tree) → untried (release n t) ≡ untried t
untried_release n t = moves-untried 0 t (release n t) (release_steps 0 n t (omega arith))

-- what has begun has begun after each step
pub begun_step : (st : Step) (t : Tree) → begun t ≡ true → begun (stepped st t) ≡ true
begun_step (Settle l a) t e = moves-begun 0 t (settle l (state_for a) t) (settle_steps 0 l (state_for a) t) e
begun_step (WaitIn n) t e = moves-begun 0 t (wait n t) (wait_steps 0 n t) e
begun_step (Release n) t e = moves-begun 0 t (release n t) (release_steps 0 n t (omega arith)) e

mutual
  pub leaves_untried : (t : Tree) → leaves (untried t) ≡ leaves t
  leaves_untried (leaf n k b x) = refl
  leaves_untried nothing = refl
  leaves_untried (reject w) = refl
  leaves_untried (all ts) = leaves_untried_in ts
  leaves_untried (first ts) = leaves_untried_in ts
  leaves_untried (hold m e z c g) = leaves_untried c

  leaves_untried_in : (ts : Trees) → leaves_in (untried_in ts) ≡ leaves_in ts
  leaves_untried_in none = refl
  leaves_untried_in (more t ts) = rw (leaves_untried t, leaves_untried_in ts) refl

mutual
  pub sinks_untried : (t : Tree) → sinks (untried t) ≡ sinks t
  sinks_untried (leaf n k b x) = refl
  sinks_untried nothing = refl
  sinks_untried (reject w) = refl
  sinks_untried (all ts) = sinks_untried_in ts
  sinks_untried (first ts) = sinks_untried_in ts
  sinks_untried (hold m e z c g) = sinks_untried c

  sinks_untried_in : (ts : Trees) → sinks_in (untried_in ts) ≡ sinks_in ts
  sinks_untried_in none = refl
  sinks_untried_in (more t ts) = rw (sinks_untried t, sinks_untried_in ts) refl

mutual
  nodes_untried : (t : Tree) → nodes (untried t) ≡ nodes t
  nodes_untried (leaf n k b x) = refl
  nodes_untried nothing = refl
  nodes_untried (reject w) = refl
  nodes_untried (all ts) = nodes_untried_in ts
  nodes_untried (first ts) = nodes_untried_in ts
  nodes_untried (hold m e z c g) = ap (λ ns. m ∷ ns) (nodes_untried c)

  nodes_untried_in : (ts : Trees) → nodes_in (untried_in ts) ≡ nodes_in ts
  nodes_untried_in none = refl
  nodes_untried_in (more t ts) = rw (nodes_untried t, nodes_untried_in ts) refl

mutual
  pub flat_untried : (t : Tree) → IsFlat (untried t) → IsFlat t
  flat_untried (leaf n k b x) h = tt
  flat_untried nothing h = tt
  flat_untried (reject w) h = tt
  flat_untried (all ts) h = flat_untried_in ts h
  flat_untried (first ts) h = flat_untried_in ts h
  flat_untried (hold m e z c g) h = sym (nodes_untried c) ∙ h

  flat_untried_in : (ts : Trees) → AreFlat (untried_in ts) → AreFlat ts
  flat_untried_in none h = tt
  flat_untried_in (more t ts) h = (flat_untried t h.0, flat_untried_in ts h.1)

pub rises_kept : (k m : ℕ) (t : Tree) → WellFormed k m (untried t) → Rises (nodes t)
rises_kept k m t w = subst (λ ns. Rises ns) (nodes_untried t) w.holds_rise

-- the holds of a demand that was well formed stand in the order in which one pass empties them, whatever was done since
pub order_kept : (k m : ℕ) (t : Tree) → WellFormed k m (untried t) → InOrder t
order_kept k m t w = in-order t (flat_untried t w.holds_flat) (rises_kept k m t w)

-- holds don't matter for what is said of leaves
mutual
  pub by_wait : (P : ℕ → ℕ → State → Type 0) (n : ℕ) (t : Tree) → EachLeaf P t → EachLeaf P (wait n t)
  by_wait P n (leaf l k b x) h = h
  by_wait P n nothing h = tt
  by_wait P n (reject w) h = tt
  by_wait P n (all ts) h = by_wait_in P n ts h
  by_wait P n (first ts) h = by_wait_in P n ts h
  by_wait P n (hold m e z c g) h = by_wait P n c h

  by_wait_in : (P : ℕ → ℕ → State → Type 0) (n : ℕ) (ts : Trees) → EachLeafIn P ts → EachLeafIn P (wait_each n ts)
  by_wait_in P n none h = tt
  by_wait_in P n (more t ts) h = (by_wait P n t h.0, by_wait_in P n ts h.1)

mutual
  pub by_release : (P : ℕ → ℕ → State → Type 0) (n : ℕ) (t : Tree) → EachLeaf P t → EachLeaf P (release n t)
  by_release P n (leaf l k b x) h = h
  by_release P n nothing h = tt
  by_release P n (reject w) h = tt
  by_release P n (all ts) h = by_release_in P n ts h
  by_release P n (first ts) h = by_release_in P n ts h
  by_release P n (hold m e z c g) h = by_release P n c h

  by_release_in : (P : ℕ → ℕ → State → Type 0) (n : ℕ) (ts : Trees) → EachLeafIn P ts → EachLeafIn P (release_each n ts)
  by_release_in P n none h = tt
  by_release_in P n (more t ts) h = (by_release P n t h.0, by_release_in P n ts h.1)

tried_none : (x : State) → tried x ≡ false → x ≡ Fresh
tried_none Fresh e = refl
tried_none Good e = cc
tried_none Bad e = cc

reached_none : (g : Stage) → reached g ≡ false → g ≡ Idle
reached_none Idle e = refl
reached_none Waiting e = cc
reached_none Released e = cc

or_left : (a b : Bool) → a || b ≡ false → a ≡ false
or_left true b e = cc
or_left false b e = refl

or_right : (a b : Bool) → a || b ≡ false → b ≡ false
or_right true b e = cc
or_right false b e = e

mutual
  -- of a tree of which nothing was tried each leaf is untried, and what is so of untried leaves of its sinks is so of each
  pub fresh_by : (T : ℕ → ℕ → State → Type 0) (Q : ℕ → Type 0) (t : Tree) → begun t ≡ false → AllByRecursion Q (sinks t) → ((k m : ℕ) → Q k → T k m Fresh) → EachLeaf T t
  fresh_by T Q (leaf l k b x) e s f = subst (λ y. T k l y) (sym (tried_none x e)) (f k l s.0)
  fresh_by T Q nothing e s f = tt
  fresh_by T Q (reject w) e s f = tt
  fresh_by T Q (all ts) e s f = fresh_by_in T Q ts e s f
  fresh_by T Q (first ts) e s f = fresh_by_in T Q ts e s f
  fresh_by T Q (hold m i z c g) e s f = fresh_by T Q c (or_right (reached g) (begun c) e) s f

  fresh_by_in : (T : ℕ → ℕ → State → Type 0) (Q : ℕ → Type 0) (ts : Trees) → some_begun ts ≡ false → AllByRecursion Q (sinks_in ts) → ((k m : ℕ) → Q k → T k m Fresh) → EachLeafIn T ts
  fresh_by_in T Q none e s f = tt
  fresh_by_in T Q (more t ts) e s f =
      (fresh_by T Q t (or_left (begun t) (some_begun ts) e) (all-left Q (sinks t) (sinks_in ts) s) f, fresh_by_in T Q ts (or_right (begun t) (some_begun ts) e) (all-right Q (sinks t) (sinks_in ts) s) f)

mutual
  pub fresh_untried : (t : Tree) → begun t ≡ false → untried t ≡ t
  fresh_untried (leaf l k b x) e = ap (leaf l k b) (sym (tried_none x e))
  fresh_untried nothing e = refl
  fresh_untried (reject w) e = refl
  fresh_untried (all ts) e = ap all (fresh_untried_in ts e)
  fresh_untried (first ts) e = ap first (fresh_untried_in ts e)
  fresh_untried (hold m i z c g) e = rw (fresh_untried c (or_right (reached g) (begun c) e)) (ap (hold m i z c) (sym (reached_none g (or_left (reached g) (begun c) e))))

  fresh_untried_in : (ts : Trees) → some_begun ts ≡ false → untried_in ts ≡ ts
  fresh_untried_in none e = refl
  fresh_untried_in (more t ts) e = rw (fresh_untried t (or_left (begun t) (some_begun ts) e), fresh_untried_in ts (or_right (begun t) (some_begun ts) e)) refl
