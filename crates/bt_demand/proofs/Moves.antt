-- Each step of a demand is a move.
use Rattle.std.proofs.Common.{◌≡◌, ℕ, ◌≤◌, Bool, true, false, cond, eqb, arith, refl}
use Rattle.std.proofs.lemmas.Bool.{eqb-true}
use Rattle.bt_demand.specs.Tree.{Tree, Trees, leaf, drop, reject, all, first, hold, none, more}
use Rattle.bt_demand.specs.Flushing.{StateMoves, StageMoves, Moves, MovesAll, moves_leaf, moves_drop, moves_reject, moves_all, moves_first, moves_hold, moves_none, moves_more}
use Rattle.bt_demand.specs.Steps.{settle, settle_each, wait, wait_each, release, release_each, settles, waits, releases}
use Rattle.bt_demand.specs.declared.demand.State.{State}
use Rattle.bt_demand.specs.declared.demand.State.TheVariants.{Untried as Fresh, Good, Bad}
use Rattle.bt_demand.specs.declared.demand.Stage.{Stage}
use Rattle.bt_demand.specs.declared.demand.Stage.TheVariants.{Untried as Idle, Waiting, Released}

state_same : (x : State) → StateMoves x x
state_same Fresh = tt
state_same Good = refl
state_same Bad = refl

stage_same : (n m : ℕ) (g : Stage) → StageMoves n m g g
stage_same n m Idle = tt
stage_same n m Waiting = tt
stage_same n m Released = tt

state_settles : (b : Bool) (s x : State) → StateMoves x (cond b (settles s x) x)
state_settles true s Fresh = tt
state_settles true s Good = refl
state_settles true s Bad = refl
state_settles false s x = state_same x

stage_waits : (n m : ℕ) (b : Bool) (g : Stage) → StageMoves n m g (cond b (waits g) g)
stage_waits n m true Idle = tt
stage_waits n m true Waiting = tt
stage_waits n m true Released = tt
stage_waits n m false g = stage_same n m g

stage_releases : (n k m : ℕ) (b : Bool) (g : Stage) → eqb m k ≡ b → n ≤ k → StageMoves n m g (cond b (releases g) g)
stage_releases n k m true Idle e h = tt
stage_releases n k m true Waiting e h = let s = eqb-true m k e in omega arith
stage_releases n k m true Released e h = tt
stage_releases n k m false g e h = stage_same n m g

mutual
  pub settle_steps : (n l : ℕ) (s : State) (t : Tree) → Moves n t (settle l s t)
  settle_steps n l s (leaf m k b x) = moves_leaf m k b x _ (state_settles (eqb m l) s x)
  settle_steps n l s drop = moves_drop
  settle_steps n l s (reject w) = moves_reject w
  settle_steps n l s (all ts) = moves_all ts _ (settle_all_steps n l s ts)
  settle_steps n l s (first ts) = moves_first ts _ (settle_all_steps n l s ts)
  settle_steps n l s (hold m e z c g) = moves_hold m e z c _ g g (settle_steps n l s c) (stage_same n m g)

  pub settle_all_steps : (n l : ℕ) (s : State) (ts : Trees) → MovesAll n ts (settle_each l s ts)
  settle_all_steps n l s none = moves_none
  settle_all_steps n l s (more t ts) = moves_more t _ ts _ (settle_steps n l s t) (settle_all_steps n l s ts)

mutual
  pub wait_steps : (n l : ℕ) (t : Tree) → Moves n t (wait l t)
  wait_steps n l (leaf m k b x) = moves_leaf m k b x x (state_same x)
  wait_steps n l drop = moves_drop
  wait_steps n l (reject w) = moves_reject w
  wait_steps n l (all ts) = moves_all ts _ (wait_all_steps n l ts)
  wait_steps n l (first ts) = moves_first ts _ (wait_all_steps n l ts)
  wait_steps n l (hold m e z c g) = moves_hold m e z c _ g _ (wait_steps n l c) (stage_waits n m (eqb m l) g)

  pub wait_all_steps : (n l : ℕ) (ts : Trees) → MovesAll n ts (wait_each l ts)
  wait_all_steps n l none = moves_none
  wait_all_steps n l (more t ts) = moves_more t _ ts _ (wait_steps n l t) (wait_all_steps n l ts)

mutual
  pub release_steps : (n k : ℕ) (t : Tree) → n ≤ k → Moves n t (release k t)
  release_steps n k (leaf m j b x) h = moves_leaf m j b x x (state_same x)
  release_steps n k drop h = moves_drop
  release_steps n k (reject w) h = moves_reject w
  release_steps n k (all ts) h = moves_all ts _ (release_all_steps n k ts h)
  release_steps n k (first ts) h = moves_first ts _ (release_all_steps n k ts h)
  release_steps n k (hold m e z c g) h = moves_hold m e z c _ g _ (release_steps n k c h) (stage_releases n k m (eqb m k) g refl h)

  pub release_all_steps : (n k : ℕ) (ts : Trees) → n ≤ k → MovesAll n ts (release_each k ts)
  release_all_steps n k none h = moves_none
  release_all_steps n k (more t ts) h = moves_more t _ ts _ (release_steps n k t h) (release_all_steps n k ts h)
