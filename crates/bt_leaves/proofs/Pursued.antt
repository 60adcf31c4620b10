-- Where nothing can begin, all that is asked has begun; so has it in a demand that is settled.
use Rattle.std.proofs.Common.{◌≡◌, ℕ, true, false, refl, sym, ap, ◌∙◌, Option, Some, None}
use Rattle.bt_demand.specs.Find.{tried, reached}
use Rattle.bt_demand.specs.Flushing.{Still}
use Rattle.bt_demand.specs.Holding.{is_open}
use Rattle.bt_demand.specs.Next.{todo, todo_of_all, todo_of_first, todo_of_leaf, todo_of_hold, outcome_after}
use Rattle.bt_demand.specs.Outcomes.{outcome}
use Rattle.bt_demand.specs.Tree.{Tree, Trees, leaf, drop as nothing, reject, all, first, hold, none, more}
use Rattle.bt_demand.specs.declared.demand.Stage.{Stage}
use Rattle.bt_demand.specs.declared.demand.Stage.TheVariants.{Untried as Idle, Waiting, Released}
use Rattle.bt_demand.specs.declared.demand.State.{State}
use Rattle.bt_demand.specs.declared.demand.State.TheVariants.{Untried as Fresh, Good, Bad}
use Rattle.bt_demand.specs.declared.todo.Todo.{Todo}
use Rattle.bt_demand.specs.declared.todo.Todo.TheVariants.{Put, Wait, Settled}
use Rattle.bt_demand.proofs.Flushing.{both_still, fallback_still}
use Rattle.bt_demand.proofs.NextSettles.{outcome_todo}
use Rattle.bt_leaves.specs.Pursued.{Pursued, PursuedAll, PursuedFirst}

leaf_tried : (l k : ℕ) (x : State) → Still (todo_of_leaf l k x) → tried x ≡ true
leaf_tried l k Fresh s = absurd s
leaf_tried l k Good s = refl
leaf_tried l k Bad s = refl

hold_reached : (m : ℕ) (g : Stage) (r : Option Todo) → Still (todo_of_hold m g r) → reached g ≡ true
hold_reached m Idle r s = absurd s
hold_reached m Waiting r s = refl
hold_reached m Released r s = refl

hold_released : (m : ℕ) (g : Stage) (r : Option Todo) → Still (todo_of_hold m g r) → g ≡ Released → Still r
hold_released m Idle r s e = absurd s
hold_released m Waiting r s e = cc
hold_released m Released r s e = s

mutual
  pub still_pursued : (t : Tree) → Still (todo t) → Pursued t
  still_pursued (leaf l k b x) s = leaf_tried l k x s
  still_pursued nothing s = tt
  still_pursued (reject w) s = tt
  still_pursued (all ts) s = still_pursued_all ts s
  still_pursued (first ts) s = still_pursued_first ts s
  still_pursued (hold m f z c g) s = (hold_reached m g (todo c) s, (λ e. still_pursued c (hold_released m g (todo c) s e)))

  still_pursued_all : (ts : Trees) → Still (todo_of_all ts) → PursuedAll ts
  still_pursued_all none s = tt
  still_pursued_all (more t ts) s = let p = both_still (todo t) (todo_of_all ts) s in (still_pursued t p.0, still_pursued_all ts p.1)

  still_pursued_first : (ts : Trees) → Still (todo_of_first ts) → PursuedFirst ts
  still_pursued_first none s = tt
  still_pursued_first (more t ts) s = let p = fallback_still (todo t) (todo_of_first ts) s in (still_pursued t p.0, (λ e. still_pursued_first ts (p.1 (sym (outcome_todo t) ∙ e))))

still_after : (o : Option Todo) → is_open (outcome_after o) ≡ false → Still o
still_after (Some (Put l k)) e = cc
still_after (Some (Wait m)) e = cc
still_after (Some (Settled b)) e = tt
still_after None e = cc

pub settled_pursued : (t : Tree) → is_open (outcome t) ≡ false → Pursued t
settled_pursued t e = still_pursued t (still_after (todo t) (ap is_open (sym (outcome_todo t)) ∙ e))
