-- What each step makes of a tree. Each recurses below holds too, and changes nothing that another step settled.
use Rattle.std.specs.Prelude.{ℕ, Bool, true, false, cond, eqb}
use Rattle.bt_demand.specs.Tree.{Tree, Trees, leaf, drop, reject, all, first, hold, none, more}
use Rattle.bt_demand.specs.declared.demand.Stage.{Stage}
use Rattle.bt_demand.specs.declared.demand.Stage.TheVariants.{Untried as Idle, Waiting, Released}
use Rattle.bt_demand.specs.declared.demand.State.{State}
use Rattle.bt_demand.specs.declared.demand.State.TheVariants.{Untried, Good, Bad}

abbrev pub state_for : Bool → State
state_for true = Good
state_for false = Bad

-- the state of a leaf after its outcome: a settled one stays
abbrev pub settles : State → State → State
settles s Untried = s
settles s Good = Good
settles s Bad = Bad

-- the leaf of that number in that state, where it was untried
abbrev mutual
  pub settle : ℕ → State → Tree → Tree
  settle l s (leaf n k b x) = leaf n k b (cond (eqb n l) (settles s x) x)
  settle l s drop = drop
  settle l s (reject w) = reject w
  settle l s (all ts) = all (settle_each l s ts)
  settle l s (first ts) = first (settle_each l s ts)
  settle l s (hold n e z c g) = hold n e z (settle l s c) g

  pub settle_each : ℕ → State → Trees → Trees
  settle_each l s none = none
  settle_each l s (more t ts) = more (settle l s t) (settle_each l s ts)

abbrev pub waits : Stage → Stage
waits Idle = Waiting
waits Waiting = Waiting
waits Released = Released

abbrev pub releases : Stage → Stage
releases Idle = Idle
releases Waiting = Released
releases Released = Released

-- the hold of that number waits, where it was untried
abbrev mutual
  pub wait : ℕ → Tree → Tree
  wait l (leaf n k b x) = leaf n k b x
  wait l drop = drop
  wait l (reject w) = reject w
  wait l (all ts) = all (wait_each l ts)
  wait l (first ts) = first (wait_each l ts)
  wait l (hold n e z c g) = hold n e z (wait l c) (cond (eqb n l) (waits g) g)

  pub wait_each : ℕ → Trees → Trees
  wait_each l none = none
  wait_each l (more t ts) = more (wait l t) (wait_each l ts)

-- the hold of that number is released, where it waited
abbrev mutual
  pub release : ℕ → Tree → Tree
  release l (leaf n k b x) = leaf n k b x
  release l drop = drop
  release l (reject w) = reject w
  release l (all ts) = all (release_each l ts)
  release l (first ts) = first (release_each l ts)
  release l (hold n e z c g) = hold n e z (release l c) (cond (eqb n l) (releases g) g)

  pub release_each : ℕ → Trees → Trees
  release_each l none = none
  release_each l (more t ts) = more (release l t) (release_each l ts)
