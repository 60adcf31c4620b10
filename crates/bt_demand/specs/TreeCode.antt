-- A tree as a list of steps that build it, so that a type's `Model` may have trees in its value.
use Rattle.std.specs.Prelude.{◌≡◌, ℕ, Bool, List, [], ◌∷◌, refl}
use Rattle.std.proofs.Common.{◌⊎◌, inl, inr, ap, ◌∙◌}
use Rattle.std.specs.Coded.{Coded, code_by, coded×, coded⊎, coded_ℕ, coded_bool, coded_list}
use base.Stored.{coded_unit}
use Rattle.bt_demand.specs.Tree.{Tree, Trees, leaf, drop, reject, all, first, hold, none, more}
use Rattle.bt_demand.specs.declared.demand.State.{State}
use Rattle.bt_demand.specs.declared.demand.State.TheVariants.{Untried as Fresh, Good, Bad}
use Rattle.bt_demand.specs.declared.demand.Stage.{Stage}
use Rattle.bt_demand.specs.declared.demand.Stage.TheVariants.{Untried as Idle, Waiting, Released}

abbrev Three : Type 0
Three = Unit {0} ⊎ (Unit {0} ⊎ Unit {0})

abbrev coded_three : Coded Three
coded_three = coded⊎ coded_unit (coded⊎ coded_unit coded_unit)

abbrev state_to : State → Three
state_to Fresh = inl tt
state_to Good = inr (inl tt)
state_to Bad = inr (inr tt)

abbrev state_from : Three → State
state_from (inl _) = Fresh
state_from (inr (inl _)) = Good
state_from (inr (inr _)) = Bad

pub state_back : (s : State) → state_from (state_to s) ≡ s
state_back Fresh = refl
state_back Good = refl
state_back Bad = refl

abbrev pub state_code : Coded State
state_code = code_by Three coded_three state_to state_from state_back

abbrev stage_to : Stage → Three
stage_to Idle = inl tt
stage_to Waiting = inr (inl tt)
stage_to Released = inr (inr tt)

abbrev stage_from : Three → Stage
stage_from (inl _) = Idle
stage_from (inr (inl _)) = Waiting
stage_from (inr (inr _)) = Released

pub stage_back : (s : Stage) → stage_from (stage_to s) ≡ s
stage_back Idle = refl
stage_back Waiting = refl
stage_back Released = refl

abbrev pub stage_code : Coded Stage
stage_code = code_by Three coded_three stage_to stage_from stage_back

-- a step: a leaf, a drop, a reject, an all, a first, a hold, an empty list, a longer list
abbrev LeafStep : Type 0
LeafStep = ℕ × (ℕ × (List ℕ × State))

abbrev HoldStep : Type 0
HoldStep = ℕ × (Bool × (ℕ × Stage))

abbrev Step : Type 0
Step = LeafStep ⊎ (Unit {0} ⊎ (List ℕ ⊎ (Unit {0} ⊎ (Unit {0} ⊎ (HoldStep ⊎ (Unit {0} ⊎ Unit {0}))))))

abbrev step_code : Coded Step
step_code =
    coded⊎ (coded× coded_ℕ (coded× coded_ℕ (coded× (coded_list coded_ℕ) state_code)))
    (coded⊎ coded_unit
    (coded⊎ (coded_list coded_ℕ)
    (coded⊎ coded_unit
    (coded⊎ coded_unit
    (coded⊎ (coded× coded_ℕ (coded× coded_bool (coded× coded_ℕ stage_code)))
    (coded⊎ coded_unit coded_unit))))))

-- what is built so far, the newest first; a tree alone is a list of one
abbrev one : Tree → Trees
one t = more t none

abbrev head_or_drop : Trees → Tree
head_or_drop none = drop
head_or_drop (more t ts) = t

abbrev build : Step → List Trees → List Trees
build (inl l) s = one (leaf l.0 l.1.0 l.1.1.0 l.1.1.1) ∷ s
build (inr (inl _)) s = one drop ∷ s
build (inr (inr (inl w))) s = one (reject w) ∷ s
build (inr (inr (inr (inl _)))) [] = []
build (inr (inr (inr (inl _)))) (ts ∷ s) = one (all ts) ∷ s
build (inr (inr (inr (inr (inl _))))) [] = []
build (inr (inr (inr (inr (inl _))))) (ts ∷ s) = one (first ts) ∷ s
build (inr (inr (inr (inr (inr (inl h)))))) [] = []
build (inr (inr (inr (inr (inr (inl h)))))) (ts ∷ s) = one (hold h.0 h.1.0 h.1.1.0 (head_or_drop ts) h.1.1.1) ∷ s
build (inr (inr (inr (inr (inr (inr (inl _))))))) s = none ∷ s
build (inr (inr (inr (inr (inr (inr (inr _))))))) [] = []
build (inr (inr (inr (inr (inr (inr (inr _))))))) (ts ∷ []) = []
build (inr (inr (inr (inr (inr (inr (inr _))))))) (ts ∷ (t ∷ s)) = more (head_or_drop t) ts ∷ s

abbrev run : List Step → List Trees → List Trees
run [] s = s
run (x ∷ xs) s = run xs (build x s)

abbrev mutual
  steps : Tree → List Step → List Step
  steps (leaf n k b s) r = inl (n, (k, (b, s))) ∷ r
  steps drop r = inr (inl tt) ∷ r
  steps (reject w) r = inr (inr (inl w)) ∷ r
  steps (all ts) r = steps_of ts (inr (inr (inr (inl tt))) ∷ r)
  steps (first ts) r = steps_of ts (inr (inr (inr (inr (inl tt)))) ∷ r)
  steps (hold n e z c g) r = steps c (inr (inr (inr (inr (inr (inl (n, (e, (z, g)))))))) ∷ r)

  steps_of : Trees → List Step → List Step
  steps_of none r = inr (inr (inr (inr (inr (inr (inl tt)))))) ∷ r
  steps_of (more t ts) r = steps t (steps_of ts (inr (inr (inr (inr (inr (inr (inr tt)))))) ∷ r))

mutual
  run-steps : (t : Tree) (r : List Step) (s : List Trees) → run (steps t r) s ≡ run r (one t ∷ s)
  run-steps (leaf n k b x) r s = refl
  run-steps drop r s = refl
  run-steps (reject w) r s = refl
  run-steps (all ts) r s = run-steps_of ts _ s
  run-steps (first ts) r s = run-steps_of ts _ s
  run-steps (hold n e z c g) r s = run-steps c _ s

  run-steps_of : (ts : Trees) (r : List Step) (s : List Trees) → run (steps_of ts r) s ≡ run r (ts ∷ s)
  run-steps_of none r s = refl
  run-steps_of (more t ts) r s = run-steps t _ s ∙ run-steps_of ts _ (one t ∷ s)

abbrev first_of_stack : List Trees → Trees
first_of_stack [] = none
first_of_stack (ts ∷ s) = ts

abbrev tree_to : Tree → List Step
tree_to t = steps t []

abbrev tree_from : List Step → Tree
tree_from xs = head_or_drop (first_of_stack (run xs []))

pub tree_back : (t : Tree) → tree_from (tree_to t) ≡ t
tree_back t = ap (λ s. head_or_drop (first_of_stack s)) (run-steps t [] [])

abbrev pub tree_code : Coded Tree
tree_code = code_by (List Step) (coded_list step_code) tree_to tree_from tree_back
