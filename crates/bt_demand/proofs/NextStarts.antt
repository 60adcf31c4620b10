-- What is next is the first of what may start.
use Rattle.std.proofs.Common.{◌≡◌, ℕ, Bool, true, false, List, [], ◌∷◌, ◌++◌, Option, Some, None, refl, ap, ◌∙◌}
use Rattle.std.specs.Prelude.{if◌then◌else◌}
use Rattle.bt_demand.specs.Next.{todo, todo_of_all, todo_of_first, both, fallback, todo_of_leaf, todo_of_hold}
use Rattle.bt_demand.specs.Outcomes.{is_lost, outcome, outcome_of_all, outcome_of_first, outcome_of_both, outcome_or_else, outcome_of_hold, outcome_of_state}
use Rattle.bt_demand.specs.Startable.{Start, put, wait, put_if_untried, starts_at_hold, startable, startable_in, startable_after_lost, first_to_start}
use Rattle.bt_demand.specs.Tree.{Tree, Trees, leaf, drop, reject, all, first, hold, none, more}
use Rattle.bt_demand.specs.declared.demand.Stage.{Stage}
use Rattle.bt_demand.specs.declared.demand.Stage.TheVariants.{Untried as Idle, Waiting, Released}
use Rattle.bt_demand.specs.declared.demand.State.{State}
use Rattle.bt_demand.specs.declared.demand.State.TheVariants.{Untried as Fresh, Good, Bad}
use Rattle.bt_demand.specs.declared.outcome.Outcome.{Outcome}
use Rattle.bt_demand.specs.declared.outcome.Outcome.TheVariants.{Open, Met, Lost}
use Rattle.bt_demand.specs.declared.todo.Todo.{Todo}
use Rattle.bt_demand.specs.declared.todo.Todo.TheVariants.{Settled}
use Rattle.bt_demand.proofs.Outcomes.{outcome-lost}

leaf-first : (n k : ℕ) (s : State) → todo_of_leaf n k s ≡ first_to_start (put_if_untried n k s) (outcome_of_state s)
leaf-first n k Fresh = refl
leaf-first n k Good = refl
leaf-first n k Bad = refl

hold-first : (n : ℕ) (g : Stage) (xs : List Start) (o : Outcome) → todo_of_hold n g (first_to_start xs o) ≡ first_to_start (starts_at_hold n g xs) (outcome_of_hold g o)
hold-first n Idle xs o = refl
hold-first n Waiting xs o = refl
hold-first n Released xs o = refl

none-both : (ys : List Start) (b : Outcome) → both None (first_to_start ys b) ≡ first_to_start ys (outcome_of_both Open b)
none-both (put l k ∷ ys) b = refl
none-both (wait n ∷ ys) b = refl
none-both [] Open = refl
none-both [] Met = refl
none-both [] Lost = refl

met-both : (ys : List Start) (b : Outcome) → both (Some (Settled true)) (first_to_start ys b) ≡ first_to_start ys (outcome_of_both Met b)
met-both (put l k ∷ ys) b = refl
met-both (wait n ∷ ys) b = refl
met-both [] Open = refl
met-both [] Met = refl
met-both [] Lost = refl

lost-both : (ys : List Start) (b : Outcome) → both (Some (Settled false)) (first_to_start ys b) ≡ first_to_start ys (outcome_of_both Lost b)
lost-both (put l k ∷ ys) b = refl
lost-both (wait n ∷ ys) b = refl
lost-both [] Open = refl
lost-both [] Met = refl
lost-both [] Lost = refl

both-first : (xs ys : List Start) (a b : Outcome) → both (first_to_start xs a) (first_to_start ys b) ≡ first_to_start (xs ++ ys) (outcome_of_both a b)
both-first (put l k ∷ xs) ys a b = refl
both-first (wait n ∷ xs) ys a b = refl
both-first [] ys Open b = none-both ys b
both-first [] ys Met b = met-both ys b
both-first [] ys Lost b = lost-both ys b

else-first : (xs ys : List Start) (a b : Outcome) → fallback (first_to_start xs a) (first_to_start ys b) ≡ first_to_start (xs ++ (if is_lost a then ys else [])) (outcome_or_else a b)
else-first (put l k ∷ xs) ys a b = refl
else-first (wait n ∷ xs) ys a b = refl
else-first [] ys Open b = refl
else-first [] ys Met b = refl
else-first [] ys Lost b = refl

else-step : (p q : Option Todo) (xs ys : List Start) (a b : Outcome) (l : Bool) → p ≡ first_to_start xs a → q ≡ first_to_start ys b → is_lost a ≡ l → fallback p q ≡ first_to_start (xs ++ (if l then ys else [])) (outcome_or_else a b)
else-step p q xs ys a b l h k j = rw (h, k, ← j) (else-first xs ys a b)

mutual
  pub next-first : (t : Tree) → todo t ≡ first_to_start (startable t) (outcome t)
  next-first (leaf n k b s) = leaf-first n k s
  next-first drop = refl
  next-first (reject w) = refl
  next-first (all ts) = next-first-of-all ts
  next-first (first ts) = next-first-of-first ts
  next-first (hold n e z c g) = ap (todo_of_hold n g) (next-first c) ∙ hold-first n g (startable c) (outcome c)

  next-first-of-all : (ts : Trees) → todo_of_all ts ≡ first_to_start (startable_in ts) (outcome_of_all ts)
  next-first-of-all none = refl
  next-first-of-all (more t ts) =
      rw (next-first t, next-first-of-all ts) (both-first (startable t) (startable_in ts) (outcome t) (outcome_of_all ts))

  next-first-of-first : (ts : Trees) → todo_of_first ts ≡ first_to_start (startable_after_lost ts) (outcome_of_first ts)
  next-first-of-first none = refl
  next-first-of-first (more t ts) = else-step _ _ _ _ _ _ _ (next-first t) (next-first-of-first ts) (outcome-lost t)
