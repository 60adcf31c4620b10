-- A tree that agrees with the records of its leaves is settled as the records say.
use Rattle.std.proofs.Common.{◌≡◌, ℕ, Bool, true, false, cond, eqb, Some, inl, inr, refl, sym, ap, ◌∙◌}
use Rattle.std.proofs.lemmas.Bool.{eqb-true}
use Rattle.bt_demand.specs.Tree.{Tree, Trees, leaf, drop, reject, all, first, hold, none, more}
use Rattle.bt_demand.specs.Outcomes.{outcome, outcome_of_all, outcome_of_first, outcome_of_hold, outcome_of_state}
use Rattle.bt_demand.specs.declared.outcome.Outcome.{Outcome}
use Rattle.bt_demand.specs.declared.outcome.Outcome.TheVariants.{Open, Met, Lost}
use Rattle.bt_demand.specs.Recorded.{recorded, recorded_in, untried, untried_in, Agree, AgreeAll, with_record, Grows}
use Rattle.bt_demand.specs.Steps.{settle, settle_each, settles}
use Rattle.bt_demand.specs.Next.{todo, todo_of_all, todo_of_first, todo_of_leaf}
use Rattle.bt_demand.proofs.Starts.{both-puts, else-puts, hold-put}
use Rattle.bt_demand.specs.declared.todo.Todo.TheVariants.{Put}
use Rattle.bt_demand.specs.declared.demand.State.{State}
use Rattle.bt_demand.specs.declared.demand.State.TheVariants.{Untried as Fresh, Good, Bad}
use Rattle.bt_demand.specs.declared.demand.Stage.{Stage}
use Rattle.bt_demand.specs.declared.demand.Stage.TheVariants.{Untried as Idle, Waiting, Released}
use Rattle.bt_demand.specs.Outcomes.{met, lost, is_met, is_lost}
use Rattle.bt_demand.proofs.Outcomes.{outcome-met, outcome-lost}
use Rattle.bt_demand.proofs.Flushing.{all_grows, first_grows}

mutual
  pub recorded-untried : (look : ℕ → State) (t : Tree) → recorded look (untried t) ≡ recorded look t
  recorded-untried look (leaf n k b x) = refl
  recorded-untried look drop = refl
  recorded-untried look (reject w) = refl
  recorded-untried look (all ts) = ap all (recorded_in-untried look ts)
  recorded-untried look (first ts) = ap first (recorded_in-untried look ts)
  recorded-untried look (hold m e z c g) = ap (λ d. hold m e z d Released) (recorded-untried look c)

  pub recorded_in-untried : (look : ℕ → State) (ts : Trees) → recorded_in look (untried_in ts) ≡ recorded_in look ts
  recorded_in-untried look none = refl
  recorded_in-untried look (more t ts) = let a = recorded-untried look t in let b = recorded_in-untried look ts in cc

grows_same : (f : Outcome) → Grows f f
grows_same Open = tt
grows_same Met = refl
grows_same Lost = refl

hold_grows : (g : Stage) (a b : Outcome) → Grows a b → Grows (outcome_of_hold g a) b
hold_grows Idle a b p = tt
hold_grows Waiting a b p = tt
hold_grows Released a b p = p

-- what is settled by its states is settled so by its records
mutual
  pub recorded_grows : (look : ℕ → State) (t : Tree) → Agree look t → Grows (outcome t) (outcome (recorded look t))
  recorded_grows look (leaf n k b x) h = rw (← h) (grows_same (outcome_of_state x))
  recorded_grows look drop h = refl
  recorded_grows look (reject w) h = refl
  recorded_grows look (all ts) h = recorded_in_grows look ts h
  recorded_grows look (first ts) h = recorded_first_grows look ts h
  recorded_grows look (hold m e z c g) h = hold_grows g (outcome c) _ (recorded_grows look c h)

  pub recorded_in_grows : (look : ℕ → State) (ts : Trees) → AgreeAll look ts → Grows (outcome_of_all ts) (outcome_of_all (recorded_in look ts))
  recorded_in_grows look none h = refl
  recorded_in_grows look (more t ts) h = all_grows (outcome t) _ (outcome_of_all ts) _ (recorded_grows look t h.0) (recorded_in_grows look ts h.1)

  pub recorded_first_grows : (look : ℕ → State) (ts : Trees) → AgreeAll look ts → Grows (outcome_of_first ts) (outcome_of_first (recorded_in look ts))
  recorded_first_grows look none h = refl
  recorded_first_grows look (more t ts) h = first_grows (outcome t) _ (outcome_of_first ts) _ (recorded_grows look t h.0) (recorded_first_grows look ts h.1)

settled_leaf : (b : Bool) (s x y : State) → x ≡ y → (b ≡ true → y ≡ Fresh) → cond b (settles s x) x ≡ cond b s y
settled_leaf true s Fresh y e f = refl
settled_leaf true s Good y e f = let h : y ≡ Fresh = f refl in cc
settled_leaf true s Bad y e f = let h : y ≡ Fresh = f refl in cc
settled_leaf false s x y e f = e

mutual
  pub settle_agrees : (look : ℕ → State) (l : ℕ) (s : State) (t : Tree) → look l ≡ Fresh → Agree look t → Agree (with_record look l s) (settle l s t)
  settle_agrees look l s (leaf n k b x) f h = settled_leaf (eqb n l) s x (look n) h (λ e. ap look (eqb-true n l e) ∙ f)
  settle_agrees look l s drop f h = tt
  settle_agrees look l s (reject w) f h = tt
  settle_agrees look l s (all ts) f h = settle_all_agrees look l s ts f h
  settle_agrees look l s (first ts) f h = settle_all_agrees look l s ts f h
  settle_agrees look l s (hold m e z c g) f h = settle_agrees look l s c f h

  pub settle_all_agrees : (look : ℕ → State) (l : ℕ) (s : State) (ts : Trees) → look l ≡ Fresh → AgreeAll look ts → AgreeAll (with_record look l s) (settle_each l s ts)
  settle_all_agrees look l s none f h = tt
  settle_all_agrees look l s (more t ts) f h = (settle_agrees look l s t f h.0, settle_all_agrees look l s ts f h.1)

leaf_fresh : (look : ℕ → State) (n k l j : ℕ) (x : State) → x ≡ look n → todo_of_leaf n k x ≡ Some (Put l j) → look l ≡ Fresh
leaf_fresh look n k l j Fresh h e = let s : n ≡ l = cc in rw (← s) (sym h)
leaf_fresh look n k l j Good h e = cc
leaf_fresh look n k l j Bad h e = cc

-- a leaf that is next has no record
mutual
  pub next_fresh : (look : ℕ → State) (l k : ℕ) (t : Tree) → Agree look t → todo t ≡ Some (Put l k) → look l ≡ Fresh
  next_fresh look l k (leaf n j b x) h e = leaf_fresh look n j l k x h e
  next_fresh look l k drop h e = cc
  next_fresh look l k (reject w) h e = cc
  next_fresh look l k (all ts) h e = next_all_fresh look l k ts h e
  next_fresh look l k (first ts) h e = next_first_fresh look l k ts h e
  next_fresh look l k (hold n e z c g) h i = next_fresh look l k c h (hold-put n g (todo c) l k i).1

  pub next_all_fresh : (look : ℕ → State) (l k : ℕ) (ts : Trees) → AgreeAll look ts → todo_of_all ts ≡ Some (Put l k) → look l ≡ Fresh
  next_all_fresh look l k none h e = cc
  next_all_fresh look l k (more t ts) h e = elim (both-puts (todo t) (todo_of_all ts) l k e) [ inl i ↦ next_fresh look l k t h.0 i | inr i ↦ next_all_fresh look l k ts h.1 i ]

  pub next_first_fresh : (look : ℕ → State) (l k : ℕ) (ts : Trees) → AgreeAll look ts → todo_of_first ts ≡ Some (Put l k) → look l ≡ Fresh
  next_first_fresh look l k none h e = cc
  next_first_fresh look l k (more t ts) h e = elim (else-puts (todo t) (todo_of_first ts) l k e) [ inl i ↦ next_fresh look l k t h.0 i | inr i ↦ next_first_fresh look l k ts h.1 i.1 ]

grows-met : (a b : Outcome) → Grows a b → is_met a ≡ true → is_met b ≡ true
grows-met Open b g e = cc
grows-met Met b g e = rw g refl
grows-met Lost b g e = cc

grows-lost : (a b : Outcome) → Grows a b → is_lost a ≡ true → is_lost b ≡ true
grows-lost Open b g e = cc
grows-lost Met b g e = cc
grows-lost Lost b g e = rw g refl

-- what is met by the states is met by the records
pub met-recorded : (look : ℕ → State) (t : Tree) → Agree look t → met t ≡ true → met (recorded look t) ≡ true
met-recorded look t h e = sym (outcome-met (recorded look t)) ∙ grows-met _ _ (recorded_grows look t h) (outcome-met t ∙ e)

-- what is lost by the states is lost by the records
pub lost-recorded : (look : ℕ → State) (t : Tree) → Agree look t → lost t ≡ true → lost (recorded look t) ≡ true
lost-recorded look t h e = sym (outcome-lost (recorded look t)) ∙ grows-lost _ _ (recorded_grows look t h) (outcome-lost t ∙ e)
