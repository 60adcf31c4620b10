-- While the holds from number n on are released, no hold up to n begins to wait.
use Rattle.std.proofs.Common.{◌≡◌, ℕ, ◌<◌, ◌≤◌, true, false, Option, Some, None, ◌⊎◌, inl, inr, arith, refl, sym, ap, ◌∙◌}
use Rattle.std.proofs.lemmas.Bool.{cases_lt}
use Rattle.bt_demand.specs.Tree.{Tree, Trees, leaf, drop, reject, all, first, hold, none, more}
use Rattle.bt_demand.specs.Outcomes.{outcome, outcome_of_all, outcome_of_first, outcome_of_both, outcome_or_else, outcome_of_hold, outcome_of_state}
use Rattle.bt_demand.specs.declared.outcome.Outcome.{Outcome}
use Rattle.bt_demand.specs.declared.outcome.Outcome.TheVariants.{Open, Met, Lost}
use Rattle.bt_demand.specs.Flushing.{StateMoves, StageMoves, Moves, MovesAll, moves_leaf, moves_drop, moves_reject, moves_all, moves_first, moves_hold, moves_none, moves_more, IsHeld, Stuck, StuckAll, StuckFirst, IdleAbove, Late, LateAll, LateFirst, Still, High, HighAll, Has, HasAny, InOrder, InOrderAll, InOrderFirst}
use Rattle.bt_demand.specs.Recorded.{Grows}
use Rattle.bt_demand.specs.Next.{todo, todo_of_all, todo_of_first, both, fallback, todo_of_leaf, todo_of_hold, outcome_after}
use Rattle.bt_demand.proofs.Starts.{both-waits, else-waits, leaf-never-waits}
use Rattle.bt_demand.specs.declared.todo.Todo.{Todo}
use Rattle.bt_demand.specs.declared.todo.Todo.TheVariants.{Put, Wait, Settled}
use Rattle.bt_demand.specs.declared.demand.State.{State}
use Rattle.bt_demand.specs.declared.demand.State.TheVariants.{Untried as Fresh, Good, Bad}
use Rattle.bt_demand.specs.declared.demand.Stage.{Stage}
use Rattle.bt_demand.specs.declared.demand.Stage.TheVariants.{Untried as Idle, Waiting, Released}
use Rattle.bt_demand.proofs.NextSettles.{outcome_todo}

pub all_grows : (a c b d : Outcome) → Grows a c → Grows b d → Grows (outcome_of_both a b) (outcome_of_both c d)
all_grows Open c b d p q = tt
all_grows Met c b d p q = rw p q
all_grows Lost c Open d p q = tt
all_grows Lost c Met d p q = rw (p, q) refl
all_grows Lost c Lost d p q = rw (p, q) refl

pub first_grows : (a c b d : Outcome) → Grows a c → Grows b d → Grows (outcome_or_else a b) (outcome_or_else c d)
first_grows Open c b d p q = tt
first_grows Met c b d p q = rw p refl
first_grows Lost c b d p q = rw p q

state_grows : (x y : State) → StateMoves x y → Grows (outcome_of_state x) (outcome_of_state y)
state_grows Fresh y p = tt
state_grows Good y p = rw p refl
state_grows Bad y p = rw p refl

stage_grows : (n m : ℕ) (g h : Stage) (a c : Outcome) → StageMoves n m g h → Grows a c → Grows (outcome_of_hold g a) (outcome_of_hold h c)
stage_grows n m Idle h a c p q = tt
stage_grows n m Waiting h a c p q = tt
stage_grows n m Released Idle a c p q = absurd p
stage_grows n m Released Waiting a c p q = absurd p
stage_grows n m Released Released a c p q = q

mutual
  pub outcome_grows : (n : ℕ) (t u : Tree) → Moves n t u → Grows (outcome t) (outcome u)
  outcome_grows n _ _ (moves_leaf l k b x y p) = state_grows x y p
  outcome_grows n _ _ moves_drop = refl
  outcome_grows n _ _ (moves_reject w) = refl
  outcome_grows n _ _ (moves_all ts us p) = outcome_of_all_grows n ts us p
  outcome_grows n _ _ (moves_first ts us p) = outcome_of_first_grows n ts us p
  outcome_grows n _ _ (moves_hold m e z c d g h p q) = stage_grows n m g h (outcome c) (outcome d) q (outcome_grows n c d p)

  pub outcome_of_all_grows : (n : ℕ) (ts us : Trees) → MovesAll n ts us → Grows (outcome_of_all ts) (outcome_of_all us)
  outcome_of_all_grows n _ _ moves_none = refl
  outcome_of_all_grows n _ _ (moves_more t u ts us p q) = all_grows (outcome t) (outcome u) _ _ (outcome_grows n t u p) (outcome_of_all_grows n ts us q)

  pub outcome_of_first_grows : (n : ℕ) (ts us : Trees) → MovesAll n ts us → Grows (outcome_of_first ts) (outcome_of_first us)
  outcome_of_first_grows n _ _ moves_none = refl
  outcome_of_first_grows n _ _ (moves_more t u ts us p q) = first_grows (outcome t) (outcome u) _ _ (outcome_grows n t u p) (outcome_of_first_grows n ts us q)

held_stays : (n m : ℕ) (g h : Stage) → StageMoves n m g h → IsHeld n m g → IsHeld n m h
held_stays n m Idle h p q = absurd q
held_stays n m Waiting Idle p q = absurd p
held_stays n m Waiting Waiting p q = q
held_stays n m Waiting Released p q = absurd (omega arith)
held_stays n m Released h p q = absurd q

pub lost_stays : (a b : Outcome) → Grows a b → a ≡ Lost → b ≡ Lost
lost_stays Open b p e = cc
lost_stays Met b p e = cc
lost_stays Lost b p e = p

met_stays : (a b : Outcome) → Grows a b → a ≡ Met → b ≡ Met
met_stays Open b p e = cc
met_stays Met b p e = p
met_stays Lost b p e = cc

mutual
  pub stuck_stays : (n : ℕ) (t u : Tree) → Moves n t u → Stuck n t → Stuck n u
  stuck_stays n _ _ (moves_leaf l k b x y p) s = absurd s
  stuck_stays n _ _ moves_drop s = absurd s
  stuck_stays n _ _ (moves_reject w) s = absurd s
  stuck_stays n _ _ (moves_all ts us p) s = stuck_all_stays n ts us p s
  stuck_stays n _ _ (moves_first ts us p) s = stuck_first_stays n ts us p s
  stuck_stays n _ _ (moves_hold m e z c d g h p q) s = held_stays n m g h q s

  pub stuck_all_stays : (n : ℕ) (ts us : Trees) → MovesAll n ts us → StuckAll n ts → StuckAll n us
  stuck_all_stays n _ _ moves_none s = absurd s
  stuck_all_stays n _ _ (moves_more t u ts us p q) (inl s) = inl (stuck_stays n t u p s)
  stuck_all_stays n _ _ (moves_more t u ts us p q) (inr s) = inr (stuck_all_stays n ts us q s)

  pub stuck_first_stays : (n : ℕ) (ts us : Trees) → MovesAll n ts us → StuckFirst n ts → StuckFirst n us
  stuck_first_stays n _ _ moves_none s = absurd s
  stuck_first_stays n _ _ (moves_more t u ts us p q) (inl s) = inl (stuck_stays n t u p s)
  stuck_first_stays n _ _ (moves_more t u ts us p q) (inr s) = inr (lost_stays (outcome t) (outcome u) (outcome_grows n t u p) s.0, stuck_first_stays n ts us q s.1)

idle_stays : (n m : ℕ) (g h : Stage) → StageMoves n m g h → IdleAbove n m g → IdleAbove n m h
idle_stays n m Idle Idle p q = q
idle_stays n m Idle Waiting p q = tt
idle_stays n m Idle Released p q = tt
idle_stays n m Waiting Idle p q = absurd p
idle_stays n m Waiting Waiting p q = tt
idle_stays n m Waiting Released p q = tt
idle_stays n m Released Idle p q = absurd p
idle_stays n m Released Waiting p q = tt
idle_stays n m Released Released p q = tt

mutual
  pub late_stays : (n : ℕ) (t u : Tree) → Moves n t u → Late n t → Late n u
  late_stays n _ _ (moves_leaf l k b x y p) s = tt
  late_stays n _ _ moves_drop s = tt
  late_stays n _ _ (moves_reject w) s = tt
  late_stays n _ _ (moves_all ts us p) s = late_all_stays n ts us p s
  late_stays n _ _ (moves_first ts us p) s = late_first_stays n ts us p s
  late_stays n _ _ (moves_hold m e z c d g h p q) s = (idle_stays n m g h q s.0, late_stays n c d p s.1)

  pub late_all_stays : (n : ℕ) (ts us : Trees) → MovesAll n ts us → LateAll n ts → LateAll n us
  late_all_stays n _ _ moves_none s = tt
  late_all_stays n _ _ (moves_more t u ts us p q) s = (late_stays n t u p s.0, late_all_stays n ts us q s.1)

  pub late_first_stays : (n : ℕ) (ts us : Trees) → MovesAll n ts us → LateFirst n ts → LateFirst n us
  late_first_stays n _ _ moves_none s = tt
  late_first_stays n _ _ (moves_more t u ts us p q) (s, inl e) = (late_stays n t u p s, inl (met_stays (outcome t) (outcome u) (outcome_grows n t u p) e))
  late_first_stays n _ _ (moves_more t u ts us p q) (s, inr (inl e)) = (late_stays n t u p s, inr (inl (stuck_stays n t u p e)))
  late_first_stays n _ _ (moves_more t u ts us p q) (s, inr (inr e)) = (late_stays n t u p s, inr (inr (late_first_stays n ts us q e)))

all_open : (a : Outcome) → outcome_of_both a Open ≡ Open
all_open Open = refl
all_open Met = refl
all_open Lost = refl

held_open : (n m : ℕ) (g : Stage) (f : Outcome) → IsHeld n m g → outcome_of_hold g f ≡ Open
held_open n m Idle f h = absurd h
held_open n m Waiting f h = refl
held_open n m Released f h = absurd h

mutual
  pub stuck_open : (n : ℕ) (t : Tree) → Stuck n t → outcome t ≡ Open
  stuck_open n (leaf l k b x) s = absurd s
  stuck_open n drop s = absurd s
  stuck_open n (reject w) s = absurd s
  stuck_open n (all ts) s = stuck_all_open n ts s
  stuck_open n (first ts) s = stuck_first_open n ts s
  stuck_open n (hold m e z c g) s = held_open n m g (outcome c) s

  pub stuck_all_open : (n : ℕ) (ts : Trees) → StuckAll n ts → outcome_of_all ts ≡ Open
  stuck_all_open n none s = absurd s
  stuck_all_open n (more t ts) (inl s) = rw (stuck_open n t s) refl
  stuck_all_open n (more t ts) (inr s) = rw (stuck_all_open n ts s) (all_open (outcome t))

  pub stuck_first_open : (n : ℕ) (ts : Trees) → StuckFirst n ts → outcome_of_first ts ≡ Open
  stuck_first_open n none s = absurd s
  stuck_first_open n (more t ts) (inl s) = rw (stuck_open n t s) refl
  stuck_first_open n (more t ts) (inr s) = rw s.0 (stuck_first_open n ts s.1)

hold_waits : (n m l : ℕ) (g : Stage) (r : Option Todo) → todo_of_hold m g r ≡ Some (Wait l) → IdleAbove n m g → (r ≡ Some (Wait l) → n < l) → n < l
hold_waits n m l Idle r e h f = let s : m ≡ l = cc in omega arith
hold_waits n m l Waiting r e h f = cc
hold_waits n m l Released r e h f = f e

met_lost : Met ≡ Lost → ⊥
met_lost e = cc

open_lost : Open ≡ Lost → ⊥
open_lost e = cc

-- a hold that begins to wait has a number above n
mutual
  pub late_next : (n m : ℕ) (t : Tree) → Late n t → todo t ≡ Some (Wait m) → n < m
  late_next n m (leaf l k b x) s e = absurd (leaf-never-waits l k m x e)
  late_next n m drop s e = cc
  late_next n m (reject w) s e = cc
  late_next n m (all ts) s e = late_all_next n m ts s e
  late_next n m (first ts) s e = late_first_next n m ts s e
  late_next n m (hold j e z c g) s h = hold_waits n j m g (todo c) h s.0 (λ k. late_next n m c s.1 k)

  pub late_all_next : (n m : ℕ) (ts : Trees) → LateAll n ts → todo_of_all ts ≡ Some (Wait m) → n < m
  late_all_next n m none s e = cc
  late_all_next n m (more t ts) s e = elim (both-waits (todo t) (todo_of_all ts) m e) [ inl h ↦ late_next n m t s.0 h | inr h ↦ late_all_next n m ts s.1 h ]

  pub late_first_next : (n m : ℕ) (ts : Trees) → LateFirst n ts → todo_of_first ts ≡ Some (Wait m) → n < m
  late_first_next n m none s e = cc
  late_first_next n m (more t ts) (s, inr (inr r)) e = elim (else-waits (todo t) (todo_of_first ts) m e) [ inl h ↦ late_next n m t s h | inr h ↦ late_first_next n m ts r h.1 ]
  late_first_next n m (more t ts) (s, inl r) e = elim (else-waits (todo t) (todo_of_first ts) m e) [ inl h ↦ late_next n m t s h | inr h ↦ (let k = outcome_todo t in let j = ap outcome_after h.0 in absurd (met_lost (sym r ∙ k ∙ j))) ]
  late_first_next n m (more t ts) (s, inr (inl r)) e = elim (else-waits (todo t) (todo_of_first ts) m e) [ inl h ↦ late_next n m t s h | inr h ↦ (let k = outcome_todo t in let j = ap outcome_after h.0 in absurd (open_lost (sym (stuck_open n t r) ∙ k ∙ j))) ]

pub both_still : (a b : Option Todo) → Still (both a b) → Still a × Still b
both_still (Some (Put l k)) b s = absurd s
both_still (Some (Wait m)) b s = absurd s
both_still (Some (Settled x)) (Some (Put l k)) s = absurd s
both_still (Some (Settled x)) (Some (Wait m)) s = absurd s
both_still (Some (Settled x)) (Some (Settled y)) s = (tt, tt)
both_still (Some (Settled x)) None s = (tt, tt)
both_still None (Some (Put l k)) s = absurd s
both_still None (Some (Wait m)) s = absurd s
both_still None (Some (Settled y)) s = (tt, tt)
both_still None None s = (tt, tt)

pub fallback_still : (a b : Option Todo) → Still (fallback a b) → Still a × (outcome_after a ≡ Lost → Still b)
fallback_still (Some (Put l k)) b s = absurd s
fallback_still (Some (Wait m)) b s = absurd s
fallback_still (Some (Settled true)) b s = (tt, λ e. absurd (met_lost e))
fallback_still (Some (Settled false)) b s = (tt, λ e. s)
fallback_still None b s = (tt, λ e. absurd (open_lost e))

high_idle : (n m : ℕ) (g : Stage) → n < m → IdleAbove n m g
high_idle n m Idle h = h
high_idle n m Waiting h = tt
high_idle n m Released h = tt

mutual
  high_late : (n : ℕ) (t : Tree) → High n t → Late n t
  high_late n (leaf l k b x) h = tt
  high_late n drop h = tt
  high_late n (reject w) h = tt
  high_late n (all ts) h = high_late_all n ts h
  high_late n (first ts) h = high_late_first n ts h
  high_late n (hold m e z c g) h = (high_idle n m g h.0, high_late n c h.1)

  high_late_all : (n : ℕ) (ts : Trees) → HighAll n ts → LateAll n ts
  high_late_all n none h = tt
  high_late_all n (more t ts) h = (high_late n t h.0, high_late_all n ts h.1)

  high_late_first : (n : ℕ) (ts : Trees) → HighAll n ts → LateFirst n ts
  high_late_first n none h = tt
  high_late_first n (more t ts) h = (high_late n t h.0, inr (inr (high_late_first n ts h.1)))

mutual
  high_lower : (n m : ℕ) (t : Tree) → n ≤ m → High m t → High n t
  high_lower n m (leaf l k b x) p h = tt
  high_lower n m drop p h = tt
  high_lower n m (reject w) p h = tt
  high_lower n m (all ts) p h = high_all_lower n m ts p h
  high_lower n m (first ts) p h = high_all_lower n m ts p h
  high_lower n m (hold j e z c g) p h = (omega (arith, h.0), high_lower n m c p h.1)

  high_all_lower : (n m : ℕ) (ts : Trees) → n ≤ m → HighAll m ts → HighAll n ts
  high_all_lower n m none p h = tt
  high_all_lower n m (more t ts) p h = (high_lower n m t p h.0, high_all_lower n m ts p h.1)

pub all_open_parts : (a b : Outcome) → outcome_of_both a b ≡ Open → (a ≡ Open) ⊎ (b ≡ Open)
all_open_parts Open b e = inl refl
all_open_parts Met b e = inr e
all_open_parts Lost Open e = inr refl
all_open_parts Lost Met e = cc
all_open_parts Lost Lost e = cc

pub first_open_parts : (a b : Outcome) → outcome_or_else a b ≡ Open → (a ≡ Open) ⊎ ((a ≡ Lost) × (b ≡ Open))
first_open_parts Open b e = inl refl
first_open_parts Met b e = cc
first_open_parts Lost b e = inr (refl, e)

pub leaf_still : (l k : ℕ) (x : State) → Still (todo_of_leaf l k x) → outcome_of_state x ≡ Open → ⊥
leaf_still l k Fresh s e = absurd s
leaf_still l k Good s e = cc
leaf_still l k Bad s e = cc

hold_open : (n m : ℕ) (c : Tree) (g : Stage) → Still (todo_of_hold m g (todo c)) → outcome_of_hold g (outcome c) ≡ Open → ((Still (todo c)) → outcome c ≡ Open → (j : ℕ) × (Has j c × (j < n → Stuck n c))) → ((k : ℕ) → Has k c → ⊥) → (m < n → IsHeld n m g)
hold_open n m c Idle s e f none_below h = absurd s
hold_open n m c Waiting s e f none_below h = h
hold_open n m c Released s e f none_below h = let w = f s e in absurd (none_below w.0 w.1.0)

mutual
  none_in_order : (t : Tree) → ((m : ℕ) → Has m t → ⊥) → InOrder t
  none_in_order (leaf l k b x) h = tt
  none_in_order drop h = tt
  none_in_order (reject w) h = tt
  none_in_order (all ts) h = none_in_order_all ts h
  none_in_order (first ts) h = none_in_order_first ts h
  none_in_order (hold j e z c g) h = λ m w. h m (inr w)

  none_in_order_all : (ts : Trees) → ((m : ℕ) → HasAny m ts → ⊥) → InOrderAll ts
  none_in_order_all none h = tt
  none_in_order_all (more t ts) h = (none_in_order t (λ m w. h m (inl w)), none_in_order_all ts (λ m w. h m (inr w)))

  none_in_order_first : (ts : Trees) → ((m : ℕ) → HasAny m ts → ⊥) → InOrderFirst ts
  none_in_order_first none h = tt
  none_in_order_first (more t ts) h = (none_in_order t (λ m w. h m (inl w)), (λ m w. absurd (h m (inl w))), none_in_order_first ts (λ m w. h m (inr w)))

-- a demand that is open, in which nothing can begin, waits in a hold
mutual
  pub open_waits : (n : ℕ) (t : Tree) → InOrder t → Still (todo t) → outcome t ≡ Open → (m : ℕ) × (Has m t × (m < n → Stuck n t))
  open_waits n (leaf l k b x) o s e = absurd (leaf_still l k x s e)
  open_waits n drop o s e = cc
  open_waits n (reject w) o s e = cc
  open_waits n (all ts) o s e = open_waits_all n ts o s e
  open_waits n (first ts) o s e = open_waits_first n ts o s e
  open_waits n (hold m f z c g) o s e = (m, (inl refl, hold_open n m c g s e (λ a b. open_waits n c (none_in_order c o) a b) o))

  pub open_waits_all : (n : ℕ) (ts : Trees) → InOrderAll ts → Still (todo_of_all ts) → outcome_of_all ts ≡ Open → (m : ℕ) × (HasAny m ts × (m < n → StuckAll n ts))
  open_waits_all n none o s e = cc
  open_waits_all n (more t ts) o s e =
      let p = both_still (todo t) (todo_of_all ts) s in
      elim (all_open_parts (outcome t) (outcome_of_all ts) e) [
        | inl h ↦ (let w = open_waits n t o.0 p.0 h in (w.0, (inl w.1.0, λ b. inl (w.1.1 b))))
        | inr h ↦ (let w = open_waits_all n ts o.1 p.1 h in (w.0, (inr w.1.0, λ b. inr (w.1.1 b))))
      ]

  pub open_waits_first : (n : ℕ) (ts : Trees) → InOrderFirst ts → Still (todo_of_first ts) → outcome_of_first ts ≡ Open → (m : ℕ) × (HasAny m ts × (m < n → StuckFirst n ts))
  open_waits_first n none o s e = cc
  open_waits_first n (more t ts) o s e =
      let p = fallback_still (todo t) (todo_of_first ts) s in
      elim (first_open_parts (outcome t) (outcome_of_first ts) e) [
        | inl h ↦ (let w = open_waits n t o.0 p.0 h in (w.0, (inl w.1.0, λ b. inl (w.1.1 b))))
        | inr h ↦ (let w = open_waits_first n ts o.2 (p.1 (sym (outcome_todo t) ∙ h.0)) h.1 in (w.0, (inr w.1.0, λ b. inr (h.0, w.1.1 b))))
      ]

outcome_cases : (f : Outcome) → (f ≡ Open) ⊎ ((f ≡ Met) ⊎ (f ≡ Lost))
outcome_cases Open = inl refl
outcome_cases Met = inr (inl refl)
outcome_cases Lost = inr (inr refl)

stage_still : (n m : ℕ) (g : Stage) (r : Option Todo) → Still (todo_of_hold m g r) → IdleAbove n m g
stage_still n m Idle r s = absurd s
stage_still n m Waiting r s = tt
stage_still n m Released r s = tt

mutual
  none_high : (n : ℕ) (t : Tree) → ((m : ℕ) → Has m t → ⊥) → High n t
  none_high n (leaf l k b x) h = tt
  none_high n drop h = tt
  none_high n (reject w) h = tt
  none_high n (all ts) h = none_high_all n ts h
  none_high n (first ts) h = none_high_all n ts h
  none_high n (hold j e z c g) h = absurd (h j (inl refl))

  none_high_all : (n : ℕ) (ts : Trees) → ((m : ℕ) → HasAny m ts → ⊥) → HighAll n ts
  none_high_all n none h = tt
  none_high_all n (more t ts) h = (none_high n t (λ m w. h m (inl w)), none_high_all n ts (λ m w. h m (inr w)))

child_late : (n : ℕ) (c : Tree) → ((m : ℕ) → Has m c → ⊥) → Late n c
child_late n c h = high_late n c (none_high n c h)

-- in a demand in which nothing can begin, no hold up to n can begin while those from n on are released
mutual
  pub late_still : (n : ℕ) (t : Tree) → InOrder t → Still (todo t) → Late n t
  late_still n (leaf l k b x) o s = tt
  late_still n drop o s = tt
  late_still n (reject w) o s = tt
  late_still n (all ts) o s = late_still_all n ts o s
  late_still n (first ts) o s = late_still_first n ts o s
  late_still n (hold m e z c g) o s = (stage_still n m g (todo c) s, child_late n c o)

  pub late_still_all : (n : ℕ) (ts : Trees) → InOrderAll ts → Still (todo_of_all ts) → LateAll n ts
  late_still_all n none o s = tt
  late_still_all n (more t ts) o s = let p = both_still (todo t) (todo_of_all ts) s in (late_still n t o.0 p.0, late_still_all n ts o.1 p.1)

  pub late_still_first : (n : ℕ) (ts : Trees) → InOrderFirst ts → Still (todo_of_first ts) → LateFirst n ts
  late_still_first n none o s = tt
  late_still_first n (more t ts) o s =
      let p = fallback_still (todo t) (todo_of_first ts) s in (
        late_still n t o.0 p.0,
        elim (outcome_cases (outcome t)) [
          | inl h ↦ (let w = open_waits n t o.0 p.0 h in elim (cases_lt w.0 n) [ inl b ↦ inr (inl (w.1.1 b)) | inr b ↦ inr (inr (high_late_first n ts (high_all_lower n w.0 ts b (o.1 w.0 w.1.0)))) ])
          | inr (inl h) ↦ inl h
          | inr (inr h) ↦ inr (inr (late_still_first n ts o.2 (p.1 (sym (outcome_todo t) ∙ h))))
        ],
      )
