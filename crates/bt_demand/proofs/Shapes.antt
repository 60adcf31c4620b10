-- What each step keeps, and that a demand in which nothing can begin and no hold waits is settled.
use Rattle.std.proofs.Common.{◌≡◌, ℕ, ◌+◌, ◌≤◌, Bool, true, false, ◌||◌, arith, refl, sym, ap, ◌∙◌, inl, inr}
use Rattle.bt_demand.specs.Find.{begun, some_begun, tried, reached}
use Rattle.bt_demand.specs.Flushing.{StateMoves, StageMoves, Moves, MovesAll, moves_leaf, moves_drop, moves_reject, moves_all, moves_first, moves_hold, moves_none, moves_more, Still}
use Rattle.bt_demand.specs.Holding.{one_if, is_waiting, count_holds_in, waiting, is_open}
use Rattle.bt_demand.specs.Next.{todo, todo_of_all, todo_of_first, todo_of_hold}
use Rattle.bt_demand.specs.Outcomes.{outcome, outcome_of_all, outcome_of_first, outcome_of_hold}
use Rattle.bt_demand.specs.Recorded.{untried, untried_in}
use Rattle.bt_demand.specs.Tree.{Tree, Trees, leaf, drop, reject, all, first, hold, none, more}
use Rattle.bt_demand.specs.WellFormed.{leaves, leaves_in, sinks, sinks_in, nodes, nodes_in, IsFlat, AreFlat}
use Rattle.bt_demand.specs.declared.demand.Stage.{Stage}
use Rattle.bt_demand.specs.declared.demand.Stage.TheVariants.{Untried as Idle, Waiting, Released}
use Rattle.bt_demand.specs.declared.demand.State.{State}
use Rattle.bt_demand.specs.declared.demand.State.TheVariants.{Untried as Fresh, Good, Bad}
use Rattle.bt_demand.specs.declared.outcome.Outcome.{Outcome}
use Rattle.bt_demand.specs.declared.outcome.Outcome.TheVariants.{Open, Met, Lost}
use Rattle.bt_demand.proofs.Flushing.{leaf_still, both_still, fallback_still, all_open_parts, first_open_parts}
use Rattle.bt_demand.proofs.NextSettles.{outcome_todo}

mutual
  pub moves-untried : (n : ℕ) (t u : Tree) → Moves n t u → untried u ≡ untried t
  moves-untried n _ _ (moves_leaf l k b x y p) = refl
  moves-untried n _ _ moves_drop = refl
  moves-untried n _ _ (moves_reject w) = refl
  moves-untried n _ _ (moves_all ts us p) = ap all (moves-untried-in n ts us p)
  moves-untried n _ _ (moves_first ts us p) = ap first (moves-untried-in n ts us p)
  moves-untried n _ _ (moves_hold m e z c d g h p q) = ap (λ x. hold m e z x Idle) (moves-untried n c d p)

  moves-untried-in : (n : ℕ) (ts us : Trees) → MovesAll n ts us → untried_in us ≡ untried_in ts
  moves-untried-in n _ _ moves_none = refl
  moves-untried-in n _ _ (moves_more t u ts us p q) = rw (moves-untried n t u p, moves-untried-in n ts us q) refl

mutual
  pub moves-leaves : (n : ℕ) (t u : Tree) → Moves n t u → leaves u ≡ leaves t
  moves-leaves n _ _ (moves_leaf l k b x y p) = refl
  moves-leaves n _ _ moves_drop = refl
  moves-leaves n _ _ (moves_reject w) = refl
  moves-leaves n _ _ (moves_all ts us p) = moves-leaves-in n ts us p
  moves-leaves n _ _ (moves_first ts us p) = moves-leaves-in n ts us p
  moves-leaves n _ _ (moves_hold m e z c d g h p q) = moves-leaves n c d p

  moves-leaves-in : (n : ℕ) (ts us : Trees) → MovesAll n ts us → leaves_in us ≡ leaves_in ts
  moves-leaves-in n _ _ moves_none = refl
  moves-leaves-in n _ _ (moves_more t u ts us p q) = rw (moves-leaves n t u p, moves-leaves-in n ts us q) refl

mutual
  pub moves-sinks : (n : ℕ) (t u : Tree) → Moves n t u → sinks u ≡ sinks t
  moves-sinks n _ _ (moves_leaf l k b x y p) = refl
  moves-sinks n _ _ moves_drop = refl
  moves-sinks n _ _ (moves_reject w) = refl
  moves-sinks n _ _ (moves_all ts us p) = moves-sinks-in n ts us p
  moves-sinks n _ _ (moves_first ts us p) = moves-sinks-in n ts us p
  moves-sinks n _ _ (moves_hold m e z c d g h p q) = moves-sinks n c d p

  moves-sinks-in : (n : ℕ) (ts us : Trees) → MovesAll n ts us → sinks_in us ≡ sinks_in ts
  moves-sinks-in n _ _ moves_none = refl
  moves-sinks-in n _ _ (moves_more t u ts us p q) = rw (moves-sinks n t u p, moves-sinks-in n ts us q) refl

mutual
  pub moves-nodes : (n : ℕ) (t u : Tree) → Moves n t u → nodes u ≡ nodes t
  moves-nodes n _ _ (moves_leaf l k b x y p) = refl
  moves-nodes n _ _ moves_drop = refl
  moves-nodes n _ _ (moves_reject w) = refl
  moves-nodes n _ _ (moves_all ts us p) = moves-nodes-in n ts us p
  moves-nodes n _ _ (moves_first ts us p) = moves-nodes-in n ts us p
  moves-nodes n _ _ (moves_hold m e z c d g h p q) = rw (moves-nodes n c d p) refl

  moves-nodes-in : (n : ℕ) (ts us : Trees) → MovesAll n ts us → nodes_in us ≡ nodes_in ts
  moves-nodes-in n _ _ moves_none = refl
  moves-nodes-in n _ _ (moves_more t u ts us p q) = rw (moves-nodes n t u p, moves-nodes-in n ts us q) refl

mutual
  pub moves-flat : (n : ℕ) (t u : Tree) → Moves n t u → IsFlat t → IsFlat u
  moves-flat n _ _ (moves_leaf l k b x y p) f = tt
  moves-flat n _ _ moves_drop f = tt
  moves-flat n _ _ (moves_reject w) f = tt
  moves-flat n _ _ (moves_all ts us p) f = moves-flat-in n ts us p f
  moves-flat n _ _ (moves_first ts us p) f = moves-flat-in n ts us p f
  moves-flat n _ _ (moves_hold m e z c d g h p q) f = moves-nodes n c d p ∙ f

  moves-flat-in : (n : ℕ) (ts us : Trees) → MovesAll n ts us → AreFlat ts → AreFlat us
  moves-flat-in n _ _ moves_none f = tt
  moves-flat-in n _ _ (moves_more t u ts us p q) f = (moves-flat n t u p f.0, moves-flat-in n ts us q f.1)

state-begun : (x y : State) → StateMoves x y → tried x ≡ true → tried y ≡ true
state-begun Fresh y p e = cc
state-begun Good y p e = ap tried p
state-begun Bad y p e = ap tried p

stage-begun : (n m : ℕ) (g h : Stage) → StageMoves n m g h → reached g ≡ true → reached h ≡ true
stage-begun n m Idle h p e = cc
stage-begun n m Waiting Idle p e = absurd p
stage-begun n m Waiting Waiting p e = refl
stage-begun n m Waiting Released p e = refl
stage-begun n m Released Idle p e = absurd p
stage-begun n m Released Waiting p e = absurd p
stage-begun n m Released Released p e = refl

either-begun : (a b c d : Bool) → (a ≡ true → c ≡ true) → (b ≡ true → d ≡ true) → (a || b) ≡ true → (c || d) ≡ true
either-begun true b true d f g e = refl
either-begun true b false d f g e = let h = f refl in cc
either-begun false b true d f g e = refl
either-begun false b false d f g e = g e

mutual
  pub moves-begun : (n : ℕ) (t u : Tree) → Moves n t u → begun t ≡ true → begun u ≡ true
  moves-begun n _ _ (moves_leaf l k b x y p) e = state-begun x y p e
  moves-begun n _ _ moves_drop e = e
  moves-begun n _ _ (moves_reject w) e = e
  moves-begun n _ _ (moves_all ts us p) e = moves-begun-in n ts us p e
  moves-begun n _ _ (moves_first ts us p) e = moves-begun-in n ts us p e
  moves-begun n _ _ (moves_hold m f z c d g h p q) e = either-begun (reached g) (begun c) (reached h) (begun d) (stage-begun n m g h q) (moves-begun n c d p) e

  moves-begun-in : (n : ℕ) (ts us : Trees) → MovesAll n ts us → some_begun ts ≡ true → some_begun us ≡ true
  moves-begun-in n _ _ moves_none e = e
  moves-begun-in n _ _ (moves_more t u ts us p q) e = either-begun (begun t) (some_begun ts) (begun u) (some_begun us) (moves-begun n t u p) (moves-begun-in n ts us q) e

stage-waits : (m : ℕ) (c : Tree) (g : Stage) → Still (todo_of_hold m g (todo c)) → outcome_of_hold g (outcome c) ≡ Open → (Still (todo c) → outcome c ≡ Open → 1 ≤ waiting c) → 1 ≤ one_if (is_waiting g) + waiting c
stage-waits m c Idle s e f = absurd s
stage-waits m c Waiting s e f = omega arith
stage-waits m c Released s e f = let h = f s e in omega arith

-- of a demand that is open, in which nothing can begin, some hold waits
mutual
  open-waits : (t : Tree) → Still (todo t) → outcome t ≡ Open → 1 ≤ waiting t
  open-waits (leaf l k b x) s e = absurd (leaf_still l k x s e)
  open-waits drop s e = cc
  open-waits (reject w) s e = cc
  open-waits (all ts) s e = open-waits-all ts s e
  open-waits (first ts) s e = open-waits-first ts s e
  open-waits (hold m f z c g) s e = stage-waits m c g s e (open-waits c)

  open-waits-all : (ts : Trees) → Still (todo_of_all ts) → outcome_of_all ts ≡ Open → 1 ≤ count_holds_in (λ _ g. is_waiting g) ts
  open-waits-all none s e = cc
  open-waits-all (more t ts) s e =
      let p = both_still (todo t) (todo_of_all ts) s in
      elim (all_open_parts (outcome t) (outcome_of_all ts) e) [
        | inl h ↦ (let w = open-waits t p.0 h in omega arith)
        | inr h ↦ (let w = open-waits-all ts p.1 h in omega arith)
      ]

  open-waits-first : (ts : Trees) → Still (todo_of_first ts) → outcome_of_first ts ≡ Open → 1 ≤ count_holds_in (λ _ g. is_waiting g) ts
  open-waits-first none s e = cc
  open-waits-first (more t ts) s e =
      let p = fallback_still (todo t) (todo_of_first ts) s in
      elim (first_open_parts (outcome t) (outcome_of_first ts) e) [
        | inl h ↦ (let w = open-waits t p.0 h in omega arith)
        | inr h ↦ (let w = open-waits-first ts (p.1 (sym (outcome_todo t) ∙ h.0)) h.1 in omega arith)
      ]

settled-unless-open : (o : Outcome) → (o ≡ Open → ⊥) → is_open o ≡ false
settled-unless-open Open h = absurd (h refl)
settled-unless-open Met h = refl
settled-unless-open Lost h = refl

-- a demand in which nothing can begin and no hold waits is settled
pub still-settled : (t : Tree) → Still (todo t) → waiting t ≡ 0 → is_open (outcome t) ≡ false
still-settled t s w = settled-unless-open (outcome t) (λ e. let h = open-waits t s e in absurd (omega arith))
