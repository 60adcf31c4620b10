-- Each step leaves what isn't asked untouched.
use Rattle.std.proofs.Common.{◌≡◌, ℕ, Bool, true, false, ◌||◌, ◌<◌, arith, cond, eqb, List, [], ◌∷◌, Option, Some, ◌⊎◌, inl, inr, refl, sym, ap, ◌∙◌}
use Rattle.std.specs.List.{AllByRecursion}
use Rattle.std.proofs.lemmas.Bool.{eqb-true}
use Rattle.bt_demand.specs.Find.{begun, some_begun, reached}
use Rattle.bt_demand.specs.Next.{todo, todo_of_all, todo_of_first, todo_of_leaf, todo_of_hold, outcome_after}
use Rattle.bt_demand.specs.Outcomes.{outcome}
use Rattle.bt_demand.specs.Steps.{settle, settle_each, settles, wait, wait_each, waits, release, release_each, releases}
use Rattle.bt_demand.specs.Tree.{Tree, Trees, leaf, drop, reject, all, first, hold, none, more}
use Rattle.bt_demand.specs.Untouched.{Untouched, UntouchedIn, UntouchedAfter}
use Rattle.bt_demand.specs.WellFormed.{leaves, leaves_in, nodes, nodes_in, Differ, Rises}
use Rattle.bt_demand.specs.declared.demand.Stage.{Stage}
use Rattle.bt_demand.specs.declared.demand.Stage.TheVariants.{Untried as Idle, Waiting, Released}
use Rattle.bt_demand.specs.declared.demand.State.{State}
use Rattle.bt_demand.specs.declared.demand.State.TheVariants.{Untried as Fresh, Good, Bad}
use Rattle.bt_demand.specs.declared.outcome.Outcome.TheVariants.{Open, Lost}
use Rattle.bt_demand.specs.declared.todo.Todo.{Todo}
use Rattle.bt_demand.specs.declared.todo.Todo.TheVariants.{Put, Wait}
use Rattle.bt_demand.proofs.Flushing.{outcome_grows, lost_stays}
use Rattle.bt_demand.proofs.Lists.{InList, in-left, in-right, distinct-left, distinct-right, apart}
use Rattle.bt_demand.proofs.Moves.{release_steps}
use Rattle.bt_demand.proofs.Starts.{both-puts, else-puts, both-waits, else-waits, hold-put, leaf-never-waits}
use Rattle.bt_demand.proofs.NextSettles.{outcome_todo}
use Rattle.bt_demand.proofs.Order.{rises-across, rises-left, rises-right}

leaf-put : (n k l j : ℕ) (x : State) → todo_of_leaf n k x ≡ Some (Put l j) → l ≡ n
leaf-put n k l j Fresh e = cc
leaf-put n k l j Good e = cc
leaf-put n k l j Bad e = cc

-- the leaf that is next stands in the tree
mutual
  pub next-leaf : (l k : ℕ) (t : Tree) → todo t ≡ Some (Put l k) → InList l (leaves t)
  next-leaf l k (leaf n j b x) e = inl (leaf-put n j l k x e)
  next-leaf l k drop e = cc
  next-leaf l k (reject w) e = cc
  next-leaf l k (all ts) e = next-leaf-in l k ts e
  next-leaf l k (first ts) e = next-leaf-after l k ts e
  next-leaf l k (hold n f z c g) e = next-leaf l k c (hold-put n g (todo c) l k e).1

  next-leaf-in : (l k : ℕ) (ts : Trees) → todo_of_all ts ≡ Some (Put l k) → InList l (leaves_in ts)
  next-leaf-in l k none e = cc
  next-leaf-in l k (more t ts) e =
      elim (both-puts (todo t) (todo_of_all ts) l k e) [
        | inl h ↦ in-left l (leaves t) (leaves_in ts) (next-leaf l k t h)
        | inr h ↦ in-right l (leaves t) (leaves_in ts) (next-leaf-in l k ts h)
      ]

  next-leaf-after : (l k : ℕ) (ts : Trees) → todo_of_first ts ≡ Some (Put l k) → InList l (leaves_in ts)
  next-leaf-after l k none e = cc
  next-leaf-after l k (more t ts) e =
      elim (else-puts (todo t) (todo_of_first ts) l k e) [
        | inl h ↦ in-left l (leaves t) (leaves_in ts) (next-leaf l k t h)
        | inr h ↦ in-right l (leaves t) (leaves_in ts) (next-leaf-after l k ts h.1)
      ]

state-absent : (n l : ℕ) (s x : State) (b : Bool) → eqb n l ≡ b → (l ≡ n → ⊥) → cond b (settles s x) x ≡ x
state-absent n l s x true e h = absurd (h (sym (eqb-true n l e)))
state-absent n l s x false e h = refl

-- settling a leaf that isn't there changes nothing
mutual
  pub settle-absent : (l : ℕ) (s : State) (t : Tree) → (InList l (leaves t) → ⊥) → settle l s t ≡ t
  settle-absent l s (leaf n k b x) h = ap (leaf n k b) (state-absent n l s x (eqb n l) refl (λ e. h (inl e)))
  settle-absent l s drop h = refl
  settle-absent l s (reject w) h = refl
  settle-absent l s (all ts) h = ap all (settle-absent-in l s ts h)
  settle-absent l s (first ts) h = ap first (settle-absent-in l s ts h)
  settle-absent l s (hold n e z c g) h = ap (λ d. hold n e z d g) (settle-absent l s c h)

  pub settle-absent-in : (l : ℕ) (s : State) (ts : Trees) → (InList l (leaves_in ts) → ⊥) → settle_each l s ts ≡ ts
  settle-absent-in l s none h = refl
  settle-absent-in l s (more t ts) h =
      let i = settle-absent l s t (λ w. h (in-left l (leaves t) (leaves_in ts) w)) in
      let j = settle-absent-in l s ts (λ w. h (in-right l (leaves t) (leaves_in ts) w)) in
      cc

put-not-lost : (l k : ℕ) (t : Tree) → todo t ≡ Some (Put l k) → outcome t ≡ Lost → ⊥
put-not-lost l k t h e = let o = outcome_todo t in let p = ap outcome_after h in let q : Open ≡ Lost = sym p ∙ (sym o ∙ e) in cc

-- settling the leaf that is next
mutual
  pub settle-untouched : (l k : ℕ) (s : State) (t : Tree) → Differ (leaves t) → Untouched t → todo t ≡ Some (Put l k) → Untouched (settle l s t)
  settle-untouched l k s (leaf n j b x) d u e = tt
  settle-untouched l k s drop d u e = tt
  settle-untouched l k s (reject w) d u e = tt
  settle-untouched l k s (all ts) d u e = settle-untouched-in l k s ts d u e
  settle-untouched l k s (first ts) d u e = settle-untouched-after l k s ts d u e
  settle-untouched l k s (hold n f z c g) d u e =
      let p = hold-put n g (todo c) l k e in (settle-untouched l k s c d u.0 p.1, inl p.0)

  settle-untouched-in : (l k : ℕ) (s : State) (ts : Trees) → Differ (leaves_in ts) → UntouchedIn ts → todo_of_all ts ≡ Some (Put l k) → UntouchedIn (settle_each l s ts)
  settle-untouched-in l k s none d u e = tt
  settle-untouched-in l k s (more t ts) d u e =
      elim (both-puts (todo t) (todo_of_all ts) l k e) [
        | inl h ↦
            (let q = settle-absent-in l s ts (λ w. apart l (leaves t) (leaves_in ts) d (next-leaf l k t h) w) in
            (settle-untouched l k s t (distinct-left (leaves t) (leaves_in ts) d) u.0 h, rw q u.1))
        | inr h ↦
            (let q = settle-absent l s t (λ w. apart l (leaves t) (leaves_in ts) d w (next-leaf-in l k ts h)) in
            (rw q u.0, settle-untouched-in l k s ts (distinct-right (leaves t) (leaves_in ts) d) u.1 h))
      ]

  settle-untouched-after : (l k : ℕ) (s : State) (ts : Trees) → Differ (leaves_in ts) → UntouchedAfter ts → todo_of_first ts ≡ Some (Put l k) → UntouchedAfter (settle_each l s ts)
  settle-untouched-after l k s none d u e = tt
  settle-untouched-after l k s (more t ts) d u e =
      elim (else-puts (todo t) (todo_of_first ts) l k e) [
        | inl h ↦
            (let q = settle-absent-in l s ts (λ w. apart l (leaves t) (leaves_in ts) d (next-leaf l k t h) w) in (
              settle-untouched l k s t (distinct-left (leaves t) (leaves_in ts) d) u.0 h,
              (
                rw q u.1.0,
                elim u.1.1 [
                  | inl b ↦ absurd (put-not-lost l k t h b)
                  | inr b ↦ inr (rw q b)
                ],
              ),
            ))
        | inr h ↦
            (let q = settle-absent l s t (λ w. apart l (leaves t) (leaves_in ts) d w (next-leaf-after l k ts h.1)) in
            (rw q u.0, (settle-untouched-after l k s ts (distinct-right (leaves t) (leaves_in ts) d) u.1.0 h.1, inl (rw q (outcome_todo t ∙ ap outcome_after h.0)))))
      ]

both-false : (a b : Bool) → (a || b) ≡ false → (a ≡ false) × (b ≡ false)
both-false true b e = cc
both-false false b e = (refl, e)

releases-reached : (b : Bool) (g : Stage) → reached g ≡ false → reached (cond b (releases g) g) ≡ false
releases-reached true Idle e = refl
releases-reached true Waiting e = cc
releases-reached true Released e = cc
releases-reached false g e = e

-- a release changes nothing where nothing was tried
mutual
  release-unbegun : (m : ℕ) (t : Tree) → begun t ≡ false → begun (release m t) ≡ false
  release-unbegun m (leaf n k b x) e = e
  release-unbegun m drop e = refl
  release-unbegun m (reject w) e = refl
  release-unbegun m (all ts) e = release-unbegun-in m ts e
  release-unbegun m (first ts) e = release-unbegun-in m ts e
  release-unbegun m (hold n f z c g) e =
      let p = both-false (reached g) (begun c) e in
      rw (releases-reached (eqb n m) g p.0, release-unbegun m c p.1) refl

  release-unbegun-in : (m : ℕ) (ts : Trees) → some_begun ts ≡ false → some_begun (release_each m ts) ≡ false
  release-unbegun-in m none e = refl
  release-unbegun-in m (more t ts) e =
      let p = both-false (begun t) (some_begun ts) e in rw (release-unbegun m t p.0, release-unbegun-in m ts p.1) refl

releases-released : (b : Bool) (g : Stage) → g ≡ Released → cond b (releases g) g ≡ Released
releases-released true Idle e = cc
releases-released true Waiting e = cc
releases-released true Released e = refl
releases-released false g e = e

-- releasing any hold
mutual
  pub release-untouched : (m : ℕ) (t : Tree) → Untouched t → Untouched (release m t)
  release-untouched m (leaf n k b x) u = tt
  release-untouched m drop u = tt
  release-untouched m (reject w) u = tt
  release-untouched m (all ts) u = release-untouched-in m ts u
  release-untouched m (first ts) u = release-untouched-after m ts u
  release-untouched m (hold n f z c g) u = (
    release-untouched m c u.0,
    elim u.1 [
      | inl r ↦ inl (releases-released (eqb n m) g r)
      | inr b ↦ inr (release-unbegun m c b)
    ],
  )

  release-untouched-in : (m : ℕ) (ts : Trees) → UntouchedIn ts → UntouchedIn (release_each m ts)
  release-untouched-in m none u = tt
  release-untouched-in m (more t ts) u = (release-untouched m t u.0, release-untouched-in m ts u.1)

  release-untouched-after : (m : ℕ) (ts : Trees) → UntouchedAfter ts → UntouchedAfter (release_each m ts)
  release-untouched-after m none u = tt
  release-untouched-after m (more t ts) u = (
    release-untouched m t u.0,
    (
      release-untouched-after m ts u.1.0,
      elim u.1.1 [
        | inl l ↦ inl (lost_stays (outcome t) (outcome (release m t)) (outcome_grows 0 t (release m t) (release_steps 0 m t (omega arith))) l)
        | inr b ↦ inr (release-unbegun-in m ts b)
      ],
    ),
  )

hold-wait : (n : ℕ) (g : Stage) (r : Option Todo) (m : ℕ) → todo_of_hold n g r ≡ Some (Wait m) → ((g ≡ Idle) × (m ≡ n)) ⊎ ((g ≡ Released) × (r ≡ Some (Wait m)))
hold-wait n Idle r m e = inl (refl, cc)
hold-wait n Waiting r m e = cc
hold-wait n Released r m e = inr (refl, e)

-- the hold that is next stands in the tree
mutual
  next-node : (m : ℕ) (t : Tree) → todo t ≡ Some (Wait m) → InList m (nodes t)
  next-node m (leaf n k b x) e = absurd (leaf-never-waits n k m x e)
  next-node m drop e = cc
  next-node m (reject w) e = cc
  next-node m (all ts) e = next-node-in m ts e
  next-node m (first ts) e = next-node-after m ts e
  next-node m (hold n f z c g) e = elim (hold-wait n g (todo c) m e) [ inl p ↦ inl p.1 | inr p ↦ inr (next-node m c p.1) ]

  next-node-in : (m : ℕ) (ts : Trees) → todo_of_all ts ≡ Some (Wait m) → InList m (nodes_in ts)
  next-node-in m none e = cc
  next-node-in m (more t ts) e =
      elim (both-waits (todo t) (todo_of_all ts) m e) [
        | inl h ↦ in-left m (nodes t) (nodes_in ts) (next-node m t h)
        | inr h ↦ in-right m (nodes t) (nodes_in ts) (next-node-in m ts h)
      ]

  next-node-after : (m : ℕ) (ts : Trees) → todo_of_first ts ≡ Some (Wait m) → InList m (nodes_in ts)
  next-node-after m none e = cc
  next-node-after m (more t ts) e =
      elim (else-waits (todo t) (todo_of_first ts) m e) [
        | inl h ↦ in-left m (nodes t) (nodes_in ts) (next-node m t h)
        | inr h ↦ in-right m (nodes t) (nodes_in ts) (next-node-after m ts h.1)
      ]

stage-absent : (n m : ℕ) (g : Stage) (b : Bool) → eqb n m ≡ b → (m ≡ n → ⊥) → cond b (waits g) g ≡ g
stage-absent n m g true e h = absurd (h (sym (eqb-true n m e)))
stage-absent n m g false e h = refl

-- waiting in a hold that isn't there changes nothing
mutual
  wait-absent : (m : ℕ) (t : Tree) → (InList m (nodes t) → ⊥) → wait m t ≡ t
  wait-absent m (leaf n k b x) h = refl
  wait-absent m drop h = refl
  wait-absent m (reject w) h = refl
  wait-absent m (all ts) h = ap all (wait-absent-in m ts h)
  wait-absent m (first ts) h = ap first (wait-absent-in m ts h)
  wait-absent m (hold n f z c g) h =
      let i = wait-absent m c (λ w. h (inr w)) in let j = stage-absent n m g (eqb n m) refl (λ e. h (inl e)) in cc

  wait-absent-in : (m : ℕ) (ts : Trees) → (InList m (nodes_in ts) → ⊥) → wait_each m ts ≡ ts
  wait-absent-in m none h = refl
  wait-absent-in m (more t ts) h =
      let i = wait-absent m t (λ w. h (in-left m (nodes t) (nodes_in ts) w)) in
      let j = wait-absent-in m ts (λ w. h (in-right m (nodes t) (nodes_in ts) w)) in
      cc

above-in : (m : ℕ) (ys : List ℕ) → AllByRecursion (λ j. m < j) ys → InList m ys → ⊥
above-in m [] a i = i
above-in m (y ∷ ys) a (inl e) = let b : m < y = a.0 in absurd (omega (arith, b, e))
above-in m (y ∷ ys) a (inr i) = above-in m ys a.1 i

wait-not-lost : (m : ℕ) (t : Tree) → todo t ≡ Some (Wait m) → outcome t ≡ Lost → ⊥
wait-not-lost m t h e = let o = outcome_todo t in let p = ap outcome_after h in let q : Open ≡ Lost = sym p ∙ (sym o ∙ e) in cc

waits-released : (b : Bool) (g : Stage) → g ≡ Released → cond b (waits g) g ≡ Released
waits-released true Idle e = cc
waits-released true Waiting e = cc
waits-released true Released e = refl
waits-released false g e = e

idle-not-released : (g : Stage) → g ≡ Idle → g ≡ Released → ⊥
idle-not-released g e f = cc

-- waiting in the hold that is next
mutual
  pub wait-untouched : (m : ℕ) (t : Tree) → Rises (nodes t) → Untouched t → todo t ≡ Some (Wait m) → Untouched (wait m t)
  wait-untouched m (leaf n j b x) d u e = tt
  wait-untouched m drop d u e = tt
  wait-untouched m (reject w) d u e = tt
  wait-untouched m (all ts) d u e = wait-untouched-in m ts d u e
  wait-untouched m (first ts) d u e = wait-untouched-after m ts d u e
  wait-untouched m (hold n f z c g) d u e =
      elim (hold-wait n g (todo c) m e) [
        | inl p ↦
            (let q = wait-absent m c (λ w. above-in m (nodes c) (rw p.1 d.0) w) in
            (rw q u.0, elim u.1 [ inl r ↦ absurd (idle-not-released g p.0 r) | inr b ↦ inr (rw q b) ]))
        | inr p ↦ (wait-untouched m c d.1 u.0 p.1, inl (waits-released (eqb n m) g p.0))
      ]

  wait-untouched-in : (m : ℕ) (ts : Trees) → Rises (nodes_in ts) → UntouchedIn ts → todo_of_all ts ≡ Some (Wait m) → UntouchedIn (wait_each m ts)
  wait-untouched-in m none d u e = tt
  wait-untouched-in m (more t ts) d u e =
      elim (both-waits (todo t) (todo_of_all ts) m e) [
        | inl h ↦
            (let q = wait-absent-in m ts (λ w. above-in m (nodes_in ts) (rises-across m (nodes t) (nodes_in ts) d (next-node m t h)) w) in
            (wait-untouched m t (rises-left (nodes t) (nodes_in ts) d) u.0 h, rw q u.1))
        | inr h ↦
            (let q = wait-absent m t (λ w. above-in m (nodes_in ts) (rises-across m (nodes t) (nodes_in ts) d w) (next-node-in m ts h)) in
            (rw q u.0, wait-untouched-in m ts (rises-right (nodes t) (nodes_in ts) d) u.1 h))
      ]

  wait-untouched-after : (m : ℕ) (ts : Trees) → Rises (nodes_in ts) → UntouchedAfter ts → todo_of_first ts ≡ Some (Wait m) → UntouchedAfter (wait_each m ts)
  wait-untouched-after m none d u e = tt
  wait-untouched-after m (more t ts) d u e =
      elim (else-waits (todo t) (todo_of_first ts) m e) [
        | inl h ↦
            (let q = wait-absent-in m ts (λ w. above-in m (nodes_in ts) (rises-across m (nodes t) (nodes_in ts) d (next-node m t h)) w) in (
              wait-untouched m t (rises-left (nodes t) (nodes_in ts) d) u.0 h,
              (
                rw q u.1.0,
                elim u.1.1 [
                  | inl b ↦ absurd (wait-not-lost m t h b)
                  | inr b ↦ inr (rw q b)
                ],
              ),
            ))
        | inr h ↦
            (let q = wait-absent m t (λ w. above-in m (nodes_in ts) (rises-across m (nodes t) (nodes_in ts) d w) (next-node-after m ts h.1)) in
            (rw q u.0, (wait-untouched-after m ts (rises-right (nodes t) (nodes_in ts) d) u.1.0 h.1, inl (rw q (outcome_todo t ∙ ap outcome_after h.0)))))
      ]

-- a tree of which nothing was tried
mutual
  pub unbegun-untouched : (t : Tree) → begun t ≡ false → Untouched t
  unbegun-untouched (leaf n j b x) e = tt
  unbegun-untouched drop e = tt
  unbegun-untouched (reject w) e = tt
  unbegun-untouched (all ts) e = unbegun-untouched-in ts e
  unbegun-untouched (first ts) e = unbegun-untouched-after ts e
  unbegun-untouched (hold n f z c g) e =
      let p = both-false (reached g) (begun c) e in (unbegun-untouched c p.1, inr p.1)

  unbegun-untouched-in : (ts : Trees) → some_begun ts ≡ false → UntouchedIn ts
  unbegun-untouched-in none e = tt
  unbegun-untouched-in (more t ts) e =
      let p = both-false (begun t) (some_begun ts) e in (unbegun-untouched t p.0, unbegun-untouched-in ts p.1)

  unbegun-untouched-after : (ts : Trees) → some_begun ts ≡ false → UntouchedAfter ts
  unbegun-untouched-after none e = tt
  unbegun-untouched-after (more t ts) e =
      let p = both-false (begun t) (some_begun ts) e in (unbegun-untouched t p.0, (unbegun-untouched-after ts p.1, inr p.1))
