-- Settling the leaf that is next below a hold that is asked and released leaves what isn't asked untouched.
use Rattle.std.proofs.Common.{◌≡◌, ℕ, Bool, true, false, cond, eqb, eq-eqb, Option, Some, None, ◌⊎◌, inl, inr, refl, ap, subst}
use Rattle.bt_demand.specs.Find.{below, below_each, tree_or_else}
use Rattle.bt_demand.specs.Outcomes.{outcome}
use Rattle.bt_demand.specs.Reached.{Reach, ReachAll, ReachFirst, NextIn, IsNext}
use Rattle.bt_demand.specs.Steps.{settle, settle_each}
use Rattle.bt_demand.specs.Tree.{Tree, Trees, leaf, drop, reject, all, first, hold, none, more}
use Rattle.bt_demand.specs.Untouched.{Untouched, UntouchedIn, UntouchedAfter}
use Rattle.bt_demand.specs.WellFormed.{leaves, leaves_in, Differ}
use Rattle.bt_demand.specs.declared.demand.State.{State}
use Rattle.bt_demand.specs.declared.outcome.Outcome.TheVariants.{Lost}
use Rattle.bt_demand.proofs.Flushing.{outcome_grows, lost_stays}
use Rattle.bt_demand.proofs.Lists.{InList, in-left, in-right, distinct-left, distinct-right, apart}
use Rattle.bt_demand.proofs.Moves.{settle_steps}
use Rattle.bt_demand.proofs.Untouched.{next-leaf, settle-absent, settle-absent-in, settle-untouched}

none-both : (a b : Option Tree) → tree_or_else a b ≡ None → (a ≡ None) × (b ≡ None)
none-both None b e = (refl, e)
none-both (Some x) b e = cc

some-either : (a b : Option Tree) (c : Tree) → tree_or_else a b ≡ Some c → (a ≡ Some c) ⊎ (b ≡ Some c)
some-either None b c e = inr e
some-either (Some x) b c e = inl e

-- the child of the hold of that number
found-here : (m n : ℕ) (c : Tree) (r : Option Tree) → m ≡ n → cond (eqb m n) (Some c) r ≡ Some c
found-here m n c r e = ap (λ b. cond b (Some c) r) (eq-eqb m n e)

some-none : (o : Option Tree) (c : Tree) → o ≡ Some c → o ≡ None → ⊥
some-none o c e f = cc

mutual
  -- a hold that is asked and released is there
  pub reach-there : (n : ℕ) (t : Tree) → Reach n t → below n t ≡ None → ⊥
  reach-there n (leaf l k b s) r e = r
  reach-there n drop r e = r
  reach-there n (reject w) r e = r
  reach-there n (all ts) r e = reach-there-all n ts r e
  reach-there n (first ts) r e = reach-there-first n ts r e
  reach-there n (hold m f z c g) r e = some-none (below n (hold m f z c g)) c (found-here m n c (below n c) r.0) e

  reach-there-all : (n : ℕ) (ts : Trees) → ReachAll n ts → below_each n ts ≡ None → ⊥
  reach-there-all n none r e = r
  reach-there-all n (more t ts) (inl r) e = reach-there n t r (none-both (below n t) (below_each n ts) e).0
  reach-there-all n (more t ts) (inr r) e = reach-there-all n ts r.1 (none-both (below n t) (below_each n ts) e).1

  reach-there-first : (n : ℕ) (ts : Trees) → ReachFirst n ts → below_each n ts ≡ None → ⊥
  reach-there-first n none r e = r
  reach-there-first n (more t ts) (inl r) e = reach-there n t r (none-both (below n t) (below_each n ts) e).0
  reach-there-first n (more t ts) (inr r) e = reach-there-first n ts r.1.1 (none-both (below n t) (below_each n ts) e).1

-- of two trees that may be there, the first is there
next-in-first : (l k : ℕ) (a b : Option Tree) → (a ≡ None → ⊥) → NextIn l k (tree_or_else a b) → NextIn l k a
next-in-first l k None b h i = absurd (h refl)
next-in-first l k (Some c) b h i = i

-- or it isn't
next-in-second : (l k : ℕ) (a b : Option Tree) → a ≡ None → NextIn l k (tree_or_else a b) → NextIn l k b
next-in-second l k None b e i = i
next-in-second l k (Some c) b e i = cc

in-either : (l : ℕ) (c d : Tree) (r : Option Tree) (b : Bool) → cond b (Some c) r ≡ Some d → (r ≡ Some d → InList l (leaves c)) → InList l (leaves d) → InList l (leaves c)
in-either l c d r true e h i = let s : d ≡ c = cc in subst (λ u. InList l (leaves u)) s i
in-either l c d r false e h i = h e

-- a leaf below a hold of the tree stands in the tree
mutual
  below-leaf : (l n : ℕ) (t d : Tree) → below n t ≡ Some d → InList l (leaves d) → InList l (leaves t)
  below-leaf l n (leaf m k b s) d e i = cc
  below-leaf l n drop d e i = cc
  below-leaf l n (reject w) d e i = cc
  below-leaf l n (all ts) d e i = below-leaf-in l n ts d e i
  below-leaf l n (first ts) d e i = below-leaf-in l n ts d e i
  below-leaf l n (hold m f z c g) d e i = in-either l c d (below n c) (eqb m n) e (λ h. below-leaf l n c d h i) i

  below-leaf-in : (l n : ℕ) (ts : Trees) (d : Tree) → below_each n ts ≡ Some d → InList l (leaves d) → InList l (leaves_in ts)
  below-leaf-in l n none d e i = cc
  below-leaf-in l n (more t ts) d e i =
      elim (some-either (below n t) (below_each n ts) d e) [
        | inl h ↦ in-left l (leaves t) (leaves_in ts) (below-leaf l n t d h i)
        | inr h ↦ in-right l (leaves t) (leaves_in ts) (below-leaf-in l n ts d h i)
      ]

next-in-leaf : (l k : ℕ) (o : Option Tree) → NextIn l k o → (d : Tree) × ((o ≡ Some d) × InList l (leaves d))
next-in-leaf l k None i = absurd i
next-in-leaf l k (Some d) i = (d, (refl, next-leaf l k d i))

leaf-there : (l k n : ℕ) (t : Tree) → NextIn l k (below n t) → InList l (leaves t)
leaf-there l k n t i = let w = next-in-leaf l k (below n t) i in below-leaf l n t w.0 w.1.0 w.1.1

leaf-there-in : (l k n : ℕ) (ts : Trees) → NextIn l k (below_each n ts) → InList l (leaves_in ts)
leaf-there-in l k n ts i = let w = next-in-leaf l k (below_each n ts) i in below-leaf-in l n ts w.0 w.1.0 w.1.1

lost-settled : (l : ℕ) (s : State) (t : Tree) → outcome t ≡ Lost → outcome (settle l s t) ≡ Lost
lost-settled l s t e = lost_stays (outcome t) (outcome (settle l s t)) (outcome_grows 0 t (settle l s t) (settle_steps 0 l s t)) e

mutual
  reach-untouched : (n l k : ℕ) (s : State) (t : Tree) → Differ (leaves t) → Untouched t → Reach n t → NextIn l k (below n t) → Untouched (settle l s t)
  reach-untouched n l k s (leaf m j b x) d u r i = tt
  reach-untouched n l k s drop d u r i = tt
  reach-untouched n l k s (reject w) d u r i = tt
  reach-untouched n l k s (all ts) d u r i = reach-untouched-in n l k s ts d u r i
  reach-untouched n l k s (first ts) d u r i = reach-untouched-after n l k s ts d u r i
  reach-untouched n l k s (hold m f z c g) d u r i =
      let p : NextIn l k (Some c) = subst (λ o. NextIn l k o) (found-here m n c (below n c) r.0) i in
      (settle-untouched l k s c d u.0 p, inl r.1)

  reach-untouched-in : (n l k : ℕ) (s : State) (ts : Trees) → Differ (leaves_in ts) → UntouchedIn ts → ReachAll n ts → NextIn l k (below_each n ts) → UntouchedIn (settle_each l s ts)
  reach-untouched-in n l k s none d u r i = tt
  reach-untouched-in n l k s (more t ts) d u (inl r) i =
      let p = next-in-first l k (below n t) (below_each n ts) (reach-there n t r) i in
      let q = settle-absent-in l s ts (λ w. apart l (leaves t) (leaves_in ts) d (leaf-there l k n t p) w) in
      (reach-untouched n l k s t (distinct-left (leaves t) (leaves_in ts) d) u.0 r p, rw q u.1)
  reach-untouched-in n l k s (more t ts) d u (inr r) i =
      let p = next-in-second l k (below n t) (below_each n ts) r.0 i in
      let q = settle-absent l s t (λ w. apart l (leaves t) (leaves_in ts) d w (leaf-there-in l k n ts p)) in
      (rw q u.0, reach-untouched-in n l k s ts (distinct-right (leaves t) (leaves_in ts) d) u.1 r.1 p)

  reach-untouched-after : (n l k : ℕ) (s : State) (ts : Trees) → Differ (leaves_in ts) → UntouchedAfter ts → ReachFirst n ts → NextIn l k (below_each n ts) → UntouchedAfter (settle_each l s ts)
  reach-untouched-after n l k s none d u r i = tt
  reach-untouched-after n l k s (more t ts) d u (inl r) i =
      let p = next-in-first l k (below n t) (below_each n ts) (reach-there n t r) i in
      let q = settle-absent-in l s ts (λ w. apart l (leaves t) (leaves_in ts) d (leaf-there l k n t p) w) in (
        reach-untouched n l k s t (distinct-left (leaves t) (leaves_in ts) d) u.0 r p,
        (
          rw q u.1.0,
          elim u.1.1 [
            | inl b ↦ inl (lost-settled l s t b)
            | inr b ↦ inr (rw q b)
          ],
        ),
      )
  reach-untouched-after n l k s (more t ts) d u (inr r) i =
      let p = next-in-second l k (below n t) (below_each n ts) r.0 i in
      let q = settle-absent l s t (λ w. apart l (leaves t) (leaves_in ts) d w (leaf-there-in l k n ts p)) in
      (rw q u.0, (reach-untouched-after n l k s ts (distinct-right (leaves t) (leaves_in ts) d) u.1.0 r.1.1 p, inl (rw q r.1.0)))

-- settling the leaf that is next, in the tree or below a hold that is asked and released
pub next-untouched : (l k : ℕ) (s : State) (t : Tree) → Differ (leaves t) → Untouched t → IsNext l k t → Untouched (settle l s t)
next-untouched l k s t d u (inl e) = settle-untouched l k s t d u e
next-untouched l k s t d u (inr w) = reach-untouched w.0 l k s t d u w.1.0 w.1.1
