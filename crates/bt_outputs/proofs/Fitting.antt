-- Demands whose leaves and holds rise from one bound to another.
use Rattle.std.proofs.Common.{◌≡◌, ℕ, ◌≤◌, Bool, false, ◌||◌, List, [], ◌∷◌, ◌++◌, length, refl, ◌<◌, arith, length-append}
use Rattle.std.specs.List.{AllByRecursion}
use Rattle.std.proofs.lemmas.List.Elements.{All-from_recursion}
use Rattle.bt_demand.specs.Find.{begun, some_begun}
use Rattle.bt_demand.specs.Holds.{holds, holds_in}
use Rattle.bt_demand.specs.Tree.{Tree, Trees, leaf, drop, reject, all, first, hold, none, more}
use Rattle.bt_demand.specs.WellFormed.{leaves, leaves_in, sinks, sinks_in, nodes, nodes_in, IsFlat, AreFlat, FirstsHaveChildren, FirstsInHaveChildren, WellFormed}
use Rattle.bt_outputs.proofs.Climbing.{Climbs, lowered, joined, rise, differ, below, few}

-- a demand for so many sinks, with leaves from a to b and holds from c to d
pub record Fits (sink_count a b c d : ℕ) (t : Tree) : Type 0 where
  pub leaves_climb : Climbs a (leaves t) b
  pub nodes_climb : Climbs c (nodes t) d
  pub sinks_known : AllByRecursion (λ k. k < sink_count) (sinks t)
  pub flat : IsFlat t
  pub firsts : FirstsHaveChildren t
  pub untried : begun t ≡ false

pub record AllFit (sink_count a b c d : ℕ) (ts : Trees) : Type 0 where
  pub leaves_climb : Climbs a (leaves_in ts) b
  pub nodes_climb : Climbs c (nodes_in ts) d
  pub sinks_known : AllByRecursion (λ k. k < sink_count) (sinks_in ts)
  pub flat : AreFlat ts
  pub firsts : FirstsInHaveChildren ts
  pub untried : some_begun ts ≡ false

pub all_join : (P : ℕ → Type 0) (xs ys : List ℕ) → AllByRecursion P xs → AllByRecursion P ys → AllByRecursion P (xs ++ ys)
all_join P [] ys h k = k
all_join P (x ∷ xs) ys h k = (h.0, all_join P xs ys h.1 k)

neither : (p q : Bool) → p ≡ false → q ≡ false → (p || q) ≡ false
neither p q h k = rw h k

pub no_trees : (n a b c d : ℕ) → a ≤ b → c ≤ d → AllFit n a b c d none
no_trees n a b c d h k = record { leaves_climb = h; nodes_climb = k; sinks_known = tt; flat = tt; firsts = tt; untried = refl }

pub one_more : (n a b c d e f : ℕ) (t : Tree) (ts : Trees) → Fits n a b d e t → AllFit n b c e f ts → AllFit n a c d f (more t ts)
one_more n a b c d e f t ts h k = record {
  leaves_climb = joined a (leaves t) b (leaves_in ts) c h.leaves_climb k.leaves_climb;
  nodes_climb = joined d (nodes t) e (nodes_in ts) f h.nodes_climb k.nodes_climb;
  sinks_known = all_join (λ s. s < n) (sinks t) (sinks_in ts) h.sinks_known k.sinks_known;
  flat = (h.flat, k.flat);
  firsts = (h.firsts, k.firsts);
  untried = neither (begun t) (some_begun ts) h.untried k.untried;
}

pub skipped : (n a b c d e f : ℕ) (ts : Trees) → a ≤ b → d ≤ e → AllFit n b c e f ts → AllFit n a c d f ts
skipped n a b c d e f ts h k g = record {
  leaves_climb = lowered a b (leaves_in ts) c h g.leaves_climb;
  nodes_climb = lowered d e (nodes_in ts) f k g.nodes_climb;
  sinks_known = g.sinks_known;
  flat = g.flat;
  firsts = g.firsts;
  untried = g.untried;
}

pub of_all : (n a b c d : ℕ) (ts : Trees) → AllFit n a b c d ts → Fits n a b c d (all ts)
of_all n a b c d ts h = record { leaves_climb = h.leaves_climb; nodes_climb = h.nodes_climb; sinks_known = h.sinks_known; flat = h.flat; firsts = h.firsts; untried = h.untried }

pub of_first : (n a b c d : ℕ) (t : Tree) (ts : Trees) → AllFit n a b c d (more t ts) → Fits n a b c d (first (more t ts))
of_first n a b c d t ts h = record { leaves_climb = h.leaves_climb; nodes_climb = h.nodes_climb; sinks_known = h.sinks_known; flat = h.flat; firsts = (tt, h.firsts); untried = h.untried }

pub dropped : (n a b c d : ℕ) → a ≤ b → c ≤ d → Fits n a b c d drop
dropped n a b c d h k = record { leaves_climb = h; nodes_climb = k; sinks_known = tt; flat = tt; firsts = tt; untried = refl }

pub rejected : (n a b c d : ℕ) (w : List ℕ) → a ≤ b → c ≤ d → Fits n a b c d (reject w)
rejected n a b c d w h k = record { leaves_climb = h; nodes_climb = k; sinks_known = tt; flat = tt; firsts = tt; untried = refl }

mutual
  holds-nodes : (t : Tree) → holds t ≡ length (nodes t)
  holds-nodes (leaf n k b s) = refl
  holds-nodes drop = refl
  holds-nodes (reject w) = refl
  holds-nodes (all ts) = holds_in-nodes ts
  holds-nodes (first ts) = holds_in-nodes ts
  holds-nodes (hold n e z c g) = omega (arith, holds-nodes c)

  holds_in-nodes : (ts : Trees) → holds_in ts ≡ length (nodes_in ts)
  holds_in-nodes none = refl
  holds_in-nodes (more t ts) = omega (arith, holds-nodes t, holds_in-nodes ts, length-append (nodes t) (nodes_in ts))

pub well_formed : (n b d k : ℕ) (t : Tree) → d ≤ k → d ≤ 64 → Fits n 0 b 0 d t → WellFormed n k t
well_formed n b d k t known small h = record {
  untried = h.untried;
  leaves_differ = differ (leaves t) (rise 0 (leaves t) b h.leaves_climb);
  sinks_known = All-from_recursion (λ k. k < n) (sinks t) h.sinks_known;
  holds_known = All-from_recursion (λ j. j < k) (nodes t) (below 0 (nodes t) d k known h.nodes_climb);
  holds_rise = rise 0 (nodes t) d h.nodes_climb;
  holds_flat = h.flat;
  firsts_have_children = h.firsts;
  few_holds = omega (arith, small, holds-nodes t, few 0 (nodes t) d h.nodes_climb);
}
