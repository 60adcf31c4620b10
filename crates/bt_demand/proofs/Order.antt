-- In a demand that is well formed the holds stand in the order in which one pass empties them.
use Rattle.std.proofs.Common.{◌≡◌, ℕ, ◌<◌, List, [], ◌∷◌, ◌++◌, inl, inr}
use Rattle.std.specs.List.{AllByRecursion}
use Rattle.bt_demand.specs.Flushing.{High, HighAll, Has, HasAny, InOrder, InOrderAll, InOrderFirst}
use Rattle.bt_demand.specs.Tree.{Tree, Trees, leaf, drop, reject, all, first, hold, none, more}
use Rattle.bt_demand.specs.WellFormed.{nodes, nodes_in, Rises, IsFlat, AreFlat}
use Rattle.bt_demand.proofs.Lists.{InList, in-left, in-right, all-left, all-right}

-- of two lists that rise together, the numbers of the second are above each of the first
pub rises-across : (m : ℕ) (xs ys : List ℕ) → Rises (xs ++ ys) → InList m xs → AllByRecursion (λ j. m < j) ys
rises-across m [] ys r h = absurd h
rises-across m (x ∷ xs) ys r (inl e) = rw e (all-right (λ y. x < y) xs ys r.0)
rises-across m (x ∷ xs) ys r (inr h) = rises-across m xs ys r.1 h

pub rises-left : (xs ys : List ℕ) → Rises (xs ++ ys) → Rises xs
rises-left [] ys r = tt
rises-left (x ∷ xs) ys r = (all-left (λ y. x < y) xs ys r.0, rises-left xs ys r.1)

pub rises-right : (xs ys : List ℕ) → Rises (xs ++ ys) → Rises ys
rises-right [] ys r = r
rises-right (x ∷ xs) ys r = rises-right xs ys r.1

mutual
  has-node : (m : ℕ) (t : Tree) → Has m t → InList m (nodes t)
  has-node m (leaf n k b s) h = absurd h
  has-node m drop h = absurd h
  has-node m (reject w) h = absurd h
  has-node m (all ts) h = has-node-in m ts h
  has-node m (first ts) h = has-node-in m ts h
  has-node m (hold n e z c g) (inl e') = inl e'
  has-node m (hold n e z c g) (inr h) = inr (has-node m c h)

  has-node-in : (m : ℕ) (ts : Trees) → HasAny m ts → InList m (nodes_in ts)
  has-node-in m none h = absurd h
  has-node-in m (more t ts) (inl h) = in-left m (nodes t) (nodes_in ts) (has-node m t h)
  has-node-in m (more t ts) (inr h) = in-right m (nodes t) (nodes_in ts) (has-node-in m ts h)

mutual
  high-nodes : (n : ℕ) (t : Tree) → AllByRecursion (λ j. n < j) (nodes t) → High n t
  high-nodes n (leaf l k b s) h = tt
  high-nodes n drop h = tt
  high-nodes n (reject w) h = tt
  high-nodes n (all ts) h = high-nodes-in n ts h
  high-nodes n (first ts) h = high-nodes-in n ts h
  high-nodes n (hold m e z c g) h = (h.0, high-nodes n c h.1)

  high-nodes-in : (n : ℕ) (ts : Trees) → AllByRecursion (λ j. n < j) (nodes_in ts) → HighAll n ts
  high-nodes-in n none h = tt
  high-nodes-in n (more t ts) h = (high-nodes n t (all-left (λ j. n < j) (nodes t) (nodes_in ts) h), high-nodes-in n ts (all-right (λ j. n < j) (nodes t) (nodes_in ts) h))

none-in : (m : ℕ) (xs : List ℕ) → xs ≡ [] → InList m xs → ⊥
none-in m [] e h = h
none-in m (x ∷ xs) e h = cc

mutual
  pub in-order : (t : Tree) → IsFlat t → Rises (nodes t) → InOrder t
  in-order (leaf n k b s) f r = tt
  in-order drop f r = tt
  in-order (reject w) f r = tt
  in-order (all ts) f r = in-order-all ts f r
  in-order (first ts) f r = in-order-first ts f r
  in-order (hold n e z c g) f r = λ m h. none-in m (nodes c) f (has-node m c h)

  in-order-all : (ts : Trees) → AreFlat ts → Rises (nodes_in ts) → InOrderAll ts
  in-order-all none f r = tt
  in-order-all (more t ts) f r =
      (in-order t f.0 (rises-left (nodes t) (nodes_in ts) r), in-order-all ts f.1 (rises-right (nodes t) (nodes_in ts) r))

  in-order-first : (ts : Trees) → AreFlat ts → Rises (nodes_in ts) → InOrderFirst ts
  in-order-first none f r = tt
  in-order-first (more t ts) f r =
      (in-order t f.0 (rises-left (nodes t) (nodes_in ts) r), (λ m h. high-nodes-in m ts (rises-across m (nodes t) (nodes_in ts) r (has-node m t h))), in-order-first ts f.1 (rises-right (nodes t) (nodes_in ts) r))
