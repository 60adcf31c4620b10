-- The records that were put to sinks, by transaction, part and leaf.
use Rattle.std.specs.Prelude.{◌≡◌, ◌≢◌, ℕ, ◌+◌, ◌≤◌, Bool, false, cond, eqb, ◌&&◌, List, [], ◌∷◌, ◌++◌, length, get_or, IsTrue}
use Rattle.bt_demand.specs.Holding.{one_if}
use Rattle.bt_demand.specs.Outcomes.{accepted, refused}
use Rattle.bt_demand.specs.declared.demand.State.{State}
use Rattle.bt_leaves.specs.EachLeaf.{EachLeaf}
use Rattle.bt_ledger.specs.Open.{Open, tree_of}
use Rattle.bt_ports.specs.Faults.{Rose}
use Rattle.bt_ports.specs.declared.outside.Sink as Sink
use Rattle.bt_ports.specs.declared.parts.Record.{Record}

-- a record is of this transaction, part and leaf
abbrev pub is_of : ℕ → ℕ → ℕ → Record → Bool
is_of n p l r = eqb r.txn n && (eqb r.part p && eqb r.leaf l)

-- how many records are
abbrev pub records_of : ℕ → ℕ → ℕ → List Record → ℕ
records_of n p l [] = 0
records_of n p l (r ∷ rs) = one_if (is_of n p l r) + records_of n p l rs

-- What a leaf of sink k in that state has there, where the sink tells: one accepted record and none refused where it is
-- Good, one refused and none accepted where it is Bad, and none where it is Untried. It is Bad only where the sink counted
-- a fault.
abbrev pub LeafTold : {K : Type 0} → Sink.Ghosts K → List K → K → ℕ → ℕ → ℕ → ℕ → State → Type 0
LeafTold g ks d n p k l x =
    (IsTrue (g.tells (get_or ks k d)) → (records_of n p l (g.accepted (get_or ks k d)) ≡ one_if (accepted x)) × (records_of n p l (g.refused (get_or ks k d)) ≡ one_if (refused x)))
    × (g.faults (get_or ks k d) ≡ 0 → refused x ≡ false)

-- each leaf of each part of a transaction has the records of its state at its own sink
abbrev pub Told : {K : Type 0} → Sink.Ghosts K → List K → K → Open → Type 0
Told g ks d o = (p : ℕ) → EachLeaf (λ k l x. LeafTold g ks d o.number p k l x) (tree_of o.parts p)

-- what a sink went through as one record was put, which it accepted or not
pub record PutOne {K : Type 0} (g : Sink.Ghosts K) (j k : K) (r : Record) (ok : Bool) : Type 0 where
  pub place : g.place k ≡ g.place j
  pub counted : g.faults j ≤ g.faults k
  pub failed : ok ≡ false → Rose (g.faults j) (g.faults k)
  pub told : IsTrue (g.tells k) → IsTrue (g.tells j)
  pub taken : IsTrue (g.tells k) → g.accepted k ≡ cond ok (g.accepted j ++ r ∷ []) (g.accepted j)
  pub turned : IsTrue (g.tells k) → g.refused k ≡ cond ok (g.refused j) (g.refused j ++ r ∷ [])

-- one of the sinks was put a record, and the others stayed
pub record PutAt {K : Type 0} (g : Sink.Ghosts K) (js ks : List K) (s : ℕ) (r : Record) (ok : Bool) : Type 0 where
  pub same : length ks ≡ length js
  pub others : (j : ℕ) (d : K) → j ≢ s → get_or ks j d ≡ get_or js j d
  pub one : (d : K) → PutOne g (get_or js s d) (get_or ks s d) r ok
