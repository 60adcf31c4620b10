-- Whose records the sinks tell: each is a leaf's of the plan, with the number of a release where it stands below a hold.
use Rattle.std.specs.Prelude.{◌≡◌, ℕ, ◌<◌, ◌≤◌, ◌⊎◌, true, List, [], ◌∷◌, length, get_or, IsTrue, Option, Some, None}
use Rattle.std.specs.List.{AllByRecursion}
use Rattle.bt_demand.specs.Find.{below}
use Rattle.bt_demand.specs.Next.{todo}
use Rattle.bt_demand.specs.Reached.{Reach, NextIn}
use Rattle.bt_demand.specs.Tree.{Tree}
use Rattle.bt_demand.specs.declared.todo.Todo.TheVariants.{Put}
use Rattle.bt_leaves.specs.LeafAt.{LeafAt}
use Rattle.bt_leaves.specs.Released.{ReleasedSettled}
use Rattle.bt_ledger.specs.Ledger.{Ledger, slot_at, is_given, open_in}
use Rattle.bt_ledger.specs.Open.{Open, tree_of}
use Rattle.bt_ports.specs.declared.outside.Sink as Sink
use Rattle.bt_ports.specs.declared.parts.Record.{Record}
use Rattle.bt_sound.specs.Transactions.{untried_parts}
use Rattle.bt_sound.specs.View.{Past}

-- The batch number of a record below that hold: 0 where there is none, else the number of one of its releases, from 1.
abbrev pub BatchFits : (releases : List ℕ) (over : Option ℕ) (batch : ℕ) → Type 0
BatchFits releases None batch = batch ≡ 0
BatchFits releases (Some n) batch = (1 ≤ batch) × (batch ≤ get_or releases n 0)

-- A record is one of this transaction for sink k: its part has a leaf of its number with that sink and its bytes, and its
-- batch number fits the hold over that leaf.
pub record IsRecordOf (releases : List ℕ) (k : ℕ) (o : Open) (r : Record) : Type 0 where
  pub number : r.txn ≡ o.number
  pub over : Option ℕ
  pub leaf : LeafAt None r.leaf k r.bytes over (tree_of (untried_parts o.parts) r.part)
  pub batch : BatchFits releases over r.batch

-- it is one of a closed transaction
abbrev pub OfSomePast : (releases : List ℕ) (k : ℕ) → List Past → Record → Type 0
OfSomePast releases k [] r = ⊥
OfSomePast releases k (p ∷ ps) r = IsRecordOf releases k p.state r ⊎ OfSomePast releases k ps r

-- it is one of an open transaction, or of a closed one
abbrev pub IsOwned : (releases : List ℕ) (l : Ledger) (closed : List Past) (k : ℕ) → Record → Type 0
IsOwned releases l closed k r = ((s : ℕ) × ((is_given (slot_at l s) ≡ true) × IsRecordOf releases k (open_in (slot_at l s)) r)) ⊎ OfSomePast releases k closed r

-- so is each record that a sink tells, accepted or refused
pub record SinkOwned {K : Type 0} (g : Sink.Ghosts K) (releases : List ℕ) (l : Ledger) (closed : List Past) (k : ℕ) (sink : K) : Type 0 where
  pub accepted : AllByRecursion (λ r. IsOwned releases l closed k r) (g.accepted sink)
  pub refused : AllByRecursion (λ r. IsOwned releases l closed k r) (g.refused sink)

abbrev pub Owned : {K : Type 0} → Sink.Ghosts K → (releases : List ℕ) → Ledger → List Past → List K → K → Type 0
Owned g releases l closed ks d = (k : ℕ) → k < length ks → IsTrue (g.tells (get_or ks k d)) → SinkOwned g releases l closed k (get_or ks k d)

-- Leaf l is to be put to sink k with this batch number: it is next in a demand in which the children of all released holds
-- are settled, and the number is 0; or it is next below a hold that is asked and released, and the number fits that.
abbrev pub PutsAs : (releases : List ℕ) (l k batch : ℕ) → Tree → Type 0
PutsAs releases l k batch t =
    ((ReleasedSettled t × (todo t ≡ Some (Put l k))) × BatchFits releases None batch)
    ⊎ ((n : ℕ) × ((Reach n t × NextIn l k (below n t)) × BatchFits releases (Some n) batch))

-- no count of releases falls
abbrev pub ReleasesRise : List ℕ → List ℕ → Type 0
ReleasesRise old new = (n : ℕ) → get_or old n 0 ≤ get_or new n 0
