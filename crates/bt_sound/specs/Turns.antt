-- What settling adds to the lists of the sinks and of the answerer, in a floor without holds.
use Rattle.std.specs.Prelude.{◌≡◌, ◌≢◌, ℕ, ◌+◌, ◌<◌, ◌≤◌, ◌⊎◌, true, List, [], ◌∷◌, ◌++◌, length, get_or, IsTrue}
use Rattle.std.specs.List.{AllByRecursion}
use Rattle.bt_demand.specs.Parts.{Part}
use Rattle.bt_demand.specs.WellFormed.{leaves}
use Rattle.bt_ledger.specs.Due.{times, IsDue, open_parts}
use Rattle.bt_ledger.specs.Ledger.{slot_at, number_in, parts_in, answered_in, is_given}
use Rattle.bt_ledger.specs.Open.{Open, from_of, tree_of}
use Rattle.bt_ledger.specs.declared.slot.Slot.{Slot}
use Rattle.bt_ports.specs.declared.outside.Answerer as Answerer
use Rattle.bt_ports.specs.declared.outside.Sink as Sink
use Rattle.bt_ports.specs.declared.parts.AnswerCall.{AnswerCall}
use Rattle.bt_ports.specs.declared.parts.Record.{Record}
use Rattle.bt_sound.specs.Answers.{RefusalsFrom}
use Rattle.bt_sound.specs.View.{FloorView}

-- records of transaction n, of parts from `lo` up to `hi`, in order of part
abbrev pub RecordsInTurn : (n lo hi : ℕ) → List Record → Type 0
RecordsInTurn n lo hi [] = Unit {0}
RecordsInTurn n lo hi (r ∷ rs) = (r.txn ≡ n) × ((lo ≤ r.part) × ((r.part < hi) × RecordsInTurn n r.part hi rs))

-- m stands in the list, and n later in it
abbrev pub StandsBefore : (m n : ℕ) → List ℕ → Type 0
StandsBefore m n [] = ⊥
StandsBefore m n (x ∷ xs) = ((m ≡ x) × (1 ≤ times n xs)) ⊎ StandsBefore m n xs

-- of two records of one part, the earlier is for a leaf that stands before that of the later in the part's demand
abbrev pub LeavesInTurn : List Part → List Record → Type 0
LeavesInTurn ps [] = Unit {0}
LeavesInTurn ps (r ∷ rs) = AllByRecursion (λ s. s.part ≡ r.part → StandsBefore r.leaf s.leaf (leaves (tree_of ps r.part))) rs × LeavesInTurn ps rs

-- records of transaction n, which has these parts, of those from `lo` up to `hi`: in order of part, and those of a part in the
-- order of its leaves
abbrev pub PutInTurn : List Part → (n lo hi : ℕ) → List Record → Type 0
PutInTurn ps n lo hi rs = RecordsInTurn n lo hi rs × LeavesInTurn ps rs

-- no record, or one for this leaf of a part of transaction n
abbrev pub AtMostOne : (n p l : ℕ) → List Record → Type 0
AtMostOne n p l [] = Unit {0}
AtMostOne n p l (r ∷ rs) = ((r.txn ≡ n) × ((r.part ≡ p) × (r.leaf ≡ l))) × (rs ≡ [])

-- the items of calls rise
abbrev pub ItemsRise : List AnswerCall → Type 0
ItemsRise [] = Unit {0}
ItemsRise (c ∷ cs) = AllByRecursion (λ d. c.item < d.item) cs × ItemsRise cs

-- a part comes after another, or it is the same one and the item isn't below the other
abbrev pub NotBefore : (part item later_part later_item : ℕ) → Type 0
NotBefore p i q j = (p < q) ⊎ ((p ≡ q) × (i ≤ j))

-- Calls for items of transaction n, each of which a part from `lo` up to `hi` comes from: in order of these parts, and those by
-- one part in order of the items, by part `lo` from item i on.
abbrev pub CallsInTurn : List Part → (n lo i hi : ℕ) → List AnswerCall → Type 0
CallsInTurn ps n lo i hi [] = Unit {0}
CallsInTurn ps n lo i hi (c ∷ cs) = (c.number ≡ n) × ((q : ℕ) × (NotBefore lo i q c.item × ((q < hi) × ((1 ≤ times c.item (from_of ps q)) × CallsInTurn ps n q (c.item + 1) hi cs))))

-- calls for items of an open transaction that were due, in rising order
abbrev pub CallsDue : Open → List AnswerCall → Type 0
CallsDue o cs = AllByRecursion (λ c. (c.number ≡ o.number) × IsDue o c.item) cs × ItemsRise cs

-- no call, or one for this item of transaction n
abbrev pub CallsFor : (n i : ℕ) → List AnswerCall → Type 0
CallsFor n i [] = Unit {0}
CallsFor n i (c ∷ cs) = ((c.number ≡ n) × (c.item ≡ i)) × (cs ≡ [])

-- A sink later: its place stays, its count of faults doesn't fall, and each list that it tells has records more at its end,
-- of which this is so.
pub record SinkAdds {K : Type 0} (g : Sink.Ghosts K) (P : List Record → Type 0) (j k : K) : Type 0 where
  pub place : g.place k ≡ g.place j
  pub faults : g.faults j ≤ g.faults k
  pub told : IsTrue (g.tells k) → IsTrue (g.tells j)
  pub accepted : IsTrue (g.tells k) → (rs : List Record) × ((g.accepted k ≡ g.accepted j ++ rs) × P rs)
  pub refused : IsTrue (g.tells k) → (rs : List Record) × ((g.refused k ≡ g.refused j ++ rs) × P rs)

-- an answerer later, in the same way
pub record AnswererAdds {A : Type 0} (g : Answerer.Ghosts A) (P : List AnswerCall → Type 0) (j k : A) : Type 0 where
  pub place : g.place k ≡ g.place j
  pub faults : g.faults j ≤ g.faults k
  pub told : IsTrue (g.tells k) → IsTrue (g.tells j)
  pub calls : IsTrue (g.tells k) → (cs : List AnswerCall) × ((g.calls k ≡ g.calls j ++ cs) × P cs)

abbrev pub SinksAdd : {K : Type 0} → Sink.Ghosts K → (List Record → Type 0) → List K → List K → Type 0
SinksAdd {K} g P js ks = (length ks ≡ length js) × ((k : ℕ) (d : K) → SinkAdds g P (get_or js k d) (get_or ks k d))

-- a slot later has the same number and as many parts, which come from the same items and have the same leaves
pub record SameFrom (x y : Slot) : Type 0 where
  pub number : number_in y ≡ number_in x
  pub many : length (parts_in y) ≡ length (parts_in x)
  pub from : (q : ℕ) → from_of (parts_in y) q ≡ from_of (parts_in x) q
  pub same_leaves : (q : ℕ) → leaves (tree_of (parts_in y) q) ≡ leaves (tree_of (parts_in x) q)

-- a slot later, while one of its parts is settled: all else stays
pub record OnlyPart (p : ℕ) (x y : Slot) : Type 0 where
  pub same : SameFrom x y
  pub answered : answered_in y ≡ answered_in x
  pub trees : (q : ℕ) → q ≢ p → tree_of (parts_in y) q ≡ tree_of (parts_in x) q
  pub given : is_given y ≡ true

-- The parts of a slot from `lo` up to `hi` were settled in turn: only records of these parts were put, in the order of their
-- leaves, and only items that these parts come from were answered.
pub record Turned {I K A C D : Type 0} (gk : Sink.Ghosts K) (ga : Answerer.Ghosts A) (s lo hi : ℕ) (f g : FloorView I K A C D) : Type 0 where
  pub sinks : SinksAdd gk (PutInTurn (parts_in (slot_at f.ledger s)) (number_in (slot_at f.ledger s)) lo hi) f.sinks g.sinks
  pub answers : AnswererAdds ga (CallsInTurn (parts_in (slot_at f.ledger s)) (number_in (slot_at f.ledger s)) lo 0 hi) f.answerer g.answerer
  pub same : is_given (slot_at g.ledger s) ≡ true → SameFrom (slot_at f.ledger s) (slot_at g.ledger s)
  pub policies : g.ledger.policies ≡ f.ledger.policies

-- calls for items of transaction n of which no part is open, in rising order
abbrev pub CallsAtOnce : List Part → (n : ℕ) → List AnswerCall → Type 0
CallsAtOnce ps n cs = AllByRecursion (λ c. (c.number ≡ n) × (open_parts c.item ps ≡ 0)) cs × ItemsRise cs

-- the calls of a delivery: first those for items of which no part is open, and then those by parts
abbrev pub CallsDelivered : List Part → (n : ℕ) → List AnswerCall → Type 0
CallsDelivered ps n cs = (at_once : List AnswerCall) × ((later : List AnswerCall) × ((cs ≡ at_once ++ later) × (CallsAtOnce ps n at_once × CallsInTurn ps n 0 0 (length ps) later)))

-- Transaction n was delivered with these parts, in order: the records are its own, by part and by leaf, and so are the calls,
-- by part and by item.
pub record DeliveredInTurn {I K A C D : Type 0} (gk : Sink.Ghosts K) (ga : Answerer.Ghosts A) (n : ℕ) (ps : List Part) (f g : FloorView I K A C D) : Type 0 where
  pub sinks : SinksAdd gk (PutInTurn ps n 0 (length ps)) f.sinks g.sinks
  pub answers : AnswererAdds ga (CallsDelivered ps n) f.answerer g.answerer

-- calls that refuse each of so many items of transaction n for want of memory, in order
abbrev pub Refusals : (n items : ℕ) → List AnswerCall → Type 0
Refusals n items cs = (length cs ≡ items) × RefusalsFrom n 0 cs

-- There was no memory for the parts of transaction n: no record was put, and each of its items was refused for that, in order.
pub record RefusedInTurn {I K A C D : Type 0} (ga : Answerer.Ghosts A) (n items : ℕ) (f g : FloorView I K A C D) : Type 0 where
  pub sinks : g.sinks ≡ f.sinks
  pub answers : AnswererAdds ga (Refusals n items) f.answerer g.answerer
