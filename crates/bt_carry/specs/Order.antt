-- The order of what a run leaves at its sinks and its answerer, where its plan has no holds.
use Rattle.std.specs.Prelude.{◌≡◌, ℕ, zero, suc, ◌<◌, ◌≤◌, ◌⊎◌, List, [], ◌∷◌, ◌++◌, length, get_or, IsTrue}
use Rattle.std.specs.List.{AllByRecursion}
use Rattle.bt_demand.specs.Parts.{Part}
use Rattle.bt_demand.specs.WellFormed.{leaves}
use Rattle.bt_demand.specs.declared.derive.Derive as Derive
use Rattle.bt_ledger.specs.Open.{tree_of}
use Rattle.bt_ports.specs.declared.outside.Answerer as Answerer
use Rattle.bt_ports.specs.declared.outside.Clock as Clock
use Rattle.bt_ports.specs.declared.outside.Intake as Intake
use Rattle.bt_ports.specs.declared.outside.Sink as Sink
use Rattle.bt_ports.specs.declared.parts.AnswerCall.{AnswerCall}
use Rattle.bt_ports.specs.declared.parts.Record.{Record}
use Rattle.bt_ports.specs.declared.parts.Txn.{Txn}
use Rattle.bt_sound.specs.Transactions.{IsTransaction}
use Rattle.bt_sound.specs.Turns.{AnswererAdds, CallsDelivered, PutInTurn, Refusals, SinksAdd, StandsBefore}
use Rattle.bt_sound.specs.View.{FloorView, Outside}

-- leaf l stands before leaf m in the demand that the plan derives for part p of transaction n of a run
abbrev pub LeafBefore : {I C D : Type 0} → Intake.Ghosts I → Clock.Ghosts C → Derive.Ghosts D → Outside I C D → (n p l m : ℕ) → Type 0
LeafBefore gi gc gd f n p l m = (t : Txn) → IsTransaction gi gc f t → t.number ≡ n → StandsBefore l m (leaves (tree_of (gd.parts f.plan t) p))

-- A record has its place before another: it is of a transaction that was taken earlier, or of an earlier part of the same one,
-- or of a leaf of the same part that stands before the other's.
abbrev pub Precedes : {I C D : Type 0} → Intake.Ghosts I → Clock.Ghosts C → Derive.Ghosts D → Outside I C D → Record → Record → Type 0
Precedes gi gc gd f r s = (r.txn < s.txn) ⊎ ((r.txn ≡ s.txn) × ((r.part < s.part) ⊎ ((r.part ≡ s.part) × LeafBefore gi gc gd f r.txn r.part r.leaf s.leaf)))

-- the records are in input order: each has its place before those that follow
abbrev pub InInputOrder : {I C D : Type 0} → Intake.Ghosts I → Clock.Ghosts C → Derive.Ghosts D → Outside I C D → List Record → Type 0
InInputOrder gi gc gd f [] = Unit {0}
InInputOrder gi gc gd f (r ∷ rs) = AllByRecursion (λ s. Precedes gi gc gd f r s) rs × InInputOrder gi gc gd f rs

-- Calls for transaction n of a run: first those for items that no part comes from or whose parts are settled by themselves, in
-- order, and then part by part those for items that the part comes from, by each part in order of the items; or where there was
-- no memory for its parts a refusal of each item, in order.
abbrev pub AnsweredAs : {I C D : Type 0} → Intake.Ghosts I → Clock.Ghosts C → Derive.Ghosts D → Outside I C D → ℕ → List AnswerCall → Type 0
AnsweredAs gi gc gd f n cs = (t : Txn) → IsTransaction gi gc f t → t.number ≡ n → CallsDelivered (gd.parts f.plan t) n cs ⊎ Refusals n (length t.items.list) cs

-- the calls for transactions 1 to n, one transaction after another
abbrev pub AnsweredInOrder : {I C D : Type 0} → Intake.Ghosts I → Clock.Ghosts C → Derive.Ghosts D → Outside I C D → ℕ → List AnswerCall → Type 0
AnsweredInOrder gi gc gd f zero cs = cs ≡ []
AnsweredInOrder gi gc gd f (suc n) cs = (before : List AnswerCall) × ((here : List AnswerCall) × ((cs ≡ before ++ here) × (AnsweredInOrder gi gc gd f n before × AnsweredAs gi gc gd f (suc n) here)))

-- the records of each sink, accepted and refused, are in input order, and the answers by transaction
pub record AllOrdered {I K A C D : Type 0} (gi : Intake.Ghosts I) (gk : Sink.Ghosts K) (ga : Answerer.Ghosts A) (gc : Clock.Ghosts C) (gd : Derive.Ghosts D) (f : Outside I C D) (ks : List K) (a : A) : Type 0 where
  pub accepted : (k : ℕ) (d : K) → k < length ks → InInputOrder gi gc gd f (gk.accepted (get_or ks k d))
  pub refused : (k : ℕ) (d : K) → k < length ks → InInputOrder gi gc gd f (gk.refused (get_or ks k d))
  pub answers : AnsweredInOrder gi gc gd f f.taken (ga.calls a)

-- records in input order, of transactions that were taken
abbrev pub PutSoFar : {I C D : Type 0} → Intake.Ghosts I → Clock.Ghosts C → Derive.Ghosts D → Outside I C D → List Record → Type 0
PutSoFar gi gc gd f rs = InInputOrder gi gc gd f rs × AllByRecursion (λ r. r.txn ≤ f.taken) rs

-- A run over a plan without holds so far: where intake and clock tell, what the sinks and the answerer tell is in order, and
-- of transactions that were taken.
pub record OrderedSoFar {I K A C D : Type 0} (gi : Intake.Ghosts I) (gk : Sink.Ghosts K) (ga : Answerer.Ghosts A) (gc : Clock.Ghosts C) (gd : Derive.Ghosts D) (f : FloorView I K A C D) : Type 0 where
  pub plan : gd.policies f.outside.plan ≡ []
  pub unheld : f.ledger.policies ≡ []
  pub accepted : IsTrue (gi.tells f.outside.intake) → IsTrue (gc.tells f.outside.clock) → (k : ℕ) (d : K) → k < length f.sinks → IsTrue (gk.tells (get_or f.sinks k d)) → PutSoFar gi gc gd f.outside (gk.accepted (get_or f.sinks k d))
  pub refused : IsTrue (gi.tells f.outside.intake) → IsTrue (gc.tells f.outside.clock) → (k : ℕ) (d : K) → k < length f.sinks → IsTrue (gk.tells (get_or f.sinks k d)) → PutSoFar gi gc gd f.outside (gk.refused (get_or f.sinks k d))
  pub answers : IsTrue (gi.tells f.outside.intake) → IsTrue (gc.tells f.outside.clock) → IsTrue (ga.tells f.answerer) → AnsweredInOrder gi gc gd f.outside f.outside.taken (ga.calls f.answerer)

-- what delivering a transaction with these parts and so many items adds: its own records, by part and by leaf, and its answers
pub record AddsInTurn {I K A C D : Type 0} (gk : Sink.Ghosts K) (ga : Answerer.Ghosts A) (n items : ℕ) (ps : List Part) (f g : FloorView I K A C D) : Type 0 where
  pub sinks : SinksAdd gk (PutInTurn ps n 0 (length ps)) f.sinks g.sinks
  pub answers : AnswererAdds ga (λ cs. CallsDelivered ps n cs ⊎ Refusals n items cs) f.answerer g.answerer
