-- Runs in which nothing failed, and what they deliver.
use Rattle.std.specs.Prelude.{◌≡◌, ℕ, ◌<◌, ◌≤◌, List, [], map, length, get_or}
use Rattle.bt_carry.specs.Account.{Answered, IsPutFor}
use Rattle.bt_carry.specs.Order.{InInputOrder}
use Rattle.bt_carry.specs.Settled.{all_accepted, EachRecord}
use Rattle.bt_demand.specs.Asked.{IsClean, Owed, owed}
use Rattle.bt_demand.specs.Parts.{Part}
use Rattle.bt_demand.specs.declared.derive.Derive as Derive
use Rattle.bt_ledger.specs.Due.{times}
use Rattle.bt_ledger.specs.Open.{tree_of}
use Rattle.bt_ports.specs.declared.outside.Answerer as Answerer
use Rattle.bt_ports.specs.declared.outside.Clock as Clock
use Rattle.bt_ports.specs.declared.outside.Intake as Intake
use Rattle.bt_ports.specs.declared.outside.Sink as Sink
use Rattle.bt_ports.specs.declared.parts.Txn.{Txn}
use Rattle.bt_ports.specs.declared.parts.Verdict.TheVariants.{Ack}
use Rattle.bt_runner.specs.Ran.{ending_as}
use Rattle.bt_runner.specs.declared.run.Ran.{Ran}
use Rattle.bt_sound.specs.Records.{records_of}
use Rattle.bt_sound.specs.Transactions.{IsTransaction}

-- Nothing failed in a run that is over: no sink counted a fault, there was memory for the parts of each transaction, and no
-- demand that the plan derives for one leads to a reject while no sink refuses anything.
pub record WentWell {I K A C D : Type 0} (gi : Intake.Ghosts I) (gk : Sink.Ghosts K) (gc : Clock.Ghosts C) (gd : Derive.Ghosts D) (plan : D) (r : Ran I K A C) : Type 0 where
  pub sinks : (k : ℕ) (d : K) → k < length r.parts.sinks.list → gk.faults (get_or r.parts.sinks.list k d) ≡ 0
  pub memory : r.report.counts.refused_memory ≡ 0
  pub clean : (t : Txn) → IsTransaction gi gc (ending_as plan r) t → (p : ℕ) → IsClean (tree_of (gd.parts plan t) p)

-- the leaves whose records a demand owes, where no sink refuses any
abbrev pub owed_leaves : List Owed → List ℕ
owed_leaves os = map (λ (o : Owed). o.leaf) os

-- A transaction with these parts was delivered. Each of its items has one answer, an acknowledgement. The sinks accepted one
-- record of it for each leaf that its parts owe, and no other, each put to its leaf's sink with its bytes.
pub record IsDelivered {K A : Type 0} (gk : Sink.Ghosts K) (ga : Answerer.Ghosts A) (ks : List K) (a : A) (t : Txn) (ps : List Part) : Type 0 where
  pub acknowledged : Answered t.number (length t.items.list) (λ i. Ack) (λ i. []) (ga.calls a)
  pub accepted : (p l : ℕ) → records_of t.number p l (all_accepted gk ks) ≡ times l (owed_leaves (owed (tree_of ps p)))
  pub own : EachRecord gk ks (λ k r. r.txn ≡ t.number → IsPutFor k ps r)

-- transaction n of a run was delivered, if it has an item
pub record HasDelivered {I K A C D : Type 0} (gi : Intake.Ghosts I) (gk : Sink.Ghosts K) (ga : Answerer.Ghosts A) (gc : Clock.Ghosts C) (gd : Derive.Ghosts D) (plan : D) (r : Ran I K A C) (n : ℕ) : Type 0 where
  pub txn : Txn
  pub is : IsTransaction gi gc (ending_as plan r) txn
  pub number : txn.number ≡ n
  pub delivered : 1 ≤ length txn.items.list → IsDelivered gk ga r.parts.sinks.list r.parts.answerer txn (gd.parts plan txn)

-- So was each that was taken, and no sink refused anything. Where the plan has no holds, each sink has its records in input
-- order.
pub record AllDelivered {I K A C D : Type 0} (gi : Intake.Ghosts I) (gk : Sink.Ghosts K) (ga : Answerer.Ghosts A) (gc : Clock.Ghosts C) (gd : Derive.Ghosts D) (plan : D) (r : Ran I K A C) : Type 0 where
  pub each : (n : ℕ) → 1 ≤ n → n ≤ r.report.taken → HasDelivered gi gk ga gc gd plan r n
  pub refused : (k : ℕ) (d : K) → k < length r.parts.sinks.list → gk.refused (get_or r.parts.sinks.list k d) ≡ []
  pub order : gd.policies plan ≡ [] → (k : ℕ) (d : K) → k < length r.parts.sinks.list → InInputOrder gi gc gd (ending_as plan r) (gk.accepted (get_or r.parts.sinks.list k d))
