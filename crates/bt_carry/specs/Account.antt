-- The account of a run that is over: what became of each transaction that was taken.
use Rattle.std.specs.Prelude.{◌≡◌, ◌≢◌, ℕ, ◌+◌, ◌<◌, ◌≤◌, ltb, Bool, true, false, List, [], length, get_or, IsTrue, Option, Some, None}
use Rattle.std.specs.List.{AllByRecursion}
use Rattle.bt_carry.specs.Settled.{all_accepted, all_refused, settled, EachRecord}
use Rattle.bt_demand.specs.Asked.{asked}
use Rattle.bt_demand.specs.Holding.{one_if}
use Rattle.bt_demand.specs.Parts.{Part}
use Rattle.bt_demand.specs.declared.derive.Derive as Derive
use Rattle.bt_leaves.specs.LeafAt.{LeafAt}
use Rattle.bt_ledger.specs.Due.{times}
use Rattle.bt_ledger.specs.Open.{tree_of}
use Rattle.bt_ledger.specs.Verdicts.{lost_from, verdict_by, why_by}
use Rattle.bt_ports.specs.declared.outside.Answerer as Answerer
use Rattle.bt_ports.specs.declared.outside.Clock as Clock
use Rattle.bt_ports.specs.declared.outside.Intake as Intake
use Rattle.bt_ports.specs.declared.outside.Sink as Sink
use Rattle.bt_ports.specs.declared.parts.AnswerCall.{AnswerCall}
use Rattle.bt_ports.specs.declared.parts.Cause.TheVariants.{NoMemory}
use Rattle.bt_ports.specs.declared.parts.Record.{Record}
use Rattle.bt_ports.specs.declared.parts.Txn.{Txn}
use Rattle.bt_ports.specs.declared.parts.Verdict.{Verdict}
use Rattle.bt_ports.specs.declared.parts.Verdict.TheVariants.{Refused}
use Rattle.bt_sound.specs.Answers.{calls_for}
use Rattle.bt_sound.specs.Counting.{AnswersCounted}
use Rattle.bt_sound.specs.Records.{records_of}
use Rattle.bt_sound.specs.Transactions.{IsTransaction}
use Rattle.bt_sound.specs.View.{Outside}
use Rattle.bt_sound.specs.declared.counts.Counts.{Counts}

-- The verdict on an item by the parts that come from it: of the least lost one its least refused leaf, or that it was
-- rejected, and an acknowledgement where none is lost.
abbrev pub verdict_on : List Part → ℕ → Verdict
verdict_on ps i = verdict_by ps (lost_from i 0 ps)

-- the text that says why: of a rejected part that of its reject, and no text for every other verdict
abbrev pub why_on : List Part → ℕ → List ℕ
why_on ps i = why_by ps (lost_from i 0 ps)

-- Each item of transaction n has one call, its items being so many, and each of its calls carries this verdict and text.
pub record Answered (n items : ℕ) (verdict : ℕ → Verdict) (why : ℕ → List ℕ) (calls : List AnswerCall) : Type 0 where
  pub once : (i : ℕ) → calls_for n i calls ≡ one_if (ltb i items)
  pub says : AllByRecursion (λ c. c.number ≡ n → (c.verdict ≡ verdict c.item) × (c.why ≡ why c.item)) calls

-- the batch number of a record: 0 where no hold stands over its leaf, else that of a release, counted from 1
abbrev pub HasBatch : (over : Option ℕ) → (batch : ℕ) → Type 0
HasBatch None batch = batch ≡ 0
HasBatch (Some hold) batch = 1 ≤ batch

-- a record was put to sink k for a leaf of these parts: its part has a leaf of its number, with that sink and its bytes
pub record IsPutFor (k : ℕ) (ps : List Part) (r : Record) : Type 0 where
  pub over : Option ℕ
  pub leaf : LeafAt None r.leaf k r.bytes over (tree_of ps r.part)
  pub batch : HasBatch over r.batch

-- The records of transaction n, whose parts were settled so: one for each asked leaf, to that leaf's sink with its bytes,
-- and no other.
pub record Put {K : Type 0} (g : Sink.Ghosts K) (ks : List K) (n : ℕ) (ps : List Part) : Type 0 where
  pub each : (p l : ℕ) → records_of n p l (all_accepted g ks) + records_of n p l (all_refused g ks) ≡ times l (asked (tree_of ps p))
  pub own : EachRecord g ks (λ k r. r.txn ≡ n → IsPutFor k ps r)

-- What became of transaction n, which has these parts by the plan and so many items. Either there was no memory for its
-- parts: then each item is refused for that, and no sink has a record of it. Or each item has the verdict of its parts, and
-- the records are those of the asked leaves.
abbrev pub Became : {K A : Type 0} → Sink.Ghosts K → Answerer.Ghosts A → List K → A → (n items : ℕ) → List Part → (without_memory : Bool) → Type 0
Became gk ga ks a n items ps true = Answered n items (λ i. Refused NoMemory) (λ i. []) (ga.calls a) × EachRecord gk ks (λ k r. r.txn ≢ n)
Became gk ga ks a n items ps false = Answered n items (verdict_on (settled gk ks n ps)) (why_on (settled gk ks n ps)) (ga.calls a) × Put gk ks n (settled gk ks n ps)

-- transaction n of a run was closed
pub record Closed {I K A C D : Type 0} (gi : Intake.Ghosts I) (gk : Sink.Ghosts K) (ga : Answerer.Ghosts A) (gc : Clock.Ghosts C) (gd : Derive.Ghosts D) (f : Outside I C D) (ks : List K) (a : A) (n : ℕ) : Type 0 where
  pub txn : Txn
  pub is : IsTransaction gi gc f txn
  pub number : txn.number ≡ n
  pub without_memory : Bool
  pub became : Became gk ga ks a n (length txn.items.list) (gd.parts f.plan txn) without_memory

-- Sinks, an answerer and counts are those of a run that is over: each transaction that was taken is closed, there is no
-- other record and no other call, a record was refused only where its sink counted a fault, a call failed only where the
-- answerer counted one, and the counts are the numbers of calls.
pub record Account {I K A C D : Type 0} (gi : Intake.Ghosts I) (gk : Sink.Ghosts K) (ga : Answerer.Ghosts A) (gc : Clock.Ghosts C) (gd : Derive.Ghosts D) (f : Outside I C D) (ks : List K) (a : A) (c : Counts) : Type 0 where
  pub closed : (n : ℕ) → 1 ≤ n → n ≤ f.taken → Closed gi gk ga gc gd f ks a n
  pub records : EachRecord gk ks (λ k r. (1 ≤ r.txn) × (r.txn ≤ f.taken))
  pub calls : AllByRecursion (λ x. (1 ≤ x.number) × (x.number ≤ f.taken)) (ga.calls a)
  pub faults : (k : ℕ) (d : K) → k < length ks → gk.faults (get_or ks k d) ≡ 0 → gk.refused (get_or ks k d) ≡ []
  pub answer_faults : ga.faults a ≡ 0 → AllByRecursion (λ x. x.failed ≡ false) (ga.calls a)
  pub counted : AnswersCounted (ga.calls a) c

-- intake, clock, sinks and answerer tell what they hold
pub record AllTell {I K A C D : Type 0} (gi : Intake.Ghosts I) (gk : Sink.Ghosts K) (ga : Answerer.Ghosts A) (gc : Clock.Ghosts C) (f : Outside I C D) (ks : List K) (a : A) : Type 0 where
  pub intake : IsTrue (gi.tells f.intake)
  pub sinks : (k : ℕ) (d : K) → k < length ks → IsTrue (gk.tells (get_or ks k d))
  pub answerer : IsTrue (ga.tells a)
  pub clock : IsTrue (gc.tells f.clock)
