-- What a finished run says of the lists that its sink and its answerer tell.
use Rattle.std.specs.Prelude.{◌≡◌, ℕ, ◌<◌, ◌⊎◌, List, [], take, length, count_by, not, Bool, true, false, IsTrue, Some, slice_get, AllPairs}
use Rattle.bt_ports.specs.declared.parts.Record.{Record}
use Rattle.bt_ports.specs.declared.parts.AnswerCall.{AnswerCall}
use Rattle.bt_ports.specs.declared.parts.Verdict.{Verdict}
use Rattle.bt_ports.specs.declared.parts.Verdict.TheVariants.{Ack, Refused}
use Rattle.bt_ports.specs.declared.outside.Sink as Sink
use Rattle.bt_ports.specs.declared.outside.Intake as Intake
use Rattle.bt_ports.specs.declared.outside.Answerer as Answerer
use Rattle.bt_desk.specs.DeskView.{DeskView, run_of}
use Rattle.bt_desk.specs.History.{records_of, acks_of}

-- the numbers of a transaction and of an item there come before two others: of an earlier transaction, or earlier in the same
abbrev pub IsBefore : ℕ → ℕ → ℕ → ℕ → Type 0
IsBefore txn number txn' number' = (txn < txn') ⊎ ((txn ≡ txn') × (number < number'))

abbrev pub IsRecordBefore : Record → Record → Type 0
IsRecordBefore a b = IsBefore a.txn a.part b.txn b.part

abbrev pub IsCallBefore : AnswerCall → AnswerCall → Type 0
IsCallBefore a b = IsBefore a.number a.item b.number b.item

-- each record comes before all later ones, by transaction and part
abbrev pub RecordsRise : List Record → Type 0
RecordsRise records = AllPairs IsRecordBefore records

-- each call comes before all later ones, by transaction and item
abbrev pub CallsRise : List AnswerCall → Type 0
CallsRise calls = AllPairs IsCallBefore calls

-- each list rises
pub record Rises {I K A C : Type 0} (gk : Sink.Ghosts K) (ga : Answerer.Ghosts A) (d : DeskView I K A C) : Type 0 where
  pub accepted : (k : K) → slice_get d.sinks.list 0 ≡ Some k → IsTrue (gk.tells k) → RecordsRise (gk.accepted k)
  pub refused : (k : K) → slice_get d.sinks.list 0 ≡ Some k → IsTrue (gk.tells k) → RecordsRise (gk.refused k)
  pub answered : IsTrue (ga.tells d.answerer) → CallsRise (ga.calls d.answerer)

abbrev pub is_ack : Verdict → Bool
is_ack Ack = true
is_ack (Refused cause) = false

abbrev pub acknowledges : AnswerCall → Bool
acknowledges call = is_ack call.verdict

abbrev pub refuses : AnswerCall → Bool
refuses call = not (is_ack call.verdict)

abbrev pub has_failed : AnswerCall → Bool
has_failed call = call.failed

-- the report's numbers are what the lists say
pub record Counts {I K A C : Type 0} (gk : Sink.Ghosts K) (ga : Answerer.Ghosts A) (d : DeskView I K A C) : Type 0 where
  pub accepted : (k : K) → slice_get d.sinks.list 0 ≡ Some k → IsTrue (gk.tells k) → d.report.acked ≡ length (gk.accepted k)
  pub refused : (k : K) → slice_get d.sinks.list 0 ≡ Some k → IsTrue (gk.tells k) → d.report.refused ≡ length (gk.refused k)
  pub acknowledged : IsTrue (ga.tells d.answerer) → d.report.acked ≡ count_by acknowledges (ga.calls d.answerer)
  pub others : IsTrue (ga.tells d.answerer) → d.report.refused ≡ count_by refuses (ga.calls d.answerer)
  pub failed : IsTrue (ga.tells d.answerer) → d.report.answer_faults ≡ count_by has_failed (ga.calls d.answerer)

-- where the sink counted no fault, each item that was taken has its accepted record, in order, and none was refused.
-- Where the answerer counted none either, each has one acknowledgement, in order, and there is no other call
pub record IsClean {I K A C : Type 0} (gi : Intake.Ghosts I) (gk : Sink.Ghosts K) (ga : Answerer.Ghosts A) (d : DeskView I K A C) : Type 0 where
  pub written : (k : K) → slice_get d.sinks.list 0 ≡ Some k → gk.faults k ≡ 0 → IsTrue (gi.tells d.intake) → IsTrue (gk.tells k)
      → (gk.accepted k ≡ records_of (take d.report.taken (run_of gi d))) × (gk.refused k ≡ [])
  pub answered : (k : K) → slice_get d.sinks.list 0 ≡ Some k → gk.faults k ≡ 0 → ga.faults d.answerer ≡ 0 → IsTrue (gi.tells d.intake) → IsTrue (ga.tells d.answerer)
      → ga.calls d.answerer ≡ acks_of (take d.report.taken (run_of gi d))
