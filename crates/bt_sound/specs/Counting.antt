-- The counts of a run: what an answer and a release add, and what they are the numbers of.
use Rattle.std.specs.Prelude.{◌≡◌, ℕ, ◌+◌, ◌<◌, Bool, true, false, not, List, [], ◌∷◌, min, count_by, sum}
use Rattle.std.specs.List.{AllByRecursion}
use Rattle.bt_ledger.specs.declared.reason.Reason.{Reason}
use Rattle.bt_ledger.specs.declared.reason.Reason.TheVariants as reason
use Rattle.bt_ports.specs.Faults.{one_more, last_count}
use Rattle.bt_ports.specs.declared.parts.AnswerCall.{AnswerCall}
use Rattle.bt_ports.specs.declared.parts.Cause.TheVariants.{SinkFault, Rejected, NoMemory}
use Rattle.bt_ports.specs.declared.parts.Verdict.{Verdict}
use Rattle.bt_ports.specs.declared.parts.Verdict.TheVariants.{Ack, Refused}
use Rattle.bt_sound.specs.declared.counts.Counts.{Counts}

abbrev pub verdict_with : Verdict → Counts → Counts
verdict_with Ack c = record c { acked = one_more c.acked }
verdict_with (Refused (SinkFault l p)) c = record c { refused = one_more c.refused }
verdict_with (Refused (Rejected p)) c = record c { refused = one_more c.refused }
verdict_with (Refused NoMemory) c = record c { refused = one_more c.refused; refused_memory = one_more c.refused_memory }

-- the counts after an answer of that verdict, which failed or not
abbrev pub answer_with : Verdict → Bool → Counts → Counts
answer_with v true c = record (verdict_with v c) { answer_faults = one_more c.answer_faults }
answer_with v false c = verdict_with v c

-- the counts after a release for that reason
abbrev pub count_with : Reason → Counts → Counts
count_with reason.Count c = record c { count = one_more c.count }
count_with reason.Bytes c = record c { bytes = one_more c.bytes }
count_with reason.Check c = record c { check = one_more c.check }
count_with reason.Period c = record c { period = one_more c.period }
count_with reason.Stall c = record c { stall = one_more c.stall }
count_with reason.Room c = record c { room = one_more c.room }
count_with reason.End c = record c { end = one_more c.end }

abbrev pub acks : Verdict → Bool
acks Ack = true
acks (Refused cause) = false

abbrev pub wants_memory : Verdict → Bool
wants_memory Ack = false
wants_memory (Refused (SinkFault l p)) = false
wants_memory (Refused (Rejected p)) = false
wants_memory (Refused NoMemory) = true

-- a count of so many, which stands still at its last value
abbrev pub capped : ℕ → ℕ
capped n = min n last_count

-- the counts are the numbers of the calls at the answerer: acknowledgements, refusals, those for want of memory, and
-- calls that failed
pub record AnswersCounted (cs : List AnswerCall) (c : Counts) : Type 0 where
  pub acked : c.acked ≡ capped (count_by (λ (x : AnswerCall). acks x.verdict) cs)
  pub refused : c.refused ≡ capped (count_by (λ (x : AnswerCall). not (acks x.verdict)) cs)
  pub refused_memory : c.refused_memory ≡ capped (count_by (λ (x : AnswerCall). wants_memory x.verdict) cs)
  pub answer_faults : c.answer_faults ≡ capped (count_by (λ (x : AnswerCall). x.failed) cs)

-- no count of releases is at its last value
pub record BelowLast (releases : List ℕ) (c : Counts) : Type 0 where
  pub holds : AllByRecursion (λ n. n < last_count) releases
  pub count : c.count < last_count
  pub bytes : c.bytes < last_count
  pub check : c.check < last_count
  pub period : c.period < last_count
  pub stall : c.stall < last_count
  pub room : c.room < last_count
  pub end : c.end < last_count

abbrev pub by_reason : Counts → ℕ
by_reason c = c.count + c.bytes + c.check + c.period + c.stall + c.room + c.end

-- the releases of all holds sum to those by reason
abbrev pub ReleasesSum : List ℕ → Counts → Type 0
ReleasesSum releases c = BelowLast releases c → sum releases ≡ by_reason c

-- the counts after these calls
abbrev pub counts_after : List AnswerCall → Counts → Counts
counts_after [] k = k
counts_after (c ∷ cs) k = counts_after cs (answer_with c.verdict c.failed k)

-- nothing was answered or released yet
abbrev pub no_counts : Counts
no_counts = record { acked = 0; refused = 0; refused_memory = 0; answer_faults = 0; count = 0; bytes = 0; check = 0; period = 0; stall = 0; room = 0; end = 0 }
