use Rattle.std.specs.Prelude.{◌≡◌, ℕ, ◌+◌, ◌^◌, ◌<◌, ◌≤◌, List, [], ◌∷◌, length, sum_by, take, count_by, IsTrue, Option, Some, None, IsSome, slice_get, ◌⊎◌}
use Rattle.bt_ports.specs.declared.parts.Next.{Next}
use Rattle.bt_ports.specs.declared.parts.Next.TheVariants as next
use Rattle.bt_ports.specs.declared.outside.Sink as Sink
use Rattle.bt_ports.specs.declared.outside.Intake as Intake
use Rattle.bt_ports.specs.declared.outside.Answerer as Answerer
use Rattle.bt_ports.specs.declared.outside.Clock as Clock
use Rattle.bt_ports.specs.Intake.{InputStop, input_end, line_too_long, bound_met}
use Rattle.bt_desk.specs.declared.report.Ending.{Ending}
use Rattle.bt_desk.specs.declared.report.Ending.TheVariants as ending
use Rattle.bt_desk.specs.declared.report.Report.{Report}
use Rattle.bt_desk.specs.declared.report.Out.{Out}
use Rattle.bt_desk.specs.History.{Settled, Numbered, numbered, items_of, was_accepted, was_refused, has_failed_answer, accepted_records, refused_records, answers}
use Rattle.bt_desk.specs.DeskView.{DeskView, run_of}

-- the ending that an intake's answer other than a batch is
abbrev pub ending_of : Option Next → Option Ending
ending_of None = None
ending_of (Some (next.Batch items)) = None
ending_of (Some next.End) = Some ending.Ended
ending_of (Some next.Failed) = Some ending.ReadFault
ending_of (Some (next.LongLine n)) = Some (ending.LongLine n)
ending_of (Some next.Bound) = Some ending.Bound
ending_of (Some next.NoMemory) = Some ending.NoMemory

-- all batches of the run were taken, where it ended by its end, a line past its limit or the bound: t is how many were taken, n how many there are
abbrev pub TakesWhole : Option Ending → ℕ → ℕ → Type 0
TakesWhole None t n = Unit {0}
TakesWhole (Some ending.Ended) t n = t ≡ n
TakesWhole (Some ending.ReadFault) t n = Unit {0}
TakesWhole (Some (ending.LongLine m)) t n = t ≡ n
TakesWhole (Some ending.Bound) t n = t ≡ n
TakesWhole (Some ending.NoMemory) t n = Unit {0}

-- the ending is the stop that the intake's list has, where it is the end, a line past its limit or a bound
abbrev pub IsStop : Option Ending → InputStop → (bound : ℕ) → Type 0
IsStop None stop bound = Unit {0}
IsStop (Some ending.Ended) stop bound = stop ≡ input_end
IsStop (Some ending.ReadFault) stop bound = Unit {0}
IsStop (Some (ending.LongLine n)) stop bound = stop ≡ line_too_long n
IsStop (Some ending.Bound) stop bound = stop ≡ bound_met bound
IsStop (Some ending.NoMemory) stop bound = Unit {0}

-- a run that ended by a read fault counted one
abbrev pub FaultCounted : Option Ending → ℕ → Type 0
FaultCounted None faults = Unit {0}
FaultCounted (Some ending.Ended) faults = Unit {0}
FaultCounted (Some ending.ReadFault) faults = 1 ≤ faults
FaultCounted (Some (ending.LongLine m)) faults = Unit {0}
FaultCounted (Some ending.Bound) faults = Unit {0}
FaultCounted (Some ending.NoMemory) faults = Unit {0}

-- the report of a desk that took t transactions, delivered these items, and ended so: each number is what the items say,
-- and nothing was released or refused for want of memory
abbrev pub report_of : ℕ → List (Numbered Settled) → Option Ending → Report
report_of t ps e =
    record {
      taken = t;
      acked = count_by was_accepted ps;
      refused = count_by was_refused ps;
      refused_memory = 0;
      answer_faults = count_by has_failed_answer ps;
      count = 0;
      bytes = 0;
      check = 0;
      period = 0;
      stall = 0;
      room = 0;
      end = 0;
      ending = e;
    }

-- how many items the transactions that are out have
abbrev pub out_items : List Out → ℕ
out_items out = sum_by (λ (o : Out). o.items) out

-- the desk stands with this history of delivered transactions
pub record StandsWith {I K A C : Type 0} (gi : Intake.Ghosts I) (gk : Sink.Ghosts K) (ga : Answerer.Ghosts A) (gc : Clock.Ghosts C) (d : DeskView I K A C) (history : List (List Settled)) : Type 0 where
  -- the taken transactions are those of the history and then at most one more, which is out and has the number of the last
  pub taken : length history + length d.out ≡ d.report.taken
  pub out : (d.out ≡ []) ⊎ ((n : ℕ) × (d.out ≡ record { number = d.report.taken; items = n } ∷ []) × (n < 2 ^ 32))
  -- the taken transactions are the first of the run
  pub given : IsTrue (gi.tells d.intake) → d.report.taken ≤ gi.given d.intake
  pub items : IsTrue (gi.tells d.intake) → items_of history ≡ take (length history) (run_of gi d)
  -- the clock was read once for each of them, and at no other time
  pub read : IsTrue (gc.tells d.clock) → gc.made d.clock ≡ d.report.taken
  -- the one sink has one record of each item of the history, accepted or refused, and no other
  pub one_sink : length d.sinks.list ≡ 1
  pub accepted : (k : K) → slice_get d.sinks.list 0 ≡ Some k → IsTrue (gk.tells k) → gk.accepted k ≡ accepted_records (numbered history)
  pub refused : (k : K) → slice_get d.sinks.list 0 ≡ Some k → IsTrue (gk.tells k) → gk.refused k ≡ refused_records (numbered history)
  -- the answerer has one call for each item of the history, and no other
  pub answered : IsTrue (ga.tells d.answerer) → ga.calls d.answerer ≡ answers (numbered history)
  -- a record is refused, and an answer fails, only where a fault was counted
  pub sink_fault : (k : K) → slice_get d.sinks.list 0 ≡ Some k → gk.faults k ≡ 0 → count_by was_refused (numbered history) ≡ 0
  pub answer_fault : ga.faults d.answerer ≡ 0 → count_by has_failed_answer (numbered history) ≡ 0
  -- the report counts the history, and its ending is the intake's answer other than a batch
  pub report : d.report ≡ report_of d.report.taken (numbered history) d.report.ending
  pub ending : d.report.ending ≡ ending_of (gi.stopped d.intake)
  pub goes : d.report.ending ≡ None → gi.stopped d.intake ≡ None
  pub whole : IsTrue (gi.tells d.intake) → TakesWhole d.report.ending d.report.taken (length (run_of gi d))
  pub stop : IsTrue (gi.tells d.intake) → IsStop d.report.ending (gi.stop d.intake) (gi.bound d.intake)
  pub read_fault : FaultCounted d.report.ending (gi.faults d.intake)
  pub finished : IsTrue d.finished → (d.out ≡ []) × IsSome d.report.ending
  -- no count of transactions or items passes this bound
  pub few : d.report.taken + gi.left d.intake < 2 ^ 56
  pub bounded : length (numbered history) + (out_items d.out + gi.left d.intake) < 2 ^ 56

-- what holds between any two calls of a desk: it stands with some history
abbrev pub Stands : {I K A C : Type 0} → Intake.Ghosts I → Sink.Ghosts K → Answerer.Ghosts A → Clock.Ghosts C → DeskView I K A C → Type 0
Stands {I} {K} {A} {C} gi gk ga gc d = (history : List (List Settled)) × StandsWith gi gk ga gc d history
