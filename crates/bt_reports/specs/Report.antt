-- What is said of a run that is over, and its status.
use Rattle.std.specs.Prelude.{◌≡◌, ℕ, nat_lt, if◌then◌else◌, List, [], ◌∷◌, ◌++◌, Option, Some, None, codes, decimal}
use Rattle.bt_commands.specs.Lines.{no_memory_line, bound_line, long_line}
use Rattle.bt_commands.specs.declared.status.Status.{Status}
use Rattle.bt_commands.specs.declared.status.Status.TheVariants as status
use Rattle.bt_duties.specs.declared.report.Report.{Report}
use Rattle.bt_sound.specs.declared.counts.Ending.{Ending}
use Rattle.bt_sound.specs.declared.counts.Ending.TheVariants as ending

-- so many answers failed
abbrev pub answers_line : ℕ → List ℕ
answers_line n = codes "answers: " ++ decimal n ++ codes " faults"

abbrev pub answer_lines : ℕ → List (List ℕ)
answer_lines n = (if nat_lt 0 n then answers_line n ∷ [] else [])

-- the line of a run's fault, where it has one: that of its ending, or else of the answers that failed. `bound` is how many
-- bytes the input takes at most
abbrev pub fault_lines : (bound : ℕ) → Option Ending → (answer_faults : ℕ) → List (List ℕ)
fault_lines bound None n = []
fault_lines bound (Some ending.Ended) n = answer_lines n
fault_lines bound (Some ending.ReadFault) n = codes "source: read fault" ∷ []
fault_lines bound (Some (ending.LongLine line)) n = long_line line ∷ []
fault_lines bound (Some ending.Bound) n = bound_line bound ∷ []
fault_lines bound (Some ending.NoMemory) n = no_memory_line ∷ []

-- the two lines of the report: what was taken and answered, and the releases by their reason
abbrev pub taken_line : Report → List ℕ
taken_line r = codes "taken " ++ decimal r.taken ++ codes " acknowledged " ++ decimal r.counts.acked ++ codes " refused " ++ decimal r.counts.refused

abbrev pub releases_line : Report → List ℕ
releases_line r =
    codes "releases count " ++ decimal r.counts.count ++ codes " bytes " ++ decimal r.counts.bytes ++ codes " check " ++ decimal r.counts.check ++ codes " period " ++ decimal r.counts.period
    ++ codes " stall " ++ decimal r.counts.stall ++ codes " room " ++ decimal r.counts.room ++ codes " end " ++ decimal r.counts.end

abbrev pub report_lines : (bound : ℕ) → Report → List (List ℕ)
report_lines bound r = fault_lines bound r.ending r.counts.answer_faults ++ taken_line r ∷ releases_line r ∷ []

-- a run whose input was read to its end: an item that was refused for another cause than memory is named first, and then one for memory
abbrev pub refusal_status : ℕ → ℕ → Status
refusal_status refused refused_memory = (if nat_lt refused_memory refused then status.Refused else (if nat_lt 0 refused_memory then status.Memory else status.Done))

-- and before both an answer that failed
abbrev pub ended_status : (answer_faults refused refused_memory : ℕ) → Status
ended_status answer_faults refused refused_memory = (if nat_lt 0 answer_faults then status.Output else refusal_status refused refused_memory)

-- the status of a run that began: its ending decides, then its answers, and then its refusals. Each such run has an ending
abbrev pub StatusOf : Option Ending → (answer_faults refused refused_memory : ℕ) → Status → Type 0
StatusOf None answer_faults refused refused_memory s = ⊥
StatusOf (Some ending.Ended) answer_faults refused refused_memory s = s ≡ ended_status answer_faults refused refused_memory
StatusOf (Some ending.ReadFault) answer_faults refused refused_memory s = s ≡ status.Input
StatusOf (Some (ending.LongLine n)) answer_faults refused refused_memory s = s ≡ status.Bound
StatusOf (Some ending.Bound) answer_faults refused refused_memory s = s ≡ status.Bound
StatusOf (Some ending.NoMemory) answer_faults refused refused_memory s = s ≡ status.Memory
