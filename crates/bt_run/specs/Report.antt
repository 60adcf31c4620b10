-- What a run says and its status, by how it ended.
use Rattle.std.specs.Prelude.{◌≡◌, ℕ, nat_lt, if◌then◌else◌, List, [], ◌∷◌, ◌++◌, map, take, drop, Option, Some, None, Result, Ok, Err, codes, decimal}
use Rattle.bt_ports.specs.declared.parts.Asked.{Asked}
use Rattle.bt_desk.specs.declared.report.Ending.{Ending}
use Rattle.bt_desk.specs.declared.report.Ending.TheVariants as ending
use Rattle.bt_desk.specs.declared.report.Report.{Report}
use Rattle.bt_commands.specs.Lines.{no_memory_line, failure_line, bound_line, long_line}
use Rattle.bt_commands.specs.declared.limits.TheConstants.{INPUT_BOUND}
use Rattle.bt_config_file.specs.Reading.{refusal_line}
use Rattle.bt_schema.specs.Lines.{line}
use Rattle.bt_run.specs.declared.halt.Halt.{Halt}
use Rattle.bt_run.specs.declared.halt.Halt.TheVariants as halt
use Rattle.bt_run.specs.declared.halt.Unfit.{Unfit}
use Rattle.bt_run.specs.declared.halt.Unfit.TheVariants as unfit
use Rattle.bt_commands.specs.declared.status.Status.{Status}
use Rattle.bt_commands.specs.declared.status.Status.TheVariants as status

-- so many answers failed
abbrev pub answers_line : ℕ → List ℕ
answers_line n = codes "answers: " ++ decimal n ++ codes " faults"

abbrev pub answer_lines : ℕ → List (List ℕ)
answer_lines n = (if nat_lt 0 n then answers_line n ∷ [] else [])

-- the line of a run's fault, where it has one: that of its ending, or else of the answers that failed
abbrev pub fault_lines : Option Ending → (answer_faults : ℕ) → List (List ℕ)
fault_lines None n = []
fault_lines (Some ending.Ended) n = answer_lines n
fault_lines (Some ending.ReadFault) n = codes "source: read fault" ∷ []
fault_lines (Some (ending.LongLine line)) n = long_line line ∷ []
fault_lines (Some ending.Bound) n = bound_line INPUT_BOUND ∷ []
fault_lines (Some ending.NoMemory) n = no_memory_line ∷ []

-- the two lines of the report: what was taken and answered, and the releases by their reason
abbrev pub taken_line : Report → List ℕ
taken_line r = codes "taken " ++ decimal r.taken ++ codes " acknowledged " ++ decimal r.acked ++ codes " refused " ++ decimal r.refused

abbrev pub releases_line : Report → List ℕ
releases_line r =
    codes "releases count " ++ decimal r.count ++ codes " bytes " ++ decimal r.bytes ++ codes " check " ++ decimal r.check ++ codes " period " ++ decimal r.period
    ++ codes " stall " ++ decimal r.stall ++ codes " room " ++ decimal r.room ++ codes " end " ++ decimal r.end

abbrev pub report_lines : Report → List (List ℕ)
report_lines r = fault_lines r.ending r.answer_faults ++ taken_line r ∷ releases_line r ∷ []

-- what is said of a configuration that isn't run: its lints, a line each
abbrev pub unfit_lines : Unfit → List (List ℕ)
unfit_lines (unfit.Refused r) = refusal_line r ∷ []
unfit_lines (unfit.Lints lints) = map line lints
unfit_lines unfit.NotBuilt = codes "config: not built" ∷ []

-- what is said where a run of these calls halted: of the call that failed its name
abbrev pub halt_lines : Halt → List Asked → List (List ℕ)
halt_lines (halt.Failed k) calls = map failure_line (take 1 (drop k calls))
halt_lines (halt.Config u) calls = unfit_lines u
halt_lines halt.NoMemory calls = no_memory_line ∷ []

-- the lines of a run of these calls
abbrev pub run_lines : Result Report Halt → List Asked → List (List ℕ)
run_lines (Ok report) calls = report_lines report
run_lines (Err halt) calls = halt_lines halt calls

-- a run whose input was read to its end: an item that was refused for another cause than memory is named first, and then one for memory
abbrev pub refusal_status : ℕ → ℕ → Status
refusal_status refused refused_memory = (if nat_lt refused_memory refused then status.Refused else (if nat_lt 0 refused_memory then status.Memory else status.Done))

-- and before both an answer that failed
abbrev pub ended_status : (answer_faults refused refused_memory : ℕ) → Status
ended_status answer_faults refused refused_memory = (if nat_lt 0 answer_faults then status.Output else refusal_status refused refused_memory)

-- the status of a run that began: its ending decides, then its answers, and then its refusals. Each such run has an ending
abbrev pub StatusOf : Option Ending → (answer_faults refused refused_memory : ℕ) → Status → Type 0
StatusOf None answer_faults refused refused_memory s = ⊥
StatusOf (Some ending.Ended) answer_faults refused refused_memory s = s ≡ ended_status answer_faults refused refused_memory
StatusOf (Some ending.ReadFault) answer_faults refused refused_memory s = s ≡ status.Input
StatusOf (Some (ending.LongLine n)) answer_faults refused refused_memory s = s ≡ status.Bound
StatusOf (Some ending.Bound) answer_faults refused refused_memory s = s ≡ status.Bound
StatusOf (Some ending.NoMemory) answer_faults refused refused_memory s = s ≡ status.Memory

abbrev pub halt_status : Halt → Status
halt_status (halt.Failed k) = status.Input
halt_status (halt.Config u) = status.Config
halt_status halt.NoMemory = status.Memory

-- the status of a run
abbrev pub HasStatus : Result Report Halt → Status → Type 0
HasStatus (Ok report) s = StatusOf report.ending report.answer_faults report.refused report.refused_memory s
HasStatus (Err halt) s = s ≡ halt_status halt
