-- Which calls of the world a run makes, in which order, and which of them it made where it halted.
use Rattle.std.specs.Prelude.{◌≡◌, ℕ, List, [], ◌∷◌, ◌++◌, take, Option, Some, None, Result, Ok, Err, codes, slice_get}
use Rattle.bt_config_file.specs.Reading.{config_reading}
use Rattle.bt_ports.specs.declared.parts.What.TheVariants.{Sink, Answers}
use Rattle.bt_ports.specs.declared.parts.Asked.{Asked}
use Rattle.bt_desk.specs.declared.report.Report.{Report}
use Rattle.bt_commands.specs.Calls.{asked, failed, source_opening}
use Rattle.bt_run.specs.declared.halt.Halt.{Halt}
use Rattle.bt_run.specs.declared.halt.Halt.TheVariants as halt

-- the opening of the one sink, which writes a line feed after each message
abbrev pub sink_opening : Asked
sink_opening = asked Sink (Some (codes "stdout")) (Some (10 ∷ []))

-- the opening of the answers, with their file where there is one
abbrev pub answers_opening : Option (List ℕ) → Asked
answers_opening answers = asked Answers answers None

-- the calls that a run makes, each once and in this order
abbrev pub plan : List ℕ → Option (List ℕ) → List Asked
plan config answers = config_reading config ∷ sink_opening ∷ answers_opening answers ∷ source_opening ∷ []

-- the part of the world's list of calls that is the run's. One that began made all calls of its plan. Else the part ends
-- at the first call that failed, at the reading of a configuration that doesn't run, or at a want of memory somewhere
abbrev pub IsPart : Result Report Halt → List Asked → List Asked → Type 0
IsPart (Ok report) calls part = part ≡ calls
IsPart (Err (halt.Failed k)) calls part = (call : Asked) × (slice_get calls k ≡ Some call) × (part ≡ take k calls ++ failed call ∷ [])
IsPart (Err (halt.Config unfit)) calls part = part ≡ take 1 calls
IsPart (Err halt.NoMemory) calls part = (n : ℕ) × (part ≡ take n calls)
