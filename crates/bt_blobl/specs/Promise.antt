-- What `blobl` promises.
use Rattle.std.specs.Prelude.{◌≡◌, ℕ, ◌+◌, List, [], ◌++◌, length, take, slice_get, Bool, IsTrue, Some, ◌≤◌, if◌then◌else◌, ◌∷◌, None, map, codes, Result, Ok, Err}
use Rattle.bt_ports.specs.World.{Tale, once_more}
use Rattle.bt_ports.specs.declared.outside.Source as Source
use Rattle.bt_commands.specs.Input.{closed, stop}
use Rattle.bt_tree.specs.declared.tree.Mapping.{Mapping}
use Rattle.bt_blobl.specs.declared.course.PassStop.{PassStop}
use Rattle.bt_blobl.specs.declared.course.PassStop.TheVariants as stops
use Rattle.bt_blobl.specs.declared.course.Pass.{Pass}
use Rattle.bt_blobl.specs.declared.course.LineResult.{LineResult}
use Rattle.bt_ports.specs.Contents.{Contents}
use Rattle.bt_ports.specs.Faults.{Rose}
use Rattle.bt_ports.specs.declared.parts.Asked.{Asked}
use Rattle.bt_ports.specs.declared.parts.Named.{Named}
use Rattle.bt_ports.specs.Intake.{input_end, bound_met, line_too_long}
use Rattle.bt_lexer.specs.Places.{line_of, column_of}
use Rattle.bt_commands.specs.declared.limits.TheConstants.{INPUT_BOUND}
use Rattle.bt_commands.specs.Input.{input_of}
use Rattle.bt_commands.specs.Lines.{bound_line, long_line, no_memory_line}
use Rattle.bt_commands.specs.Calls.{source_opening, failed}
use Rattle.bt_commands.specs.Outside.{Outside, StillTold}
use Rattle.bt_blobl.specs.declared.course.Halt.{Halt}
use Rattle.bt_blobl.specs.declared.course.Halt.TheVariants as halt
use Rattle.bt_commands.specs.declared.status.Status.{Status}
use Rattle.bt_commands.specs.declared.status.Status.TheVariants as status
use Rattle.bt_blobl.specs.Meaning.{lines_of, outcome, printed_of, blobl_text, blobl_errors, some_fail, task_of}
use Rattle.bt_blobl.specs.Text.{RunsAs, TextSays, fault_line, line_at, lint_line}
use Rattle.bt_blobl.specs.declared.course.Flags.{Flags}

-- what is left of an outcome that wasn't printed whole: a prefix of it, where the print failed
abbrev pub PrefixIs : PassStop → LineResult → List ℕ → Type 0
PrefixIs stops.Ended o prefix = prefix ≡ []
PrefixIs stops.ReadFault o prefix = prefix ≡ []
PrefixIs (stops.LongLine n) o prefix = prefix ≡ []
PrefixIs stops.Bound o prefix = prefix ≡ []
PrefixIs stops.PrintFailed o prefix = (k : ℕ) × (prefix ≡ take k (printed_of o))
PrefixIs stops.NoMemory o prefix = prefix ≡ []

-- the status where lines were mapped: where the input was read to its end, whether one failed decides
abbrev pub pass_status : PassStop → Bool → Status
pass_status stops.Ended fault = (if fault then status.Refused else status.Done)
pass_status stops.ReadFault fault = status.Input
pass_status (stops.LongLine n) fault = status.Bound
pass_status stops.Bound fault = status.Bound
pass_status stops.PrintFailed fault = status.Output
pass_status stops.NoMemory fault = status.Memory

-- the status where no line was mapped
abbrev pub halt_status : Halt → Status
halt_status (halt.Faulty fault at) = status.Config
halt_status (halt.Lints lints) = status.Config
halt_status (halt.Pattern at) = status.Config
halt_status halt.NoSource = status.Input
halt_status halt.NoMemory = status.Memory

-- the status of the command
abbrev pub blobl_status : Result Pass Halt → Status
blobl_status (Ok pass) = pass_status pass.stop pass.failed
blobl_status (Err halt) = halt_status halt

-- the line of `err` on why no more lines are mapped, where it isn't the input's end
abbrev pub stop_lines : PassStop → List (List ℕ)
stop_lines stops.Ended = []
stop_lines stops.ReadFault = codes "source: read fault" ∷ []
stop_lines (stops.LongLine n) = long_line n ∷ []
stop_lines stops.Bound = bound_line INPUT_BOUND ∷ []
stop_lines stops.PrintFailed = codes "out: write fault" ∷ []
stop_lines stops.NoMemory = no_memory_line ∷ []

-- the line of `err` on what kept the command from mapping lines
abbrev pub halt_lines : Halt → List ℕ → List (List ℕ)
halt_lines (halt.Faulty fault at) text = fault_line fault (line_of text at) (column_of text at) ∷ []
halt_lines (halt.Lints lints) text = map (lint_line text) lints.list
halt_lines (halt.Pattern at) text = line_at (codes "pattern") text at ∷ []
halt_lines halt.NoSource text = codes "source stdin: cannot open" ∷ []
halt_lines halt.NoMemory text = no_memory_line ∷ []

-- the line of `err` of the command's own fault, where it has one, behind those of the failed lines
abbrev pub blobl_lines : Result Pass Halt → List ℕ → List (List ℕ)
blobl_lines (Ok pass) text = stop_lines pass.stop
blobl_lines (Err halt) text = halt_lines halt text

-- the command's part of the world's list of calls where no line was mapped: the one opening of `stdin`, which isn't made where the
-- mapping isn't one that runs
abbrev pub IsHaltPart : Halt → List Asked → Type 0
IsHaltPart (halt.Faulty fault at) part = part ≡ []
IsHaltPart (halt.Lints lints) part = part ≡ []
IsHaltPart (halt.Pattern at) part = part ≡ []
IsHaltPart halt.NoSource part = part ≡ failed source_opening ∷ []
IsHaltPart halt.NoMemory part = (n : ℕ) × (part ≡ take n (source_opening ∷ []))

-- the command's part of the list of calls
abbrev pub IsBloblPart : Result Pass Halt → List Asked → Type 0
IsBloblPart (Ok pass) part = part ≡ source_opening ∷ []
IsBloblPart (Err halt) part = IsHaltPart halt part

-- the opening failed only where the count of open faults rose: before and after
abbrev pub HaltCounts : Halt → ℕ → ℕ → Type 0
HaltCounts (halt.Faulty fault at) opens opens' = Unit {0}
HaltCounts (halt.Lints lints) opens opens' = Unit {0}
HaltCounts (halt.Pattern at) opens opens' = Unit {0}
HaltCounts halt.NoSource opens opens' = Rose opens opens'
HaltCounts halt.NoMemory opens opens' = Unit {0}

-- and a print only where that of the printer did: before and after each
abbrev pub BloblCounts : Result Pass Halt → ℕ → ℕ → ℕ → ℕ → Type 0
BloblCounts (Ok pass) opens opens' prints prints' = pass.stop ≡ stops.PrintFailed → Rose prints prints'
BloblCounts (Err halt) opens opens' prints prints' = HaltCounts halt opens opens'

-- the faults of the source where no more lines were mapped: it counted one where a read failed, and none where that is the
-- input's end, a long line, the bound or a failed print
abbrev pub StopFaults : PassStop → (faults : ℕ) → Type 0
StopFaults stops.Ended faults = faults ≡ 0
StopFaults stops.ReadFault faults = 1 ≤ faults
StopFaults (stops.LongLine n) faults = faults ≡ 0
StopFaults stops.Bound faults = faults ≡ 0
StopFaults stops.PrintFailed faults = faults ≡ 0
StopFaults stops.NoMemory faults = Unit {0}

-- why no more lines were mapped than `done`, over a source with these told bytes of which so many were taken:
-- at its end all lines were mapped and the input stops there, so at its bound, and so before a long line;
-- at a read fault every line whose line feed was taken is among the mapped ones;
-- at a failed print the next line is the one whose outcome wasn't printed whole
abbrev pub StopSays : PassStop → List (List ℕ) → List ℕ → (taken : ℕ) → List ℕ → Type 0
StopSays stops.Ended done line taken bytes = (done ≡ lines_of bytes) × (stop INPUT_BOUND (input_of bytes) ≡ input_end)
StopSays stops.ReadFault done line taken bytes = length (closed taken (input_of bytes)) ≤ length done
StopSays (stops.LongLine n) done line taken bytes = (done ≡ lines_of bytes) × (stop INPUT_BOUND (input_of bytes) ≡ line_too_long n)
StopSays stops.Bound done line taken bytes = (done ≡ lines_of bytes) × (stop INPUT_BOUND (input_of bytes) ≡ bound_met INPUT_BOUND) × (taken ≡ INPUT_BOUND)
StopSays stops.PrintFailed done line taken bytes = slice_get (lines_of bytes) (length done) ≡ Some line
StopSays stops.NoMemory done line taken bytes = Unit {0}

-- no line was mapped: nothing was printed or kept, and of all lines only the last ones were said
pub record MapsNone {E I : Type 0} (last : List (List ℕ)) (says : Bool) (a b : Tale E I) : Type 0 where
  pub printed : b.printed ≡ a.printed
  pub said : IsTrue says → b.lines ≡ a.lines ++ last
  pub input_keeps : b.input_keeps ≡ a.input_keeps
  pub kept_input : b.kept_input ≡ a.kept_input

-- lines were mapped: what `keep_input` was given, once, which is the one source by the place of its opening; its bytes are those of the standard input.
-- The lines `done` are the first of its lines. What they give was printed, with a prefix of the outcome of the next line where its print failed, and the
-- failed ones were said with their numbers and texts, and behind them the last lines
pub record MapsLines {S E : Type 0} (gs : Source.Ghosts S) (text : List ℕ) (flags : Flags) (pass : Pass) (last : List (List ℕ)) (prints says : Bool) (a b : Tale E (Contents (Named S))) : Type 0 where
  pub mapping : Mapping
  pub reads : RunsAs text mapping
  pub sources : Contents (Named S)
  pub source : S
  pub done : List (List ℕ)
  pub line : List ℕ
  pub prefix : List ℕ
  pub once : b.input_keeps ≡ once_more a.input_keeps
  pub kept : b.kept_input ≡ Some sources
  pub one : sources.list ≡ record { path = None; source = source } ∷ []
  pub place : gs.place source ≡ length a.calls + 1
  pub input : IsTrue (gs.tells source) → gs.bytes source ≡ a.stdin
  pub printed : IsTrue prints → b.printed ≡ a.printed ++ (blobl_text (task_of mapping flags) done ++ prefix)
  pub said : IsTrue says → b.lines ≡ a.lines ++ (blobl_errors (task_of mapping flags) done ++ last)
  pub prefix_is : PrefixIs pass.stop (outcome (task_of mapping flags) line) prefix
  -- whether one of the lines failed
  pub failed : pass.failed ≡ some_fail (task_of mapping flags) done
  pub first : IsTrue (gs.tells source) → done ≡ take (length done) (lines_of (gs.bytes source))
  pub faults : StopFaults pass.stop (gs.faults source)
  pub ends : IsTrue (gs.tells source) → StopSays pass.stop done line (gs.taken source) (gs.bytes source)

abbrev pub MapsBy : {S E : Type 0} → Source.Ghosts S → List ℕ → Flags → Result Pass Halt → List (List ℕ) → (prints says : Bool) → Tale E (Contents (Named S)) → Tale E (Contents (Named S)) → Type 0
MapsBy gs text flags (Ok pass) last prints says a b = MapsLines gs text flags pass last prints says a b
MapsBy gs text flags (Err halt) last prints says a b = MapsNone last says a b

-- what the world tells after a `blobl` of this text by these flags, from a to b, with these lines of `err` at its end
pub record BloblTells {S E : Type 0} (gs : Source.Ghosts S) (text : List ℕ) (flags : Flags) (pass : Result Pass Halt) (last : List (List ℕ)) (prints says : Bool) (a b : Tale E (Contents (Named S))) : Type 0 where
  -- the command's part of the list of calls
  pub part : List Asked
  pub calls : b.calls ≡ a.calls ++ part
  pub openings : IsBloblPart pass part
  -- the lines that were mapped, or none
  pub maps : MapsBy gs text flags pass last prints says a b
  -- of all else only what is left of the standard input changed
  pub only : b ≡ record a { calls = b.calls; lines = b.lines; stdin = b.stdin; printed = b.printed; input_keeps = b.input_keeps; kept_input = b.kept_input }

-- `blobl` with this text as its mapping, by these flags, from a to b
pub record BloblPromise {W S K A C : Type 0} (o : Outside W S K A C) (text : List ℕ) (flags : Flags) (result : Status) (a b : W) : Type 0 where
  -- the lines that it mapped, or what kept it from that
  pub pass : Result Pass Halt
  pub status : result ≡ blobl_status pass
  pub text_says : TextSays pass text
  pub told : StillTold o.world a b
  -- a fault was counted where one is named, and none of a file
  pub counts : BloblCounts pass (o.world.open_faults a) (o.world.open_faults b) (o.world.print_faults a) (o.world.print_faults b)
  pub files : o.world.file_faults b ≡ o.world.file_faults a
  pub tells : IsTrue (o.world.tells b) → BloblTells o.source text flags pass (blobl_lines pass text) (o.world.tells_printed b) (o.world.tells_lines b) (o.world.tale a) (o.world.tale b)
