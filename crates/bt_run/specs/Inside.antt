-- What stands within a run: the calls before it begins, and the desk that carries it. Only proofs use it.
use Rattle.std.specs.Prelude.{◌≡◌, ◌≢◌, ◌⊎◌, ℕ, ◌+◌, ◌≤◌, List, [], ◌∷◌, ◌++◌, length, take, Bool, true, false, Option, None, Some, IsTrue, Result, Ok, Err, slice_get}
use Rattle.bt_ports.specs.Faults.{Rose}
use Rattle.bt_ports.specs.World.{Tale, once_more}
use Rattle.bt_ports.specs.declared.NoMemory.{NoMemory}
use Rattle.bt_ports.specs.declared.parts.Asked.{Asked}
use Rattle.bt_ports.specs.declared.parts.Ends.{Ends}
use Rattle.bt_ports.specs.declared.outside.Source as Source
use Rattle.bt_ports.specs.declared.outside.Sink as Sink
use Rattle.bt_ports.specs.declared.outside.Answerer as Answerer
use Rattle.bt_ports.specs.declared.world.World as World
use Rattle.bt_desk.specs.DeskView.{DeskView}
use Rattle.bt_desk.specs.History.{Settled}
use Rattle.bt_desk.specs.Stands.{report_of}
use Rattle.bt_desk.specs.declared.report.Ending.{Ending}
use Rattle.bt_desk.specs.declared.report.Ending.TheVariants as ending
use Rattle.bt_desk.specs.declared.report.Report.{Report}
use Rattle.bt_commands.specs.View.{InputView}
use Rattle.bt_commands.specs.Calls.{failed}
use Rattle.bt_commands.specs.Lines.{no_memory_line, failure_line}
use Rattle.bt_commands.specs.Outside.{Outside, StillTold}
use Rattle.bt_config_file.specs.declared.halt.ConfigHalt.{ConfigHalt}
use Rattle.bt_config_file.specs.declared.halt.ConfigHalt.TheVariants as unread
use Rattle.bt_config_file.specs.declared.linted.Linted.{Linted}
use Rattle.bt_run.specs.Form.{HasBuiltForm, FormSays, names_parts}
use Rattle.bt_run.specs.Plan.{plan, IsPart}
use Rattle.bt_run.specs.Promise.{HaltCounts, Leaves, TakesAtMostOne}
use Rattle.bt_run.specs.Report.{halt_lines, unfit_lines}
use Rattle.bt_commands.specs.declared.limits.TheConstants.{INPUT_BOUND}
use Rattle.bt_run.specs.declared.halt.Halt.{Halt}
use Rattle.bt_run.specs.declared.halt.Halt.TheVariants as halt
use Rattle.bt_run.specs.declared.halt.Unfit.{Unfit}
use Rattle.bt_run.specs.declared.halt.Unfit.TheVariants as unfit
use Rattle.bt_run.specs.declared.openings.Opening.{Opening}

-- what kept the configuration from being read is what kept the run from beginning
abbrev pub halt_of : ConfigHalt → Halt
halt_of unread.Unread = halt.Failed 0
halt_of (unread.Refused r) = halt.Config (unfit.Refused r)
halt_of unread.NoMemory = halt.NoMemory

-- a configuration that was read is run: it has no lint and names no parts
abbrev pub Fits : Linted → Type 0
Fits linted = (linted.lints ≡ []) × (names_parts linted.config.doc ≡ false)

-- why one that was read isn't run
abbrev pub IsUnfit : Linted → Unfit → Type 0
IsUnfit linted (unfit.Refused r) = ⊥
IsUnfit linted (unfit.Lints lints) = (lints ≡ linted.lints) × (lints ≢ [])
IsUnfit linted unfit.NotBuilt = (linted.lints ≡ []) × (names_parts linted.config.doc ≡ true)

-- what is said of it, of which a reading has said the first, or nothing where memory was wanting
abbrev pub unfit_said : Unfit → List (List ℕ)
unfit_said (unfit.Refused r) = []
unfit_said (unfit.Lints lints) = unfit_lines (unfit.Lints lints)
unfit_said unfit.NotBuilt = unfit_lines unfit.NotBuilt

abbrev pub said_of : Result (Unit {0}) NoMemory → Unfit → List (List ℕ)
said_of (Ok x) u = unfit_said u
said_of (Err e) u = []

-- so the run halts for it, or for want of memory
abbrev pub Refuses : Unfit → Halt → Type 0
Refuses u (halt.Failed k) = ⊥
Refuses u (halt.Config v) = v ≡ u
Refuses u halt.NoMemory = Unit {0}

abbrev pub refused_lines : Halt → List (List ℕ)
refused_lines (halt.Failed k) = []
refused_lines (halt.Config u) = unfit_said u
refused_lines halt.NoMemory = no_memory_line ∷ []

-- what the file says of the reading of the configuration
abbrev pub FormOf : {T : Type 0} → Result T Halt → Option (List ℕ) → Type 0
FormOf (Ok x) file = HasBuiltForm file
FormOf (Err halt) file = FormSays (Err halt) file

-- the world was asked for these calls and has this left of the standard input; nothing else that it tells changed
abbrev pub Asks : {E I : Type 0} → List Asked → List ℕ → Tale E I → Tale E I → Type 0
Asks part left a b = b ≡ record a { calls = a.calls ++ part; stdin = left }

-- What the world tells where the run halted at the call at place k of its plan. Where memory was wanting, the call was made or not.
abbrev pub HaltTells : {E I : Type 0} → (k : ℕ) → Asked → Halt → Tale E I → Tale E I → Type 0
HaltTells k call (halt.Failed j) a b = (j ≡ k) × (b ≡ record a { calls = a.calls ++ failed call ∷ []; lines = b.lines })
HaltTells k call (halt.Config u) a b = (k ≡ 0) × (b ≡ record a { calls = a.calls ++ call ∷ []; lines = b.lines })
HaltTells k call halt.NoMemory a b = (b ≡ record a { lines = b.lines }) ⊎ (b ≡ record a { calls = a.calls ++ call ∷ []; lines = b.lines })

-- what it tells of that call: it was answered, or the run halted at it
abbrev pub CallTells : {T E I : Type 0} → (k : ℕ) → Asked → (left : List ℕ) → Result T Halt → Tale E I → Tale E I → Type 0
CallTells k call left (Ok x) a b = Asks (call ∷ []) left a b
CallTells k call left (Err halt) a b = HaltTells k call halt a b

-- what is said of it
abbrev pub halt_lines_at : Asked → Halt → List (List ℕ)
halt_lines_at call (halt.Failed k) = failure_line call ∷ []
halt_lines_at call (halt.Config u) = unfit_lines u
halt_lines_at call halt.NoMemory = no_memory_line ∷ []

abbrev pub call_lines : {T : Type 0} → Asked → Result T Halt → List (List ℕ)
call_lines call (Ok x) = []
call_lines call (Err halt) = halt_lines_at call halt

-- the count that rose where it failed
abbrev pub CallCounts : {T : Type 0} → Result T Halt → (files files' opens opens' : ℕ) → Type 0
CallCounts (Ok x) files files' opens opens' = Unit {0}
CallCounts (Err halt) files files' opens opens' = HaltCounts halt files files' opens opens'

-- the call at place k of a plan was made, and has left this of the standard input where it was answered
pub record MakesCall {W S K A C T : Type 0} (g : World.Ghosts W S K A C) (k : ℕ) (call : Asked) (left : List ℕ) (result : Result T Halt) (a b : W) : Type 0 where
  pub told : StillTold g a b
  pub counted : (g.file_faults a ≤ g.file_faults b) × (g.open_faults a ≤ g.open_faults b) × (g.print_faults b ≡ g.print_faults a)
  pub counts : CallCounts result (g.file_faults a) (g.file_faults b) (g.open_faults a) (g.open_faults b)
  pub tells : IsTrue (g.tells b) → CallTells k call left result (g.tale a) (g.tale b)
  pub lines : IsTrue (g.tells b) → IsTrue (g.tells_lines b) → (g.tale b).lines ≡ (g.tale a).lines ++ call_lines call result

-- the first n calls of a plan were answered, and have left this of the standard input
pub record Reached {W S K A C : Type 0} (g : World.Ghosts W S K A C) (n : ℕ) (calls : List Asked) (left : List ℕ) (a b : W) : Type 0 where
  pub told : StillTold g a b
  pub counted : (g.file_faults a ≤ g.file_faults b) × (g.open_faults a ≤ g.open_faults b) × (g.print_faults b ≡ g.print_faults a)
  pub tells : IsTrue (g.tells b) → Asks (take n calls) left (g.tale a) (g.tale b)

-- a run of these calls halted: its part of the list of calls. Of all else only the lines of `err` changed, and what is left
-- of the standard input and which clock is taken next
pub record Halted {E I : Type 0} (calls : List Asked) (halt : Halt) (a b : Tale E I) : Type 0 where
  pub part : List Asked
  pub made : b.calls ≡ a.calls ++ part
  pub whole : IsPart (Err halt) calls part
  pub only : b ≡ record a { calls = b.calls; lines = b.lines; stdin = b.stdin; clock = b.clock; clocks = b.clocks }
  pub clocks : TakesAtMostOne a.clocks b.clocks

-- what the world tells where a run was ready to begin or halted
abbrev pub StartTells : {T E I : Type 0} → List ℕ → Option (List ℕ) → Result T Halt → Tale E I → Tale E I → Type 0
StartTells config answers (Ok x) a b = Unit {0}
StartTells config answers (Err halt) a b = Halted (plan config answers) halt a b × FormSays (Err halt) (a.files config)

abbrev pub start_lines : {T : Type 0} → Result T Halt → List Asked → List (List ℕ)
start_lines (Ok x) calls = []
start_lines (Err halt) calls = halt_lines halt calls

-- a run is ready to begin, or halted
pub record Starts {W S K A C T : Type 0} (g : World.Ghosts W S K A C) (config : List ℕ) (answers : Option (List ℕ)) (result : Result T Halt) (a b : W) : Type 0 where
  pub told : StillTold g a b
  pub prints : g.print_faults b ≡ g.print_faults a
  pub counts : CallCounts result (g.file_faults a) (g.file_faults b) (g.open_faults a) (g.open_faults b)
  pub tells : IsTrue (g.tells b) → StartTells config answers result (g.tale a) (g.tale b)
  pub lines : IsTrue (g.tells b) → IsTrue (g.tells_lines b) → (g.tale b).lines ≡ (g.tale a).lines ++ start_lines result (plan config answers)

-- what was opened has no fault, nothing taken and nothing written
pub record IsFresh {S K A : Type 0} (gs : Source.Ghosts S) (gk : Sink.Ghosts K) (ga : Answerer.Ghosts A) (opening : Opening S K A) : Type 0 where
  pub source : gs.faults opening.source ≡ 0
  pub unread : IsTrue (gs.tells opening.source) → gs.taken opening.source ≡ 0
  pub sink : gk.faults opening.sink ≡ 0
  pub unwritten : IsTrue (gk.tells opening.sink) → (gk.accepted opening.sink ≡ []) × (gk.refused opening.sink ≡ [])
  pub answerer : ga.faults opening.answerer ≡ 0
  pub unasked : IsTrue (ga.tells opening.answerer) → ga.calls opening.answerer ≡ []

-- the objects tell the places of their openings, behind n calls, and the source's bytes are these
pub record ArePlaced {W S K A C : Type 0} (o : Outside W S K A C) (n : ℕ) (bytes : List ℕ) (opening : Opening S K A) : Type 0 where
  pub sink : o.sink.place opening.sink ≡ n + 1
  pub answerer : o.answerer.place opening.answerer ≡ n + 2
  pub source : o.source.place opening.source ≡ n + 3
  pub input : IsTrue (o.source.tells opening.source) → o.source.bytes opening.source ≡ bytes

-- the desk over what was opened, of which nothing was taken
pub record Begun {S K A C : Type 0} (opening : Opening S K A) (c : C) (d : DeskView (InputView S) K A C) : Type 0 where
  pub sources : d.intake.sources.list ≡ record { path = None; source = opening.source } ∷ []
  pub bound : d.intake.bound ≡ INPUT_BOUND
  pub given : d.intake.given ≡ 0
  pub sinks : d.sinks.list ≡ opening.sink ∷ []
  pub answerer : d.answerer ≡ opening.answerer
  pub clock : d.clock ≡ c
  pub out : d.out ≡ []
  pub report : d.report ≡ report_of 0 [] None

-- the desk was made of some opening without faults
pub record IsBegun {S K A C : Type 0} (gs : Source.Ghosts S) (d : DeskView (InputView S) K A C) : Type 0 where
  pub opening : Opening S K A
  pub clock : C
  pub begun : Begun opening clock d
  pub faults : gs.faults opening.source ≡ 0

-- the run is ready to begin: all was read and opened, one clock was taken, and the desk was made of these
pub record Started {W S K A C I : Type 0} (o : Outside W S K A C) (config : List ℕ) (answers : Option (List ℕ)) (d : DeskView (InputView S) K A C) (a b : Tale (Ends S K A C) I) : Type 0 where
  pub opening : Opening S K A
  pub clock : C
  pub begun : Begun opening clock d
  pub fresh : o.source.faults opening.source ≡ 0
  pub placed : ArePlaced o (length a.calls + 1) a.stdin opening
  pub readings : IsTrue (o.clock.tells clock) → o.clock.readings clock ≡ a.clock
  pub form : HasBuiltForm (a.files config)
  pub only : b ≡ record a { calls = a.calls ++ plan config answers; stdin = []; clocks = once_more a.clocks; clock = [] }

-- the first sink and the answerer tell the places that they told
pub record SamePlaces {I K A C : Type 0} (gk : Sink.Ghosts K) (ga : Answerer.Ghosts A) (d e : DeskView I K A C) : Type 0 where
  pub sink : (k : K) → slice_get e.sinks.list 0 ≡ Some k → (j : K) × (slice_get d.sinks.list 0 ≡ Some j) × (gk.place k ≡ gk.place j)
  pub answerer : ga.place e.answerer ≡ ga.place d.answerer

-- the count of faults of the intake of a run that ended so: it stands still unless a read failed or memory was wanting
abbrev pub CarryFaults : Option Ending → (before after : ℕ) → Type 0
CarryFaults None before after = ⊥
CarryFaults (Some ending.Ended) before after = after ≡ before
CarryFaults (Some ending.ReadFault) before after = Rose before after
CarryFaults (Some (ending.LongLine n)) before after = after ≡ before
CarryFaults (Some ending.Bound) before after = after ≡ before
CarryFaults (Some ending.NoMemory) before after = Unit {0}

-- what a run that was carried to its end gives back: the one sink, the answerer and the one source that were opened, by
-- their places, and the clock
pub record HandsBack {W S K A C : Type 0} (o : Outside W S K A C) (opening : Opening S K A) (c : C) (report : Report) (ends : Ends S K A C) : Type 0 where
  pub sink : K
  pub source : S
  pub history : List (List Settled)
  pub sinks : ends.sinks.list ≡ sink ∷ []
  pub sources : ends.sources.list ≡ record { path = None; source = source } ∷ []
  pub sink_place : o.sink.place sink ≡ o.sink.place opening.sink
  pub answerer_place : o.answerer.place ends.answerer ≡ o.answerer.place opening.answerer
  pub source_place : o.source.place source ≡ o.source.place opening.source
  pub told : IsTrue (o.source.tells source) → IsTrue (o.source.tells opening.source)
  pub input : IsTrue (o.source.tells source) → o.source.bytes source ≡ o.source.bytes opening.source
  pub clock_told : IsTrue (o.clock.tells ends.clock) → IsTrue (o.clock.tells c)
  pub readings : IsTrue (o.clock.tells ends.clock) → o.clock.readings ends.clock ≡ o.clock.readings c
  pub leaves : Leaves o report source sink ends.answerer ends.clock history

-- what became of a desk: what it gives back was handed to `keep`, and nothing else of what the world tells changed
pub record Completes {W S K A C I : Type 0} (o : Outside W S K A C) (report : Report) (d : DeskView (InputView S) K A C) (a b : Tale (Ends S K A C) I) : Type 0 where
  pub ends : Ends S K A C
  pub keeps : b ≡ record a { keeps = once_more a.keeps; kept = Some ends }
  pub hands_back : (opening : Opening S K A) (c : C) → Begun opening c d → o.source.faults opening.source ≡ 0 → HandsBack o opening c report ends
