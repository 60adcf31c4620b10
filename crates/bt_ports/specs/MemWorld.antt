-- What a world in memory shows.
use Rattle.std.specs.Prelude.{ℕ, ◌-◌, ◌^◌, List, [], ◌∷◌, Bool, true, false, if◌then◌else◌, Option, Some, None, is_none}
use Rattle.std.specs.Str.{bytes_eq}
use Rattle.bt_ports.specs.Contents.{Contents}
use Rattle.bt_ports.specs.Memory.{SourceView, ClockView, PrinterView}
use Rattle.bt_ports.specs.MemEnds.{MemEnds}
use Rattle.bt_ports.specs.World.{Tale, is_stdin}
use Rattle.bt_ports.specs.declared.memory.source.MemSource.{MemSource}
use Rattle.bt_ports.specs.declared.memory.world.File.{File}
use Rattle.bt_ports.specs.declared.memory.world.SinkCall.{SinkCall}
use Rattle.bt_ports.specs.declared.parts.Asked.{Asked}
use Rattle.bt_ports.specs.declared.parts.FileRead.{FileRead}
use Rattle.bt_ports.specs.declared.parts.FileRead.TheVariants as file
use Rattle.bt_ports.specs.declared.parts.Named.{Named}
use Rattle.bt_ports.specs.declared.parts.Opened.{Opened}
use Rattle.bt_ports.specs.declared.parts.Opened.TheVariants as opened

-- what a world in memory tells
abbrev pub MemTale : Type 0
MemTale = Tale MemEnds (Contents (Named MemSource))

-- its files, the source and the clock that it gives next, its printer, its calls that fail, how many readings of files
-- and openings were made, its counts of faults, and what it tells of its calls
pub record WorldView : Type 0 where
  pub files : List File
  pub stdin : Option SourceView
  pub clock : Option ClockView
  pub printer : PrinterView
  pub failing_opens : List ℕ
  pub failing_files : List ℕ
  pub failing_sinks : List SinkCall
  pub failing_answers : List ℕ
  pub opened : ℕ
  pub files_read : ℕ
  pub open_faults : ℕ
  pub file_faults : ℕ
  pub calls : List Asked
  pub lines : List (List ℕ)
  pub tells_lines : Bool
  pub clocks : ℕ
  pub keeps : ℕ
  pub kept : Option MemEnds
  pub input_keeps : ℕ
  pub kept_input : Option (Contents (Named MemSource))
  pub load_keeps : ℕ
  pub kept_load : Option MemEnds

-- the bytes of the first file of that name
abbrev pub find_file : List File → List ℕ → Option (List ℕ)
find_file [] name = None
find_file (f ∷ fs) name = (if bytes_eq f.name name then Some f.bytes else find_file fs name)

-- the numbers of the puts that fail at the sink of that name
abbrev pub puts_at : List SinkCall → List ℕ → List ℕ
puts_at [] name = []
puts_at (c ∷ cs) name = (if bytes_eq c.name name then c.call ∷ puts_at cs name else puts_at cs name)

-- the bytes of a source, if there is one
abbrev pub bytes_of : Option SourceView → List ℕ
bytes_of None = []
bytes_of (Some s) = s.bytes

-- the readings of a clock, if there is one
abbrev pub readings_of : Option ClockView → List ℕ
readings_of None = []
readings_of (Some c) = c.readings

-- what the world tells
abbrev pub mem_tale : WorldView → MemTale
mem_tale w = record {
  files = find_file w.files;
  stdin = bytes_of w.stdin;
  clock = readings_of w.clock;
  calls = w.calls;
  printed = w.printer.bytes;
  lines = w.lines;
  clocks = w.clocks;
  keeps = w.keeps;
  kept = w.kept;
  input_keeps = w.input_keeps;
  kept_input = w.kept_input;
  load_keeps = w.load_keeps;
  kept_load = w.kept_load;
}

-- a world of which nothing was asked yet
abbrev pub new_world : List File → SourceView → ClockView → PrinterView → List ℕ → List ℕ → List SinkCall → List ℕ → WorldView
new_world files stdin clock printer opens readings sinks answers = record {
  files = files;
  stdin = Some stdin;
  clock = Some clock;
  printer = printer;
  failing_opens = opens;
  failing_files = readings;
  failing_sinks = sinks;
  failing_answers = answers;
  opened = 0;
  files_read = 0;
  open_faults = 0;
  file_faults = 0;
  calls = [];
  lines = [];
  tells_lines = true;
  clocks = 0;
  keeps = 0;
  kept = None;
  input_keeps = 0;
  kept_input = None;
  load_keeps = 0;
  kept_load = None;
}

-- whether a reading failed
abbrev pub reading_failed : FileRead → Bool
reading_failed (file.Bytes x) = false
reading_failed file.TooLong = false
reading_failed file.Failed = true
reading_failed file.NoMemory = false

-- a fact for a reading that was not short of memory
abbrev pub IfRead : FileRead → Type 0 → Type 0
IfRead (file.Bytes x) P = P
IfRead file.TooLong P = P
IfRead file.Failed P = P
IfRead file.NoMemory P = Unit {0}

-- whether an opening failed
abbrev pub opening_failed : {T : Type 0} → Opened T → Bool
opening_failed (opened.Got x) = false
opening_failed opened.Failed = true
opening_failed opened.NoMemory = false

-- a fact for an opening that was not short of memory
abbrev pub IfOpened : {T : Type 0} → Opened T → Type 0 → Type 0
IfOpened (opened.Got x) P = P
IfOpened opened.Failed P = P
IfOpened opened.NoMemory P = Unit {0}

-- the source at a place over a file's bytes: it gives as many bytes as asked, and fails at no read
abbrev pub file_source : Option (List ℕ) → ℕ → SourceView
file_source (Some bytes) place = record { faults = 0; place = place; bytes = bytes; taken = 0; piece = 2 ^ 64 - 1; failing = []; made = 0 }
file_source None place = record { faults = 0; place = place; bytes = []; taken = 0; piece = 2 ^ 64 - 1; failing = []; made = 0 }

-- the source at a place that the standard input gives: the one that the world was made with at the first opening, and
-- one without bytes, which fails at no read, at a later one
abbrev pub stdin_source : Option SourceView → ℕ → SourceView
stdin_source (Some s) place = record s { faults = 0; place = place; taken = 0; made = 0 }
stdin_source None place = record { faults = 0; place = place; bytes = []; taken = 0; piece = 1; failing = []; made = 0 }

-- the source of that name at a place
abbrev pub mem_source : List File → Option SourceView → List ℕ → ℕ → SourceView
mem_source files stdin name place = (if is_stdin name then stdin_source stdin place else file_source (find_file files name) place)

-- what the opening of a source of that name leaves of the standard input
abbrev pub stdin_after : {T : Type 0} → Opened T → List ℕ → Option SourceView → Option SourceView
stdin_after (opened.Got x) name stdin = (if is_stdin name then None else stdin)
stdin_after opened.Failed name stdin = stdin
stdin_after opened.NoMemory name stdin = stdin

-- whether there is no source of that name
abbrev pub is_missing : List File → List ℕ → Bool
is_missing files name = (if is_stdin name then false else is_none (find_file files name))

-- the clock that is taken: the one that the world was made with at first, and then one without readings
abbrev pub taken_clock : Option ClockView → ClockView
taken_clock (Some c) = record c { made = 0 }
taken_clock None = record { readings = []; made = 0 }
