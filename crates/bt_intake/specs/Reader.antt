-- What stands of the reader of an intake, and what its steps do. Only proofs use it.
use Rattle.std.specs.Prelude.{◌≡◌, ◌⊎◌, ℕ, ◌+◌, ◌-◌, ◌^◌, ◌<◌, ◌≤◌, List, [], ◌∷◌, ◌++◌, length, drop, IsTrue, Option, Some, None, Result, Ok, Err, slice_get}
use Rattle.bt_ports.specs.Faults.{Rose}
use Rattle.bt_ports.specs.declared.NoMemory.{NoMemory}
use Rattle.bt_ports.specs.declared.parts.Item.{Item}
use Rattle.bt_ports.specs.declared.parts.Named.{Named}
use Rattle.bt_ports.specs.declared.parts.Read.{Read}
use Rattle.bt_ports.specs.declared.parts.Read.TheVariants as read
use Rattle.bt_ports.specs.declared.outside.Source as Source
use Rattle.bt_ports.specs.Intake.{input_end, bound_met, line_too_long}
use Rattle.bt_lines.specs.Pieces.{NoneBefore}
use Rattle.bt_lines.specs.Lines.{SourceBytes, item, stop}
use Rattle.bt_lines.specs.Follows.{Follows, source}
use Rattle.bt_intake.specs.declared.reader.LineReader.{LineReader}
use Rattle.bt_intake.specs.declared.reader.NextLine.{NextLine}
use Rattle.bt_intake.specs.declared.reader.NextLine.TheVariants as next
use Rattle.bt_intake.specs.Batches.{source_items}
use Rattle.bt_intake.specs.Sources.{all_tell, told, taken_count, SourcesKept, OneRose, Ended}
use Rattle.bt_intake.specs.Answers.{ShowsNoLong}

-- the bytes that were taken and aren't cut yet
abbrev pub uncut : {S : Type 0} → LineReader S → List ℕ
uncut s = drop s.from s.window.items

-- what is still to be cut of the sources from the one at hand on: these bytes, and all that weren't taken
abbrev pub rest : {S : Type 0} → Source.Ghosts S → List ℕ → List (Named S) → List SourceBytes
rest g bytes [] = []
rest g bytes (n ∷ ns) = source n.path (bytes ++ drop (g.taken n.source) (g.bytes n.source)) ∷ rest g [] ns

-- what holds of the reader before and after each step
pub record ReaderHolds {S : Type 0} (g : Source.Ghosts S) (s : LineReader S) : Type 0 where
  pub some : 1 ≤ length s.delimiter
  pub inside : s.from ≤ length s.window.items
  pub window_taken : length s.window.items ≤ s.taken
  pub clear : NoneBefore s.delimiter s.clear (uncut s)
  pub clear_fits : (s.clear ≡ 0) ⊎ (s.clear + length s.delimiter ≤ length (uncut s) + 1)
  pub at_end : s.at ≤ length s.sources.list
  pub done : length s.sources.list ≤ s.at → uncut s ≡ []
  pub within_bound : s.taken ≤ s.bound
  pub bound_fits : s.bound ≤ 2 ^ 48
  pub used : s.given + length (uncut s) ≤ s.taken
  pub counted : IsTrue (all_tell g s.sources.list) → taken_count g s.sources.list ≡ s.taken
  pub in_list : IsTrue (all_tell g s.sources.list) → s.given ≤ length (source_items s.delimiter s.bound (told g s.sources.list))
  pub follows : IsTrue (all_tell g s.sources.list) → Follows s.delimiter (told g s.sources.list) s.given s.taken (uncut s) (rest g (uncut s) (drop s.at s.sources.list))

-- an item that the line of the source at hand makes
pub record MakesItem {S : Type 0} (s : LineReader S) (line : List ℕ) (i : Item) : Type 0 where
  pub at_hand : Named S
  pub found : slice_get s.sources.list s.at ≡ Some at_hand
  pub made : i ≡ item s.delimiter at_hand.path line

-- a line that was given is the next item of the list
pub record GivesLine {S : Type 0} (g : Source.Ghosts S) (s t : LineReader S) (i : Item) : Type 0 where
  pub given : t.given ≡ s.given + 1
  pub next : IsTrue (all_tell g t.sources.list) → slice_get (source_items s.delimiter s.bound (told g t.sources.list)) s.given ≡ Some i

-- a line was given, or there was no memory and none was
abbrev pub Gives : {S : Type 0} → Source.Ghosts S → Result Item NoMemory → LineReader S → LineReader S → Type 0
Gives g (Ok i) s t = GivesLine g s t i
Gives g (Err e) s t = t.given ≡ s.given

-- what one read of the source at hand did
abbrev pub ReadsMore : {S : Type 0} → Source.Ghosts S → Read → LineReader S → LineReader S → Type 0
ReadsMore g (read.Count n) s t = (1 ≤ n) × (n ≤ 4096) × (t.taken ≡ s.taken + n)
ReadsMore g read.End s t = (t.taken ≡ s.taken) × (uncut t ≡ uncut s) × (IsTrue (all_tell g t.sources.list) → Ended g t.sources.list t.at)
ReadsMore g read.Failed s t = (t.taken ≡ s.taken) × OneRose g s.sources.list t.sources.list

-- its last read began behind m bytes, took at most 4,096, each item that is closed in these m was given, and they show no long line
pub record LinesLate (d : List ℕ) (before taken given : ℕ) (ss : List SourceBytes) : Type 0 where
  pub m : ℕ
  pub from : before ≤ m
  pub to : taken ≤ m + 4096
  pub rises : m < taken
  pub closed_given : length (source_items d m ss) ≤ given
  pub no_long : ShowsNoLong d m ss

-- how far reads took the reader
pub record Goes {S : Type 0} (g : Source.Ghosts S) (s t : LineReader S) : Type 0 where
  pub kept : SourcesKept g s.sources.list t.sources.list
  pub delimiter : t.delimiter ≡ s.delimiter
  pub bound : t.bound ≡ s.bound
  pub taken : s.taken ≤ t.taken
  pub late : IsTrue (all_tell g t.sources.list) → s.taken < t.taken → LinesLate s.delimiter s.taken t.taken s.given (told g t.sources.list)

-- all items were given, and the input stops so
abbrev pub AllGiven : {S : Type 0} → Source.Ghosts S → LineReader S → Type 0
AllGiven g s = IsTrue (all_tell g s.sources.list) → length (source_items s.delimiter s.bound (told g s.sources.list)) ≡ s.given

-- what an answer other than a line says of the reader
abbrev pub SaysOf : {S : Type 0} → Source.Ghosts S → NextLine → LineReader S → Type 0
SaysOf g (next.Line i) s = ⊥
SaysOf g next.End s = (s.taken < s.bound) × (IsTrue (all_tell g s.sources.list) → stop s.delimiter s.bound (told g s.sources.list) ≡ input_end) × AllGiven g s
SaysOf g next.Failed s = IsTrue (all_tell g s.sources.list) → length (source_items s.delimiter s.taken (told g s.sources.list)) ≤ s.given
SaysOf g (next.LongLine n) s = (IsTrue (all_tell g s.sources.list) → stop s.delimiter s.bound (told g s.sources.list) ≡ line_too_long n) × AllGiven g s
SaysOf g next.Bound s = (s.taken ≡ s.bound) × (IsTrue (all_tell g s.sources.list) → stop s.delimiter s.bound (told g s.sources.list) ≡ bound_met s.bound) × AllGiven g s
SaysOf g next.NoMemory s = Unit {0}

-- what was given where the reader answered
abbrev pub Answers : {S : Type 0} → Source.Ghosts S → NextLine → LineReader S → LineReader S → Type 0
Answers g (next.Line i) s t = GivesLine g s t i
Answers g next.End s t = (t.given ≡ s.given) × SaysOf g next.End t
Answers g next.Failed s t = (t.given ≡ s.given) × OneRose g s.sources.list t.sources.list × SaysOf g next.Failed t
Answers g (next.LongLine n) s t = (t.given ≡ s.given) × SaysOf g (next.LongLine n) t
Answers g next.Bound s t = (t.given ≡ s.given) × SaysOf g next.Bound t
Answers g next.NoMemory s t = t.given ≡ s.given

-- what a call did to the count of faults
abbrev pub LineFaults : NextLine → ℕ → ℕ → Type 0
LineFaults (next.Line i) before after = after ≡ before
LineFaults next.End before after = after ≡ before
LineFaults next.Failed before after = Rose before after
LineFaults (next.LongLine n) before after = after ≡ before
LineFaults next.Bound before after = after ≡ before
LineFaults next.NoMemory before after = Unit {0}

-- how many bytes may still be taken, and sources passed
abbrev pub work : {S : Type 0} → LineReader S → ℕ
work s = (s.bound - s.taken) + (length s.sources.list - s.at)

-- one step: an answer, or less work
abbrev pub Steps : {S : Type 0} → Source.Ghosts S → Option NextLine → LineReader S → LineReader S → Type 0
Steps g None s t = (t.given ≡ s.given) × (work t < work s)
Steps g (Some answer) s t = Answers g answer s t

-- one step's faults: those of its answer, and none where it gave none
abbrev pub StepFaults : Option NextLine → ℕ → ℕ → Type 0
StepFaults None before after = after ≡ before
StepFaults (Some answer) before after = LineFaults answer before after

-- a line that was given as an answer, or want of memory
abbrev pub line_of : Result Item NoMemory → NextLine
line_of (Ok i) = next.Line i
line_of (Err e) = next.NoMemory
