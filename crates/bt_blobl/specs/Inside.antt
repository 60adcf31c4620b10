-- What stands within a `blobl`: how its mapping was read, and how far the lines of its input were mapped. Only proofs use it.
use Rattle.std.specs.Prelude.{◌≡◌, ℕ, ◌≤◌, List, length, ◌++◌, None, ◌+◌, [], take, map, slice_get, Bool, IsTrue, Option, Some, Result, Ok, Err, ◌∷◌}
use Rattle.bt_lexer.specs.declared.token.LexFault.{LexFault}
use Rattle.bt_lexer.specs.declared.token.LexFault.TheVariants as lexer
use Rattle.bt_lexer.specs.declared.token.Token.{Token}
use Rattle.bt_syntax.specs.declared.fault.SyntaxFault.{SyntaxFault}
use Rattle.bt_syntax.specs.declared.fault.SyntaxFault.TheVariants as parser
use Rattle.bt_tree.specs.declared.tree.Mapping.{Mapping}
use Rattle.bt_literals.specs.Literals.{AllRead, FirstBad, patterns}
use Rattle.bt_blobl.specs.declared.course.Halt.{Halt}
use Rattle.bt_blobl.specs.declared.course.Halt.TheVariants as halt
use Rattle.bt_blobl.specs.declared.course.MappingFault.TheVariants as faults
use Rattle.bt_ports.specs.World.{Tale}
use Rattle.bt_ports.specs.declared.outside.Source as Source
use Rattle.bt_ports.specs.declared.parts.Next.{Next}
use Rattle.bt_ports.specs.declared.parts.Next.TheVariants as next
use Rattle.bt_commands.specs.Input.{batches, stop}
use Rattle.bt_intake.specs.Sources.{all_tell, told}
use Rattle.bt_commands.specs.View.{InputView}
use Rattle.bt_blobl.specs.declared.course.PassStop.{PassStop}
use Rattle.bt_blobl.specs.declared.course.PassStop.TheVariants as stops
use Rattle.bt_blobl.specs.declared.course.Pass.{Pass}
use Rattle.bt_blobl.specs.declared.course.LineResult.{LineResult}
use Rattle.bt_ports.specs.Faults.{Rose}
use Rattle.bt_ports.specs.declared.parts.Asked.{Asked}
use Rattle.bt_commands.specs.declared.limits.TheConstants.{INPUT_BOUND}
use Rattle.bt_commands.specs.Calls.{source_opening, failed}
use Rattle.bt_blobl.specs.Meaning.{Task, line_bytes, outcome, printed_of, error_of, fails, blobl_text, blobl_errors, some_fail}
use Rattle.bt_blobl.specs.Text.{HasBadPattern, HasLints, HasMappingFault, HasNoLints, IsLintedText, RunsAs}
use Rattle.bt_blobl.specs.Promise.{PrefixIs, IsHaltPart}

-- a fault stands inside the text, or at its end
abbrev pub IsWithin : Halt → List ℕ → Type 0
IsWithin (halt.Faulty fault at) text = at ≤ length text
IsWithin (halt.Lints lints) text = Unit {0}
IsWithin (halt.Pattern at) text = Unit {0}
IsWithin halt.NoSource text = Unit {0}
IsWithin halt.NoMemory text = Unit {0}

-- why a text without tokens is no mapping
abbrev pub lexer_halt : LexFault → Halt
lexer_halt (lexer.Char at) = halt.Faulty faults.Character at
lexer_halt (lexer.Text at) = halt.Faulty faults.Text at
lexer_halt (lexer.Number at) = halt.Faulty faults.Number at
lexer_halt lexer.NoMemory = halt.NoMemory

-- why the grammar refuses a text's tokens
abbrev pub parser_halt : SyntaxFault → Halt
parser_halt (parser.Syntax at) = halt.Faulty faults.Syntax at
parser_halt (parser.TooDeep at) = halt.Faulty faults.TooDeep at
parser_halt parser.NoMemory = halt.NoMemory

-- what the tokens of a text say of a refusal of it
abbrev pub TokensSay : Halt → List ℕ → Type 0
TokensSay (halt.Faulty fault at) text = HasMappingFault fault at text × (at ≤ length text)
TokensSay (halt.Lints lints) text = IsLintedText lints.list text
TokensSay (halt.Pattern at) text = HasBadPattern at text
TokensSay halt.NoSource text = ⊥
TokensSay halt.NoMemory text = Unit {0}

-- what a mapping's patterns say of a refusal of it
abbrev pub PatternsSay : Mapping → Halt → Type 0
PatternsSay m (halt.Faulty fault at) = ⊥
PatternsSay m (halt.Lints lints) = ⊥
PatternsSay m (halt.Pattern at) = FirstBad at (patterns m)
PatternsSay m halt.NoSource = ⊥
PatternsSay m halt.NoMemory = Unit {0}

-- what its lints say
abbrev pub LintsSay : Mapping → Halt → Type 0
LintsSay m (halt.Faulty fault at) = ⊥
LintsSay m (halt.Lints lints) = HasLints m lints.list
LintsSay m (halt.Pattern at) = ⊥
LintsSay m halt.NoSource = ⊥
LintsSay m halt.NoMemory = Unit {0}

-- what a mapping says of a refusal of it
abbrev pub MappingSays : Mapping → Halt → Type 0
MappingSays m (halt.Faulty fault at) = ⊥
MappingSays m (halt.Lints lints) = HasLints m lints.list
MappingSays m (halt.Pattern at) = HasNoLints m × FirstBad at (patterns m)
MappingSays m halt.NoSource = ⊥
MappingSays m halt.NoMemory = Unit {0}

-- what the text says of a refusal of it
abbrev pub RefusalSays : Halt → List ℕ → Type 0
RefusalSays (halt.Faulty fault at) text = HasMappingFault fault at text
RefusalSays (halt.Lints lints) text = IsLintedText lints.list text
RefusalSays (halt.Pattern at) text = HasBadPattern at text
RefusalSays halt.NoSource text = ⊥
RefusalSays halt.NoMemory text = Unit {0}

-- all lines that the sources of an intake make, where they tell their bytes
abbrev pub all_lines : {S : Type 0} → Source.Ghosts S → InputView S → List (List ℕ)
all_lines g i = map line_bytes (batches i.bound (told g i.sources.list))

-- of all that the world tells only what was printed and said changed
abbrev pub PrintsOnly : {E I : Type 0} → Tale E I → Tale E I → Type 0
PrintsOnly a b = b ≡ record a { printed = b.printed; lines = b.lines }

-- these lines were mapped: what was printed and said of them, with `prefix` behind it, whether one failed, and that they are the first of all
pub record Done {S E I : Type 0} (gs : Source.Ghosts S) (t : Task) (done : List (List ℕ)) (prefix : List ℕ) (fault : Bool) (i : InputView S) (tells prints says : Bool) (a b : Tale E I) : Type 0 where
  pub printed : IsTrue tells → IsTrue prints → b.printed ≡ a.printed ++ (blobl_text t done ++ prefix)
  pub said : IsTrue tells → IsTrue says → b.lines ≡ a.lines ++ blobl_errors t done
  pub failed : fault ≡ some_fail t done
  pub first : IsTrue (all_tell gs i.sources.list) → done ≡ take (length done) (all_lines gs i)

-- the lines that were mapped, n of them, and the intake gave no other
pub record Going {S E I : Type 0} (gs : Source.Ghosts S) (t : Task) (n : ℕ) (failed : Bool) (i : InputView S) (tells prints says : Bool) (a b : Tale E I) : Type 0 where
  pub done : List (List ℕ)
  pub whole : Done gs t done [] failed i tells prints says a b
  pub count : length done ≡ n
  pub given : IsTrue (all_tell gs i.sources.list) → i.given ≡ n

-- how many lines the intake gave, and which one was at hand when its outcome couldn't be printed
abbrev pub GivenLines : PassStop → List (List ℕ) → List ℕ → ℕ → List (List ℕ) → Type 0
GivenLines stops.Ended done line given all = given ≡ length done
GivenLines stops.ReadFault done line given all = given ≡ length done
GivenLines (stops.LongLine n) done line given all = given ≡ length done
GivenLines stops.Bound done line given all = given ≡ length done
GivenLines stops.PrintFailed done line given all = slice_get all (length done) ≡ Some line
GivenLines stops.NoMemory done line given all = Unit {0}

-- the same of one turn, of which the intake had given so many before
abbrev pub NextLines : PassStop → List ℕ → ℕ → ℕ → List (List ℕ) → Type 0
NextLines stops.Ended line before given all = given ≡ before
NextLines stops.ReadFault line before given all = given ≡ before
NextLines (stops.LongLine n) line before given all = given ≡ before
NextLines stops.Bound line before given all = given ≡ before
NextLines stops.PrintFailed line before given all = slice_get all before ≡ Some line
NextLines stops.NoMemory line before given all = Unit {0}

-- the sources tell no other lines than before
abbrev pub SameLines : {S : Type 0} → Source.Ghosts S → InputView S → InputView S → Type 0
SameLines gs i j = IsTrue (all_tell gs j.sources.list) → IsTrue (all_tell gs i.sources.list) × (all_lines gs j ≡ all_lines gs i)

-- the intake's own answer, where it is why no more lines are mapped
abbrev pub AnswerIs : PassStop → Option Next → Type 0
AnswerIs stops.Ended stopped = stopped ≡ Some next.End
AnswerIs stops.ReadFault stopped = stopped ≡ Some next.Failed
AnswerIs (stops.LongLine n) stopped = stopped ≡ Some (next.LongLine n)
AnswerIs stops.Bound stopped = stopped ≡ Some next.Bound
AnswerIs stops.PrintFailed stopped = Unit {0}
AnswerIs stops.NoMemory stopped = Unit {0}

-- no more lines are mapped
pub record Passed {S E I : Type 0} (gs : Source.Ghosts S) (t : Task) (pass : Pass) (i : InputView S) (tells prints says : Bool) (a b : Tale E I) : Type 0 where
  pub done : List (List ℕ)
  pub line : List ℕ
  pub prefix : List ℕ
  pub whole : Done gs t done prefix pass.failed i tells prints says a b
  pub prefix_is : PrefixIs pass.stop (outcome t line) prefix
  pub gave : IsTrue (all_tell gs i.sources.list) → GivenLines pass.stop done line i.given (all_lines gs i)
  pub answer : AnswerIs pass.stop i.stopped

-- the outcome of the n-th line was printed or said
pub record LineTold {E I : Type 0} (n : ℕ) (o : LineResult) (tells prints says : Bool) (a b : Tale E I) : Type 0 where
  pub printed : IsTrue tells → IsTrue prints → b.printed ≡ a.printed ++ printed_of o
  pub said : IsTrue tells → IsTrue says → b.lines ≡ a.lines ++ error_of n o

-- it wasn't
pub record LineCut {E I : Type 0} (stop : PassStop) (o : LineResult) (tells prints says : Bool) (a b : Tale E I) : Type 0 where
  pub prefix : List ℕ
  pub prefix_is : PrefixIs stop o prefix
  pub printed : IsTrue tells → IsTrue prints → b.printed ≡ a.printed ++ prefix
  pub said : IsTrue tells → IsTrue says → b.lines ≡ a.lines

-- an outcome isn't told whole only where its print failed or memory was wanting
abbrev pub IsBreak : PassStop → Type 0
IsBreak stops.Ended = ⊥
IsBreak stops.ReadFault = ⊥
IsBreak (stops.LongLine n) = ⊥
IsBreak stops.Bound = ⊥
IsBreak stops.PrintFailed = Unit {0}
IsBreak stops.NoMemory = Unit {0}

-- what became of the outcome of the n-th line: it was told, and whether it is a failure, or it wasn't told whole
abbrev pub LineShown : {E I : Type 0} → Result Bool PassStop → ℕ → LineResult → (tells prints says : Bool) → Tale E I → Tale E I → Type 0
LineShown (Ok failed) n o tells prints says a b = (failed ≡ fails o) × LineTold n o tells prints says a b
LineShown (Err stop) n o tells prints says a b = IsBreak stop × LineCut stop o tells prints says a b

-- The n-th line was taken, and its outcome told: the lines before it are as many as the intake had given
pub record LineMapped {S E I : Type 0} (gs : Source.Ghosts S) (t : Task) (n : ℕ) (fault : Bool) (i j : InputView S) (tells prints says : Bool) (a b : Tale E I) : Type 0 where
  pub line : List ℕ
  pub fault_is : fault ≡ fails (outcome t line)
  pub tells_it : LineTold n (outcome t line) tells prints says a b
  pub given : IsTrue (all_tell gs j.sources.list) → (j.given ≡ i.given + 1) × (slice_get (all_lines gs j) i.given ≡ Some line)

-- No line more was told: the intake gave none, or memory was wanting, or its outcome wasn't printed whole
pub record LinesHalted {S E I : Type 0} (gs : Source.Ghosts S) (t : Task) (stop : PassStop) (i j : InputView S) (tells prints says : Bool) (a b : Tale E I) : Type 0 where
  pub line : List ℕ
  pub breaks : LineCut stop (outcome t line) tells prints says a b
  pub answer : AnswerIs stop j.stopped
  pub gave : IsTrue (all_tell gs j.sources.list) → NextLines stop line i.given j.given (all_lines gs j)

-- how a turn of the lines went
abbrev pub TurnResult : {S E I : Type 0} → Source.Ghosts S → Task → ℕ → Result Bool PassStop → InputView S → InputView S → (tells prints says : Bool) → Tale E I → Tale E I → Type 0
TurnResult gs t n (Ok fault) i j tells prints says a b = LineMapped gs t n fault i j tells prints says a b × SameLines gs i j
TurnResult gs t n (Err stop) i j tells prints says a b = LinesHalted gs t stop i j tells prints says a b × SameLines gs i j

-- no line can be read: the opening failed, or memory was wanting
abbrev pub IsNoOpening : Halt → Type 0
IsNoOpening (halt.Faulty fault at) = ⊥
IsNoOpening (halt.Lints lints) = ⊥
IsNoOpening (halt.Pattern at) = ⊥
IsNoOpening halt.NoSource = Unit {0}
IsNoOpening halt.NoMemory = Unit {0}

-- an intake of one source without faults, of which nothing was given
pub record IsFreshInput {S : Type 0} (gs : Source.Ghosts S) (i : InputView S) : Type 0 where
  pub source : S
  pub sources : i.sources.list ≡ record { path = None; source = source } ∷ []
  pub faults : gs.faults source ≡ 0
  pub bound : i.bound ≡ INPUT_BOUND
  pub given : i.given ≡ 0
  pub stopped : i.stopped ≡ None

-- that source is the standard input, opened as the one call
pub record OpensInput {S E I : Type 0} (gs : Source.Ghosts S) (i : InputView S) (a b : Tale E I) : Type 0 where
  pub source : S
  pub sources : i.sources.list ≡ record { path = None; source = source } ∷ []
  pub place : gs.place source ≡ length a.calls + 1
  pub input : IsTrue (gs.tells source) → gs.bytes source ≡ a.stdin
  pub opens : b ≡ record a { calls = a.calls ++ source_opening ∷ []; stdin = b.stdin }

-- the calls that were made where no line can be read, and nothing else
pub record OpensNone {E I : Type 0} (halt : Halt) (a b : Tale E I) : Type 0 where
  pub part : List Asked
  pub calls : b.calls ≡ a.calls ++ part
  pub openings : IsHaltPart halt part
  pub only : b ≡ record a { calls = b.calls; stdin = b.stdin }

-- what the pass over the lines of an intake did to its count of faults: it stands still unless a read failed or memory was
-- wanting
abbrev pub PassFaults : PassStop → (before after : ℕ) → Type 0
PassFaults stops.Ended before after = after ≡ before
PassFaults stops.ReadFault before after = Rose before after
PassFaults (stops.LongLine n) before after = after ≡ before
PassFaults stops.Bound before after = after ≡ before
PassFaults stops.PrintFailed before after = after ≡ before
PassFaults stops.NoMemory before after = Unit {0}

-- the same of one line, whose mapping failed or not
abbrev pub LineFaults : Result Bool PassStop → (before after : ℕ) → Type 0
LineFaults (Ok failed) before after = after ≡ before
LineFaults (Err stop) before after = PassFaults stop before after

-- why there is no mapping that runs
abbrev pub IsUnread : Halt → Type 0
IsUnread (halt.Faulty fault at) = Unit {0}
IsUnread (halt.Lints lints) = Unit {0}
IsUnread (halt.Pattern at) = Unit {0}
IsUnread halt.NoSource = ⊥
IsUnread halt.NoMemory = Unit {0}
