-- What `blobl` prints and says of the lines of its input.
use Rattle.std.specs.Prelude.{ℕ, suc, List, [], ◌∷◌, ◌++◌, map, Bool, true, false, ◌||◌, Option, Some, None, Result, Ok, Err, codes, decimal, if◌then◌else◌}
use Rattle.bt_ports.specs.declared.parts.Item.{Item}
use Rattle.bt_tree.specs.declared.tree.Mapping.{Mapping}
use Rattle.bt_meaning.specs.Mapped.{mapped}
use Rattle.bt_meaning.specs.Contents.{document, this_fault}
use Rattle.bt_meaning.specs.declared.content.ContentFault.{ContentFault}
use Rattle.bt_meaning.specs.declared.message.Mapped.{Mapped}
use Rattle.bt_meaning.specs.declared.message.Mapped.TheVariants as mapping
use Rattle.bt_value.specs.declared.message.Msg.{Msg}
use Rattle.bt_value.specs.Reading.{pretty_text}
use Rattle.bt_value.specs.declared.val.Val.{Val, out-Val}
use Rattle.bt_value.specs.declared.val.Val.TheOpen.{Val-F}
use Rattle.bt_meaning.specs.declared.message.Spot.{Spot}
use Rattle.bt_commands.specs.Input.{transactions}
use Rattle.bt_blobl.specs.declared.course.Flags.{Flags}
use Rattle.bt_blobl.specs.declared.course.LineResult.{LineResult}
use Rattle.bt_blobl.specs.declared.course.LineResult.TheVariants as outcomes

-- the bytes of a line, which is a batch of one item
abbrev pub line_bytes : List Item → List ℕ
line_bytes [] = []
line_bytes (i ∷ is) = i.bytes

-- the lines of an input with these bytes
abbrev pub lines_of : List ℕ → List (List ℕ)
lines_of bytes = map line_bytes (transactions bytes)

-- a line as a message: it has no metadata and no flag
abbrev pub message : List ℕ → Msg
message line = record { content = line; meta = []; flag = None }

-- a batch of one message, at moment 0
abbrev pub alone : Spot
alone = record { index = 0; size = 1; moment = 0 }

-- what is done with each line: a mapping is run on it, by these flags
pub record Task : Type 0 where
  pub mapping : Mapping
  pub flags : Flags

abbrev pub task_of : Mapping → Flags → Task
task_of m flags = record { mapping = m; flags = flags }

-- a document of this content, laid out over several lines where it is a list or an object
abbrev laid_by : Val-F Val → Val → List ℕ → List ℕ
laid_by (Val-F.Arr xs) x content = pretty_text x
laid_by (Val-F.Obj ms) x content = pretty_text x
laid_by _ x content = content

unfoldable pub laid_value : Val → List ℕ → List ℕ
laid_value x content = laid_by (out-Val x) x content

abbrev pub laid : Result Val ContentFault → List ℕ → List ℕ
laid (Ok x) content = laid_value x content
laid (Err fault) content = content

-- a result as it is printed: as it is, or, with the flag `pretty`, laid out where it is a document
abbrev pub result_text : Bool → List ℕ → List ℕ
result_text pretty content = if pretty then laid (document content) content else content

-- what a mapping makes of a message, by what is printed of it: its content and a line break
abbrev pub shown : Bool → Mapped → LineResult
shown pretty (mapping.Changed m) = outcomes.Prints (result_text pretty m.content ++ 10 ∷ [])
shown pretty mapping.Dropped = outcomes.Drops
shown pretty (mapping.Flagged text) = outcomes.Fails text

abbrev pub mapped_line : Task → List ℕ → LineResult
mapped_line t line = shown t.flags.pretty (mapped t.mapping (message line) None alone)

-- a line that is no document fails with the text that `this` has then, whatever the mapping is
abbrev pub outcome_by : Option (List ℕ) → Task → List ℕ → LineResult
outcome_by (Some text) t line = outcomes.Fails text
outcome_by None t line = mapped_line t line

-- what becomes of a line; with the flag `raw` it need be no document
abbrev pub outcome : Task → List ℕ → LineResult
outcome t line = if t.flags.raw then mapped_line t line else outcome_by (this_fault line) t line

-- what is printed of it
abbrev pub printed_of : LineResult → List ℕ
printed_of (outcomes.Prints bytes) = bytes
printed_of outcomes.Drops = []
printed_of (outcomes.Fails text) = []

-- the line of `err` of the n-th line, where its mapping failed
abbrev pub error_of : ℕ → LineResult → List (List ℕ)
error_of n (outcomes.Prints bytes) = []
error_of n outcomes.Drops = []
error_of n (outcomes.Fails text) = (codes "line " ++ decimal n ++ codes ": " ++ text) ∷ []

abbrev pub fails : LineResult → Bool
fails (outcomes.Prints bytes) = false
fails outcomes.Drops = false
fails (outcomes.Fails text) = true

-- what is printed of the lines, one behind the other
abbrev pub blobl_text : Task → List (List ℕ) → List ℕ
blobl_text t [] = []
blobl_text t (line ∷ lines) = printed_of (outcome t line) ++ blobl_text t lines

-- the lines of `err` of lines that are numbered from n on
abbrev pub errors_from : ℕ → Task → List (List ℕ) → List (List ℕ)
errors_from n t [] = []
errors_from n t (line ∷ lines) = error_of n (outcome t line) ++ errors_from (suc n) t lines

-- the failed lines with their texts. Lines are numbered from 1
abbrev pub blobl_errors : Task → List (List ℕ) → List (List ℕ)
blobl_errors t lines = errors_from 1 t lines

-- whether the mapping of one of the lines failed
abbrev pub some_fail : Task → List (List ℕ) → Bool
some_fail t [] = false
some_fail t (line ∷ lines) = fails (outcome t line) || some_fail t lines
