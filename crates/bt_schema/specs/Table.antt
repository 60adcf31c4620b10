-- The table of fields: what stands at each place of a configuration.
--
-- `rows` has the fields of each object and the kinds of each component, in byte order, each with the place of what stands there.
-- `form_of` says what has to stand at a place, `element` where the elements of a list stand, and `required` which fields must be
-- there. All else of a configuration's form follows from these four.
use Rattle.std.specs.Prelude.{ℕ, pos, List, [], ◌∷◌, Option, Some, None, codes, Bool, true, false, not, ◌&&◌, ◌||◌, if◌then◌else◌, nat_le, length, drop, ◌-◌}
use Rattle.std.specs.Str.{bytes_eq}
use Rattle.bt_value.specs.Keys.{find}
use Rattle.bt_schema.specs.declared.places.Place.{Place}
use Rattle.bt_schema.specs.declared.places.Place.TheVariants as place
use Rattle.bt_schema.specs.declared.forms.Form.{Form}
use Rattle.bt_schema.specs.declared.forms.Form.TheVariants as form
use Rattle.bt_schema.specs.declared.forms.Language.TheVariants as language

-- names, each with the place of what stands there
abbrev pub Rows : Type 0
Rows = List (List ℕ × Place)

-- a row that only version 2 has, before others
abbrev pub since : Bool → List ℕ → Place → Rows → Rows
since newer name there others = if newer then (name, there) ∷ others else others

-- The fields of an object, and the kinds and other members of a component, in version 2 (`newer`) or in version 1.
abbrev pub rows : Bool → Place → Rows
-- the whole configuration. Sections of a Benthos that this one leaves out are known and refused, as is each name that ends in
-- `_resources` (`member`)
rows newer place.Top =
    (codes "buffer", place.Refused) ∷
    (codes "http", place.Refused) ∷
    (codes "input", place.Input) ∷
    (codes "logger", place.Refused) ∷
    (codes "metrics", place.Refused) ∷
    (codes "output", place.Output) ∷
    (codes "pipeline", place.Pipeline) ∷
    (codes "shutdown_timeout", place.Refused) ∷
    (codes "tests", place.Tests) ∷
    (codes "tracer", place.Refused) ∷
    (codes "version", place.Version) ∷
    []
-- `pipeline`
rows newer place.Pipeline =
    (codes "processors", place.Processors) ∷
    (codes "threads", place.Threads) ∷
    since newer (codes "window") place.Window (
    [])
-- an input: a kind, and a label. Processors of an input are refused
rows newer place.Input =
    (codes "batched", place.Batched) ∷
    (codes "file", place.FileInput) ∷
    (codes "label", place.Label) ∷
    (codes "processors", place.Refused) ∷
    since newer (codes "read_until") place.ReadUntil (
    since newer (codes "sequence") place.Sequence (
    (codes "stdin", place.Stdin) ∷
    []))
-- the input `stdin`
rows newer place.Stdin =
    (codes "auto_replay_nacks", place.Never) ∷
    since newer (codes "codec") place.Codec (
    (codes "scanner", place.Scanner) ∷
    [])
-- the input `file`
rows newer place.FileInput =
    (codes "auto_replay_nacks", place.Never) ∷
    since newer (codes "codec") place.Codec (
    (codes "paths", place.Paths) ∷
    (codes "scanner", place.Scanner) ∷
    [])
-- a scanner, which has no label
rows newer place.Scanner =
    since newer (codes "csv") place.CsvScanner (
    (codes "lines", place.LinesScanner) ∷
    [])
-- the scanner `lines`
rows newer place.LinesScanner =
    since newer (codes "custom_delimiter") place.LinesDelimiter (
    [])
-- the scanner `csv`
rows newer place.CsvScanner =
    (codes "custom_delimiter", place.CsvDelimiter) ∷
    (codes "parse_header_row", place.Flag) ∷
    []
-- the input `batched`
rows newer place.Batched =
    (codes "child", place.Input) ∷
    (codes "policy", place.Policy) ∷
    []
-- the policy of the input `batched`. Its processors are refused
rows newer place.Policy =
    (codes "byte_size", place.ByteSize) ∷
    (codes "check", place.OptionalCheck) ∷
    (codes "count", place.Count) ∷
    (codes "period", place.InputPeriod) ∷
    (codes "processors", place.Refused) ∷
    []
-- the input `sequence`
rows newer place.Sequence =
    (codes "inputs", place.Inputs) ∷
    []
-- the input `read_until`. Its idle timeout is refused
rows newer place.ReadUntil =
    (codes "check", place.Check) ∷
    (codes "idle_timeout", place.Refused) ∷
    (codes "input", place.Input) ∷
    (codes "restart_input", place.Never) ∷
    []
-- an output: a kind, and a label. Processors of an output are refused
rows newer place.Output =
    (codes "broker", place.Broker) ∷
    (codes "drop", place.Drop) ∷
    (codes "drop_on", place.DropOn) ∷
    (codes "fallback", place.Outputs) ∷
    (codes "file", place.FileOutput) ∷
    (codes "label", place.Label) ∷
    (codes "processors", place.Refused) ∷
    (codes "reject", place.Interpolated) ∷
    (codes "reject_errored", place.Output) ∷
    (codes "retry", place.Retry) ∷
    (codes "stdout", place.Stdout) ∷
    (codes "switch", place.OutputSwitch) ∷
    []
-- the output `stdout`
rows newer place.Stdout =
    (codes "codec", place.OutputCodec) ∷
    []
-- the output `file`
rows newer place.FileOutput =
    (codes "codec", place.OutputCodec) ∷
    (codes "path", place.SinkPath) ∷
    []
-- the output `broker`
rows newer place.Broker =
    (codes "batching", place.Batching) ∷
    (codes "outputs", place.Outputs) ∷
    (codes "pattern", place.Pattern) ∷
    []
-- the batching of the output `broker`. Its processors are refused
rows newer place.Batching =
    (codes "byte_size", place.ByteSize) ∷
    (codes "check", place.OptionalCheck) ∷
    (codes "count", place.Count) ∷
    (codes "period", place.Period) ∷
    (codes "processors", place.Refused) ∷
    []
-- the output `switch`
rows newer place.OutputSwitch =
    (codes "cases", place.OutputCases) ∷
    (codes "retry_until_success", place.Never) ∷
    (codes "strict_mode", place.Flag) ∷
    []
-- a case of the output `switch`
rows newer place.OutputCase =
    (codes "check", place.OptionalCheck) ∷
    (codes "continue", place.Flag) ∷
    (codes "output", place.Output) ∷
    []
-- the output `retry`. It waits for nothing, so what says how it waits is refused
rows newer place.Retry =
    (codes "back_pressure", place.Refused) ∷
    (codes "backoff", place.Refused) ∷
    (codes "error_patterns", place.Refused) ∷
    (codes "max_in_flight", place.Refused) ∷
    (codes "max_retries", place.MaxRetries) ∷
    (codes "output", place.Output) ∷
    []
-- the output `drop_on`
rows newer place.DropOn =
    (codes "back_pressure", place.Refused) ∷
    (codes "backoff", place.Refused) ∷
    (codes "error", place.Flag) ∷
    (codes "error_patterns", place.Refused) ∷
    (codes "max_in_flight", place.Refused) ∷
    (codes "output", place.Output) ∷
    []
-- a processor: a kind, and a label
rows newer place.Processor =
    (codes "archive", place.Archive) ∷
    (codes "bloblang", place.Mapping) ∷
    (codes "branch", place.Branch) ∷
    (codes "catch", place.Processors) ∷
    (codes "for_each", place.Processors) ∷
    (codes "group_by", place.GroupBy) ∷
    (codes "group_by_value", place.GroupByValue) ∷
    (codes "label", place.Label) ∷
    (codes "mapping", place.Mapping) ∷
    (codes "split", place.Split) ∷
    (codes "switch", place.Switch) ∷
    (codes "try", place.Processors) ∷
    (codes "unarchive", place.Archive) ∷
    []
-- a case of the processor `switch`
rows newer place.SwitchCase =
    (codes "check", place.OptionalCheck) ∷
    (codes "fallthrough", place.Flag) ∷
    (codes "processors", place.Processors) ∷
    []
-- the processor `branch`
rows newer place.Branch =
    (codes "processors", place.Processors) ∷
    (codes "request_map", place.OptionalMapping) ∷
    (codes "result_map", place.OptionalMapping) ∷
    []
-- the processor `split`. To split by bytes is refused
rows newer place.Split =
    (codes "byte_size", place.Refused) ∷
    (codes "size", place.Size) ∷
    []
-- a group of the processor `group_by`
rows newer place.Group =
    (codes "check", place.Check) ∷
    (codes "processors", place.Processors) ∷
    []
-- the processor `group_by_value`
rows newer place.GroupByValue =
    (codes "value", place.Interpolated) ∷
    []
-- the processors `archive` and `unarchive`
rows newer place.Archive =
    (codes "format", place.Format) ∷
    []
-- a test
rows newer place.Test =
    (codes "input_batch", place.Messages) ∷
    (codes "name", place.Label) ∷
    (codes "output_batches", place.ExpectedBatches) ∷
    (codes "target_processors", place.Target) ∷
    []
-- a message that a test puts in: its content, as a text or as JSON, and metadata
rows newer place.Message =
    (codes "content", place.Label) ∷
    (codes "json_content", place.AnyValue) ∷
    (codes "metadata", place.AnyObject) ∷
    []
-- the conditions on a message that a test expects
rows newer place.Conditions =
    (codes "bloblang", place.Check) ∷
    (codes "content_equals", place.Label) ∷
    (codes "content_matches", place.Regex) ∷
    (codes "json_contains", place.AnyValue) ∷
    (codes "json_equals", place.AnyValue) ∷
    (codes "metadata_equals", place.AnyObject) ∷
    []
rows newer _ = []

-- a name that ends in `_resources`
abbrev pub ends_in_resources : List ℕ → Bool
ends_in_resources key = nat_le 10 (length key) && bytes_eq (drop (length key - 10) key) (codes "_resources")

-- the place of a row, or else that of the resources, which are known and refused
abbrev pub or_resources : List ℕ → Option Place → Option Place
or_resources key (Some there) = Some there
or_resources key None = if ends_in_resources key then Some place.Refused else None

-- the place of a member, and none where it is unknown
abbrev pub member : Bool → Place → List ℕ → Option Place
member newer place.Top key = or_resources key (find key (rows newer place.Top))
member newer parent key = find key (rows newer parent)

-- the place of a list's elements
abbrev pub element : Place → Place
element place.Paths = place.Path
element place.Inputs = place.Input
element place.Outputs = place.Output
element place.OutputCases = place.OutputCase
element place.Processors = place.Processor
element place.Switch = place.SwitchCase
element place.GroupBy = place.Group
element place.Tests = place.Test
element place.Messages = place.Message
element place.ExpectedBatches = place.ExpectedBatch
element place.ExpectedBatch = place.Conditions
element _ = place.Refused

-- what stands at a place
abbrev pub form_of : Place → Form
form_of place.Top = form.Object
form_of place.Version = form.Number (pos 1) (pos 2)
form_of place.Pipeline = form.Object
form_of place.Threads = form.Number (pos 1) (pos 64)
form_of place.Window = form.Number (pos 1) (pos 16384)
form_of place.Input = form.Component
form_of place.Stdin = form.Object
form_of place.FileInput = form.Object
form_of place.Paths = form.List 1 (Some 64)
form_of place.Path = form.Path
form_of place.Codec = form.Codec
form_of place.Scanner = form.Component
form_of place.LinesScanner = form.Object
form_of place.LinesDelimiter = form.LinesDelimiter
form_of place.CsvScanner = form.Object
form_of place.CsvDelimiter = form.CsvDelimiter
form_of place.Batched = form.Object
form_of place.Policy = form.Object
form_of place.Sequence = form.Object
form_of place.Inputs = form.List 1 None
form_of place.ReadUntil = form.Object
form_of place.Count = form.Number (pos 0) (pos 16384)
form_of place.ByteSize = form.Number (pos 0) (pos 1073741824)
form_of place.Period = form.Period false
form_of place.InputPeriod = form.Period true
form_of place.Output = form.Component
form_of place.Outputs = form.List 1 None
form_of place.Stdout = form.Object
form_of place.FileOutput = form.Object
form_of place.OutputCodec = form.OutputCodec
form_of place.SinkPath = form.FilledText
form_of place.Broker = form.Object
form_of place.Batching = form.Object
form_of place.Pattern = form.Pattern
form_of place.OutputSwitch = form.Object
form_of place.OutputCases = form.List 1 None
form_of place.OutputCase = form.Object
form_of place.Drop = form.Object
form_of place.Retry = form.Object
form_of place.MaxRetries = form.Number (pos 1) (pos 8)
form_of place.DropOn = form.Object
form_of place.Processors = form.List 0 None
form_of place.Processor = form.Component
form_of place.Switch = form.List 0 None
form_of place.SwitchCase = form.Object
form_of place.Branch = form.Object
form_of place.Split = form.Object
form_of place.Size = form.Number (pos 1) (pos 16384)
form_of place.GroupBy = form.List 1 None
form_of place.Group = form.Object
form_of place.GroupByValue = form.Object
form_of place.Archive = form.Object
form_of place.Format = form.Format
form_of place.Tests = form.List 0 None
form_of place.Test = form.Object
form_of place.Messages = form.List 0 None
form_of place.Message = form.Choice
form_of place.ExpectedBatches = form.List 0 None
form_of place.ExpectedBatch = form.List 0 None
form_of place.Conditions = form.Object
form_of place.Target = form.Target
form_of place.Mapping = form.Query language.Mapping false
form_of place.OptionalMapping = form.Query language.Mapping true
form_of place.Check = form.Query language.Check false
form_of place.OptionalCheck = form.Query language.Check true
form_of place.Interpolated = form.Query language.Interpolated false
form_of place.Label = form.Text
form_of place.Regex = form.Text
form_of place.Flag = form.Flag
form_of place.Never = form.Never
form_of place.AnyValue = form.AnyValue
form_of place.AnyObject = form.AnyObject
form_of place.Refused = form.Refused

-- the fields that an object must have, in byte order
abbrev pub required : Place → List (List ℕ)
required place.FileInput = codes "paths" ∷ []
required place.Batched = codes "child" ∷ []
required place.Sequence = codes "inputs" ∷ []
required place.ReadUntil = codes "check" ∷ codes "input" ∷ []
required place.FileOutput = codes "path" ∷ []
required place.Broker = codes "outputs" ∷ codes "pattern" ∷ []
required place.OutputSwitch = codes "cases" ∷ []
required place.OutputCase = codes "output" ∷ []
required place.Retry = codes "max_retries" ∷ codes "output" ∷ []
required place.DropOn = codes "error" ∷ codes "output" ∷ []
required place.Group = codes "check" ∷ []
required place.GroupByValue = codes "value" ∷ []
required place.Archive = codes "format" ∷ []
required place.Test = codes "input_batch" ∷ codes "name" ∷ codes "output_batches" ∷ []
required _ = []

-- Whether a member of an object names a kind, known or not. In a component each does, but a label, and in an input or an output
-- `processors`; a message of a test has either `content` or `json_content`.
abbrev pub names_kind : Place → List ℕ → Bool
names_kind place.Input key = not (bytes_eq key (codes "label")) && not (bytes_eq key (codes "processors"))
names_kind place.Output key = not (bytes_eq key (codes "label")) && not (bytes_eq key (codes "processors"))
names_kind place.Processor key = not (bytes_eq key (codes "label"))
names_kind place.Message key = bytes_eq key (codes "content") || bytes_eq key (codes "json_content")
names_kind _ key = true
