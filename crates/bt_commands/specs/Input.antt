-- The input of a command that reads lines: each ends with a line feed, and is a batch of its own.
use Rattle.std.specs.Prelude.{ℕ, List, [], ◌∷◌, None}
use Rattle.bt_ports.specs.Intake.{InputStop}
use Rattle.bt_ports.specs.declared.parts.Item.{Item}
use Rattle.bt_lines.specs.Lines.{SourceBytes}
use Rattle.bt_lines.specs.Lines as lines
use Rattle.bt_intake.specs.Batches as cuts
use Rattle.bt_intake.specs.declared.policy.Policy.{Policy}
use Rattle.bt_commands.specs.declared.limits.TheConstants.{INPUT_BOUND}

abbrev pub line_feed : List ℕ
line_feed = 10 ∷ []

-- every item is a batch
abbrev pub single : Policy
single = record { count = 0; byte_size = 0; check = None }

-- the transactions of some sources within a bound: one for each line
abbrev pub batches : ℕ → List SourceBytes → List (List Item)
batches bound ss = cuts.batches line_feed single bound ss

-- those that are closed in the first m bytes
abbrev pub closed : ℕ → List SourceBytes → List (List Item)
closed m ss = cuts.closed line_feed single m ss

-- why the input stops
abbrev pub stop : ℕ → List SourceBytes → InputStop
stop bound ss = lines.stop line_feed bound ss

-- the input: its one source, which has no path
abbrev pub input_of : List ℕ → List SourceBytes
input_of bytes = record { path = None; bytes = bytes } ∷ []

-- the transactions that the whole input makes
abbrev pub transactions : List ℕ → List (List Item)
transactions bytes = batches INPUT_BOUND (input_of bytes)
