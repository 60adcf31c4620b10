-- What the reading of a configuration's file promises: what the file has, what was asked of the world, and what was said.
use Rattle.std.specs.Prelude.{◌≡◌, ◌⊎◌, ℕ, ◌<◌, ◌≤◌, List, [], ◌∷◌, ◌++◌, length, IsTrue, IsSome, IsUtf8, Option, Some, None, Result, Ok, Err, codes}
use Rattle.serde_json.specs.Read.{read}
use Rattle.bt_commands.specs.Calls.{asked, failed}
use Rattle.bt_commands.specs.Lines.{failure_line, no_memory_line}
use Rattle.bt_commands.specs.Outside.{StillTold}
use Rattle.bt_commands.specs.declared.limits.TheConstants.{CONFIG_LIMIT}
use Rattle.bt_config.specs.Violations.{AreViolations}
use Rattle.bt_ports.specs.Faults.{Rose}
use Rattle.bt_ports.specs.World.{Tale}
use Rattle.bt_ports.specs.declared.parts.Asked.{Asked}
use Rattle.bt_ports.specs.declared.parts.What.TheVariants.{File}
use Rattle.bt_ports.specs.declared.world.World as World
use Rattle.bt_value.specs.Reading.{reading}
use Rattle.bt_value.specs.declared.val.Val.{Val}
use Rattle.bt_config_file.specs.declared.halt.ConfigHalt.{ConfigHalt}
use Rattle.bt_config_file.specs.declared.halt.ConfigHalt.TheVariants as halt
use Rattle.bt_config_file.specs.declared.halt.ConfigRefusal.{ConfigRefusal}
use Rattle.bt_config_file.specs.declared.halt.ConfigRefusal.TheVariants as refusal
use Rattle.bt_config_file.specs.declared.linted.Linted.{Linted}

-- the reading of a configuration's file
abbrev pub config_reading : List ℕ → Asked
config_reading path = asked File (Some path) None

-- the file's bytes, no more than a configuration may have, are JSON text of this value
pub record HasConfig (file : Option (List ℕ)) (config : Val) : Type 0 where
  pub bytes : List ℕ
  pub is : file ≡ Some bytes
  pub short : length bytes ≤ CONFIG_LIMIT
  pub utf8 : IsUtf8 bytes
  pub reads : reading bytes ≡ Some config

-- the file is longer than a configuration may be
pub record IsTooLong (file : Option (List ℕ)) : Type 0 where
  pub bytes : List ℕ
  pub is : file ≡ Some bytes
  pub long : CONFIG_LIMIT < length bytes

-- the file is no JSON text
pub record IsNotJson (file : Option (List ℕ)) : Type 0 where
  pub bytes : List ℕ
  pub is : file ≡ Some bytes
  pub short : length bytes ≤ CONFIG_LIMIT
  pub none : IsUtf8 bytes → read bytes ≡ None

-- the file is JSON text with a number that is no whole number of 64 bits
pub record IsOutOfProfile (file : Option (List ℕ)) : Type 0 where
  pub bytes : List ℕ
  pub is : file ≡ Some bytes
  pub short : length bytes ≤ CONFIG_LIMIT
  pub utf8 : IsUtf8 bytes
  pub json : IsSome (read bytes)
  pub none : reading bytes ≡ None

-- why the file is no configuration
abbrev pub RefusalSays : ConfigRefusal → Option (List ℕ) → Type 0
RefusalSays refusal.TooLong file = IsTooLong file
RefusalSays refusal.NotJson file = IsNotJson file
RefusalSays refusal.OutOfProfile file = IsOutOfProfile file

-- what the file says of a reading: the configuration is its own, with all its lints, or it is none
abbrev pub FileSays : Result Linted ConfigHalt → Option (List ℕ) → Type 0
FileSays (Ok linted) file = HasConfig file linted.config.doc × AreViolations linted.config.doc linted.lints
FileSays (Err halt.Unread) file = Unit {0}
FileSays (Err (halt.Refused r)) file = RefusalSays r file
FileSays (Err halt.NoMemory) file = Unit {0}

-- The part of the world's list of calls that a reading is: this call. It failed where the file is unread, and where memory was wanting
-- it may not have been made.
abbrev pub IsReading : Asked → Result Linted ConfigHalt → List Asked → Type 0
IsReading call (Ok linted) part = part ≡ call ∷ []
IsReading call (Err halt.Unread) part = part ≡ failed call ∷ []
IsReading call (Err (halt.Refused r)) part = part ≡ call ∷ []
IsReading call (Err halt.NoMemory) part = (part ≡ []) ⊎ (part ≡ call ∷ [])

-- a file is unread only where the count of such faults rose
abbrev pub ReadCounts : Result Linted ConfigHalt → (files files' : ℕ) → Type 0
ReadCounts (Ok linted) files files' = Unit {0}
ReadCounts (Err halt.Unread) files files' = Rose files files'
ReadCounts (Err (halt.Refused r)) files files' = Unit {0}
ReadCounts (Err halt.NoMemory) files files' = Unit {0}

-- what the world tells of a reading: its part of the list of calls, and else only lines of `err`, of which a configuration adds none
abbrev pub OnlyReads : {E I : Type 0} → Result Linted ConfigHalt → List Asked → Tale E I → Tale E I → Type 0
OnlyReads (Ok linted) part a b = b ≡ record a { calls = a.calls ++ part }
OnlyReads (Err h) part a b = b ≡ record a { calls = a.calls ++ part; lines = b.lines }

pub record ReadTells {E I : Type 0} (call : Asked) (result : Result Linted ConfigHalt) (a b : Tale E I) : Type 0 where
  pub part : List Asked
  pub is_reading : IsReading call result part
  pub only : OnlyReads result part a b

-- the line of `err` on a file that is no configuration
abbrev pub refusal_line : ConfigRefusal → List ℕ
refusal_line refusal.TooLong = codes "config: longer than 16777216 bytes"
refusal_line refusal.NotJson = codes "config: not JSON"
refusal_line refusal.OutOfProfile = codes "config: number out of profile"

-- what is said where there is none
abbrev pub halt_line : Asked → ConfigHalt → List ℕ
halt_line call halt.Unread = failure_line call
halt_line call (halt.Refused r) = refusal_line r
halt_line call halt.NoMemory = no_memory_line

abbrev pub reading_lines : Asked → Result Linted ConfigHalt → List (List ℕ)
reading_lines call (Ok linted) = []
reading_lines call (Err h) = halt_line call h ∷ []

-- the configuration in the file `path` was read and linted, or what kept it from that was said
pub record ReadsLinted {W S K A C : Type 0} (g : World.Ghosts W S K A C) (path : List ℕ) (result : Result Linted ConfigHalt) (a b : W) : Type 0 where
  pub told : StillTold g a b
  pub counted : g.file_faults a ≤ g.file_faults b
  pub others : (g.open_faults b ≡ g.open_faults a) × (g.print_faults b ≡ g.print_faults a)
  pub counts : ReadCounts result (g.file_faults a) (g.file_faults b)
  pub tells : IsTrue (g.tells b) → ReadTells (config_reading path) result (g.tale a) (g.tale b)
  pub says : IsTrue (g.tells b) → FileSays result ((g.tale a).files path)
  pub lines : IsTrue (g.tells b) → IsTrue (g.tells_lines b) → (g.tale b).lines ≡ (g.tale a).lines ++ reading_lines (config_reading path) result
