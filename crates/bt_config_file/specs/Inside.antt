-- What stands within the reading of a configuration's file. Only proofs use it.
use Rattle.std.specs.Prelude.{◌≡◌, ℕ, List, [], ◌++◌, map, Result, Ok, Err, IsSome, IsUtf8, Some, None, false}
use Rattle.serde_json.specs.Read.{read}
use Rattle.bt_commands.specs.Lines.{no_memory_line}
use Rattle.bt_config.specs.Violations.{AreViolations}
use Rattle.bt_ports.specs.World.{Tale}
use Rattle.bt_ports.specs.declared.NoMemory.{NoMemory}
use Rattle.bt_ports.specs.declared.parts.Asked.{Asked}
use Rattle.bt_schema.specs.Lines.{line}
use Rattle.bt_schema.specs.declared.lints.Lint.{Lint}
use Rattle.bt_value.specs.Plain.{has_bytes}
use Rattle.bt_value.specs.Reading.{reading}
use Rattle.bt_config_file.specs.Reading.{IsReading, refusal_line}
use Rattle.bt_config_file.specs.declared.halt.ConfigHalt.{ConfigHalt}
use Rattle.bt_config_file.specs.declared.halt.ConfigHalt.TheVariants as halt
use Rattle.bt_config_file.specs.declared.halt.ConfigRefusal.TheVariants as refusal
use Rattle.bt_config_file.specs.declared.linted.Linted.{Linted}

-- what the bytes say of a configuration, or why they are none
abbrev pub BytesSay : Result Linted ConfigHalt → List ℕ → Type 0
BytesSay (Ok linted) bytes =
    IsUtf8 bytes × (reading bytes ≡ Some linted.config.doc) × AreViolations linted.config.doc linted.lints × (has_bytes linted.config.doc ≡ false)
BytesSay (Err halt.Unread) bytes = ⊥
BytesSay (Err (halt.Refused refusal.TooLong)) bytes = ⊥
BytesSay (Err (halt.Refused refusal.NotJson)) bytes = IsUtf8 bytes → read bytes ≡ None
BytesSay (Err (halt.Refused refusal.OutOfProfile)) bytes = IsUtf8 bytes × IsSome (read bytes) × (reading bytes ≡ None)
BytesSay (Err halt.NoMemory) bytes = Unit {0}

-- what the world tells of a reading of which nothing is said yet
pub record Looked {E I : Type 0} (call : Asked) (result : Result Linted ConfigHalt) (a b : Tale E I) : Type 0 where
  pub part : List Asked
  pub is_reading : IsReading call result part
  pub only : b ≡ record a { calls = a.calls ++ part }

-- what is said of a halt, where this is the line of an unread file
abbrev pub said_line : List ℕ → ConfigHalt → List ℕ
said_line unread halt.Unread = unread
said_line unread (halt.Refused r) = refusal_line r
said_line unread halt.NoMemory = no_memory_line

-- the lines of lints, or none where memory was wanting
abbrev pub said_of : Result (Unit {0}) NoMemory → List Lint → List (List ℕ)
said_of (Ok x) lints = map line lints
said_of (Err e) lints = []
