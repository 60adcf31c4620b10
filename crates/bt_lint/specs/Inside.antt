-- What stands within a `lint`: the printing of lines. Only proofs use it.
use Rattle.std.specs.Prelude.{◌≡◌, ℕ, List, [], ◌∷◌, ◌++◌, Bool, IsTrue, Result, Ok, Err, OnOk, OnErr, codes}
use Rattle.bt_commands.specs.Outside.{StillTold}
use Rattle.bt_commands.specs.Lines.{no_memory_line}
use Rattle.bt_config_file.specs.declared.halt.ConfigHalt.TheVariants as unread
use Rattle.bt_config_file.specs.declared.linted.Linted.{Linted}
use Rattle.bt_ports.specs.Faults.{Rose}
use Rattle.bt_ports.specs.Printer.{PrintAdds}
use Rattle.bt_ports.specs.declared.parts.PrintFailed.{PrintFailed}
use Rattle.bt_ports.specs.declared.world.World as World
use Rattle.bt_lint.specs.Promise.{Prints}
use Rattle.bt_lint.specs.Report.{prints_of, is_some_lint}
use Rattle.bt_lint.specs.declared.halt.Halt.{Halt}
use Rattle.bt_lint.specs.declared.halt.Halt.TheVariants as halt

-- these bytes were printed, or a prefix of them, from a to b
pub record PrintsBytes {W S K A C : Type 0} (g : World.Ghosts W S K A C) (result : Result (Unit {0}) PrintFailed) (bytes : List ℕ) (a b : W) : Type 0 where
  pub told : StillTold g a b
  pub others : (g.file_faults b ≡ g.file_faults a) × (g.open_faults b ≡ g.open_faults a)
  pub same : OnOk result (g.print_faults b ≡ g.print_faults a)
  pub rose : OnErr result (Rose (g.print_faults a) (g.print_faults b))
  pub only : IsTrue (g.tells b) → g.tale b ≡ record (g.tale a) { printed = (g.tale b).printed }
  pub adds : IsTrue (g.tells_printed b) → PrintAdds result bytes (g.tale a).printed (g.tale b).printed

-- the lines that were to be printed of a configuration that was linted: its report, or none where memory was wanting
abbrev pub ReportSays : Bool → Linted → Result Bool Halt → List (List ℕ) → Type 0
ReportSays migrate linted (Ok refused) lines = (refused ≡ is_some_lint linted.lints) × (lines ≡ prints_of migrate linted.config.doc linted.lints)
ReportSays migrate linted (Err (halt.Unprinted unread.Unread)) lines = ⊥
ReportSays migrate linted (Err (halt.Unprinted (unread.Refused r))) lines = ⊥
ReportSays migrate linted (Err (halt.Unprinted unread.NoMemory)) lines = lines ≡ []
ReportSays migrate linted (Err halt.PrintFailed) lines = lines ≡ prints_of migrate linted.config.doc linted.lints

-- the printer's count rose exactly where a print failed
abbrev pub PrintCounts : Result Bool Halt → (prints prints' : ℕ) → Type 0
PrintCounts (Ok refused) prints prints' = prints' ≡ prints
PrintCounts (Err (halt.Unprinted h)) prints prints' = prints' ≡ prints
PrintCounts (Err halt.PrintFailed) prints prints' = Rose prints prints'

-- what is said of how the printing ended
abbrev pub said_lines : Result Bool Halt → List (List ℕ)
said_lines (Ok refused) = []
said_lines (Err (halt.Unprinted h)) = no_memory_line ∷ []
said_lines (Err halt.PrintFailed) = codes "out: write fault" ∷ []

-- a configuration that was linted was reported, from a to b
pub record PrintsReport {W S K A C : Type 0} (g : World.Ghosts W S K A C) (migrate : Bool) (linted : Linted) (result : Result Bool Halt) (a b : W) : Type 0 where
  pub told : StillTold g a b
  pub others : (g.file_faults b ≡ g.file_faults a) × (g.open_faults b ≡ g.open_faults a)
  pub counts : PrintCounts result (g.print_faults a) (g.print_faults b)
  pub to_print : List (List ℕ)
  pub says : ReportSays migrate linted result to_print
  pub only : IsTrue (g.tells b) → g.tale b ≡ record (g.tale a) { printed = (g.tale b).printed; lines = (g.tale b).lines }
  pub prints : IsTrue (g.tells b) → IsTrue (g.tells_printed b) → Prints result to_print (g.tale a).printed (g.tale b).printed
  pub lines : IsTrue (g.tells b) → IsTrue (g.tells_lines b) → (g.tale b).lines ≡ (g.tale a).lines ++ said_lines result
