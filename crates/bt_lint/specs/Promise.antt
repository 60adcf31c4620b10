-- What the command `lint` promises.
use Rattle.std.specs.Prelude.{◌≡◌, ℕ, List, [], ◌∷◌, ◌++◌, take, Bool, true, false, IsTrue, Option, Result, Ok, Err, codes}
use Rattle.bt_commands.specs.Outside.{StillTold}
use Rattle.bt_commands.specs.declared.status.Status.{Status}
use Rattle.bt_commands.specs.declared.status.Status.TheVariants as statuses
use Rattle.bt_config.specs.Violations.{AreViolations}
use Rattle.bt_config_file.specs.Reading.{HasConfig, IsReading, ReadCounts, FileSays, config_reading, halt_line}
use Rattle.bt_config_file.specs.declared.halt.ConfigHalt.TheVariants as unread
use Rattle.bt_ports.specs.Faults.{Rose}
use Rattle.bt_ports.specs.World.{Tale}
use Rattle.bt_ports.specs.declared.parts.Asked.{Asked}
use Rattle.bt_ports.specs.declared.world.World as World
use Rattle.bt_schema.specs.declared.lints.Lint.{Lint}
use Rattle.bt_value.specs.declared.val.Val.{Val}
use Rattle.bt_lint.specs.Report.{prints_of, joined, is_some_lint}
use Rattle.bt_lint.specs.declared.halt.Halt.{Halt}
use Rattle.bt_lint.specs.declared.halt.Halt.TheVariants as halt

-- The command's part of the world's list of calls: the one reading of the file. Where memory was wanting it may not have been made.
abbrev pub IsPart : Asked → Result Bool Halt → List Asked → Type 0
IsPart call (Ok refused) part = part ≡ call ∷ []
IsPart call (Err (halt.Unprinted h)) part = IsReading call (Err h) part
IsPart call (Err halt.PrintFailed) part = part ≡ call ∷ []

-- the file has a configuration of which these lines are printed, and whether it has a lint
pub record HasReport (migrate : Bool) (file : Option (List ℕ)) (refused : Bool) (lines : List (List ℕ)) : Type 0 where
  pub config : Val
  pub lints : List Lint
  pub has : HasConfig file config
  pub violations : AreViolations config lints
  pub refuses : refused ≡ is_some_lint lints
  pub prints : lines ≡ prints_of migrate config lints

-- What the file says of how the command ended, and which lines were to be printed: those of a configuration where the command came
-- to its end or a print failed, and else none.
abbrev pub LintSays : Bool → Result Bool Halt → Option (List ℕ) → List (List ℕ) → Type 0
LintSays migrate (Ok refused) file lines = HasReport migrate file refused lines
LintSays migrate (Err (halt.Unprinted h)) file lines = (lines ≡ []) × FileSays (Err h) file
LintSays migrate (Err halt.PrintFailed) file lines = (refused : Bool) × HasReport migrate file refused lines

-- what was printed of these lines: all of them, or where a print failed a prefix of them
abbrev pub Prints : Result Bool Halt → List (List ℕ) → List ℕ → List ℕ → Type 0
Prints (Ok refused) lines before after = after ≡ before ++ joined lines
Prints (Err (halt.Unprinted h)) lines before after = after ≡ before ++ joined lines
Prints (Err halt.PrintFailed) lines before after = (n : ℕ) × (after ≡ before ++ take n (joined lines))

-- which count rose: that of files where the file is unread, and that of the printer exactly where a print failed
abbrev pub Counts : Result Bool Halt → (files files' prints prints' : ℕ) → Type 0
Counts (Ok refused) files files' prints prints' = prints' ≡ prints
Counts (Err (halt.Unprinted h)) files files' prints prints' = ReadCounts (Err h) files files' × (prints' ≡ prints)
Counts (Err halt.PrintFailed) files files' prints prints' = Rose prints prints'

-- what the world tells of the command
pub record Tells {E I : Type 0} (migrate : Bool) (path : List ℕ) (result : Result Bool Halt) (told_printed : Bool) (a b : Tale E I) : Type 0 where
  -- its part of the list of calls
  pub part : List Asked
  pub calls : b.calls ≡ a.calls ++ part
  pub is_part : IsPart (config_reading path) result part
  -- the lines that were to be printed, by what the file says, and what of them was
  pub to_print : List (List ℕ)
  pub says : LintSays migrate result (a.files path) to_print
  pub prints : IsTrue told_printed → Prints result to_print a.printed b.printed
  -- of all else only the lines of `err` changed
  pub only : b ≡ record a { calls = b.calls; printed = b.printed; lines = b.lines }

-- the line of `err`, where the command came to no end
abbrev pub err_lines : Asked → Result Bool Halt → List (List ℕ)
err_lines call (Ok refused) = []
err_lines call (Err (halt.Unprinted h)) = halt_line call h ∷ []
err_lines call (Err halt.PrintFailed) = codes "out: write fault" ∷ []

-- the status: 1 exactly where the configuration has a lint, 3 where the file is none, 4 where it is unread, 5 where a print failed, and
-- 6 for want of memory
abbrev pub status_of : Result Bool Halt → Status
status_of (Ok false) = statuses.Done
status_of (Ok true) = statuses.Refused
status_of (Err (halt.Unprinted unread.Unread)) = statuses.Input
status_of (Err (halt.Unprinted (unread.Refused r))) = statuses.Config
status_of (Err (halt.Unprinted unread.NoMemory)) = statuses.Memory
status_of (Err halt.PrintFailed) = statuses.Output

-- how a `lint` of the file `path` ended, from a to b: whether there is a lint, or what kept it from its end
pub record LintEnds {W S K A C : Type 0} (g : World.Ghosts W S K A C) (migrate : Bool) (path : List ℕ) (result : Result Bool Halt) (a b : W) : Type 0 where
  pub told : StillTold g a b
  pub opens : g.open_faults b ≡ g.open_faults a
  pub counts : Counts result (g.file_faults a) (g.file_faults b) (g.print_faults a) (g.print_faults b)
  pub tells : IsTrue (g.tells b) → Tells migrate path result (g.tells_printed b) (g.tale a) (g.tale b)
  pub lines : IsTrue (g.tells b) → IsTrue (g.tells_lines b) → (g.tale b).lines ≡ (g.tale a).lines ++ err_lines (config_reading path) result

-- a `lint` of the file `path`, from a to b
pub record LintPromise {W S K A C : Type 0} (g : World.Ghosts W S K A C) (migrate : Bool) (path : List ℕ) (status : Status) (a b : W) : Type 0 where
  pub result : Result Bool Halt
  pub ends : LintEnds g migrate path result a b
  pub is_status : status ≡ status_of result
