-- What the program does, by its words.
use Rattle.std.specs.Prelude.{◌≡◌, ℕ, List, [], ◌∷◌, Option, Some, None, option_map, Result, Ok, Err, map, string_bytes}
use Rattle.std.specs.declared.alloc.Global.{Global}
use Rattle.std.specs.declared.string.String.{String}
use Rattle.bt_blobl.specs.Promise.{BloblPromise}
use Rattle.bt_command_line.specs.Commands.{IsCommand}
use Rattle.bt_command_line.specs.declared.commands.Command.{Command}
use Rattle.bt_command_line.specs.declared.commands.Command.TheVariants as command
use Rattle.bt_command_line.specs.declared.commands.WordsFault.{WordsFault}
use Rattle.bt_command_line.specs.declared.commands.WordsFault.TheVariants as fault
use Rattle.bt_commands.specs.Lines.{usage_line, no_memory_line}
use Rattle.bt_commands.specs.Outside.{Outside, SaysOnly}
use Rattle.bt_commands.specs.declared.status.Status.{Status}
use Rattle.bt_commands.specs.declared.status.Status.TheVariants as statuses
use Rattle.bt_lint.specs.Promise.{LintPromise}
use Rattle.bt_ports.specs.declared.world.World as World
use Rattle.bt_run.specs.Promise.{RunPromise}

-- how the words were read: as the command that they are, or as none because they are none; memory may have been wanting
abbrev pub AreRead : List (String Global) → Result Command WordsFault → Type 0
AreRead words (Ok c) = IsCommand (map string_bytes words) c
AreRead words (Err fault.NoCommand) = (c : Command) → IsCommand (map string_bytes words) c → ⊥
AreRead words (Err fault.NoMemory) = Unit {0}

-- the usage was said, and nothing else was done
abbrev pub SaysUsage : {W S K A C : Type 0} → World.Ghosts W S K A C → Status → W → W → Type 0
SaysUsage g status a b = (status ≡ statuses.Words) × SaysOnly g (usage_line ∷ []) a b

-- want of memory was said, and nothing else was done
abbrev pub SaysWant : {W S K A C : Type 0} → World.Ghosts W S K A C → Status → W → W → Type 0
SaysWant g status a b = (status ≡ statuses.Memory) × SaysOnly g (no_memory_line ∷ []) a b

-- a run without a trace; with one it isn't built yet
abbrev pub Runs : {W S K A C : Type 0} → Outside W S K A C → List ℕ → Option (List ℕ) → Option (List ℕ) → Status → W → W → Type 0
Runs o config answers None status a b = RunPromise o config answers status a b
Runs o config answers (Some trace) status a b = SaysUsage o.world status a b

-- what was done of a command; `test`, `load` and `audit` aren't built yet
abbrev pub Obeys : {W S K A C : Type 0} → Outside W S K A C → Command → Status → W → W → Type 0
Obeys o (command.Run config answers trace) status a b = Runs o config.now (option_map (λ t. t.now) answers) (option_map (λ t. t.now) trace) status a b
Obeys o (command.Lint migrate file) status a b = LintPromise o.world migrate file.now status a b
Obeys o (command.Test file) status a b = SaysUsage o.world status a b
Obeys o (command.Blobl raw pretty mapping) status a b = BloblPromise o mapping.now (record { raw = raw; pretty = pretty }) status a b
Obeys o (command.Load number seed) status a b = SaysUsage o.world status a b
Obeys o (command.Audit config trace) status a b = SaysUsage o.world status a b

-- what was done of words that were read so
abbrev pub Does : {W S K A C : Type 0} → Outside W S K A C → Result Command WordsFault → Status → W → W → Type 0
Does o (Ok c) status a b = Obeys o c status a b
Does o (Err fault.NoCommand) status a b = SaysUsage o.world status a b
Does o (Err fault.NoMemory) status a b = SaysWant o.world status a b

-- the program with these words, from a to b
pub record BenthosPromise {W S K A C : Type 0} (o : Outside W S K A C) (words : List (String Global)) (status : Status) (a b : W) : Type 0 where
  pub read : Result Command WordsFault
  pub are_read : AreRead words read
  pub does : Does o read status a b
