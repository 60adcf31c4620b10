use Rattle.std.proofs.Common.{Bor, List, ℕ, option_map}
use Rattle.bt_commands.specs.Outside.{over}
use Rattle.bt_configured.proofs.Whole.{configured_fault}
use Rattle.bt_configured.proofs.configured.run_configured.Goals as goal
